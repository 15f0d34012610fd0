use Rattle.std.proofs.Common.{◌∙◌, sym, ap}
use Rattle.std.specs.FinMap as map
use Rattle.pk_model.proofs.Tables.{get-tree}
use Rattle.pk_model.proofs.table.Table.get.Goals as goal

pub returns : goal.returns
returns c = c.get.ensures.value ∙ sym (get-tree c.self.inside.entries.entries c.args.key.now) ∙ ap (λ m. map.get m c.args.key.now) c.self.view_is
