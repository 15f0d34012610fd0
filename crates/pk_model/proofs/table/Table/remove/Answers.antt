use Rattle.std.proofs.Common.{◌∙◌, ap}
use Rattle.std.specs.FinMap as map
use Rattle.pk_model.proofs.Tables.{remove-tree}
use Rattle.pk_model.proofs.table.Table.remove.Goals as goal

pub returns : goal.returns
returns c =
    remove-tree c.self.inside.entries.entries c.remove.new.self.entries c.args.key.now c.remove.ensures.updates.0
    ∙ ap (λ m. map.remove m c.args.key.now) c.self.view_is
