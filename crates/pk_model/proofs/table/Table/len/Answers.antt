use Rattle.std.proofs.Common.{◌∙◌, ap}
use Rattle.std.specs.FinMap as map
use Rattle.pk_model.proofs.Tables.{len-tree}
use Rattle.pk_model.proofs.table.Table.len.Goals as goal

pub returns : goal.returns
returns c = c.len.ensures.len ∙ len-tree c.self.inside.entries.entries c.len.ensures.ordered ∙ ap map.len c.self.view_is
