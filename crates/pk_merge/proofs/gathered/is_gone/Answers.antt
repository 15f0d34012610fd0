use Rattle.std.proofs.Common.{arith}
use Rattle.pk_meta.proofs.CellLemmas.{cell_len}
use Rattle.pk_merge.proofs.Filling.{kind_tells}
use Rattle.pk_merge.proofs.gathered.is_gone.Goals as goal

pub bounds-cell-1 : goal.bounds-cell-1
bounds-cell-1 c = omega (arith, cell_len c.args.cell.now c.requires)

pub returns : goal.returns
returns c = kind_tells c.args.cell.now
