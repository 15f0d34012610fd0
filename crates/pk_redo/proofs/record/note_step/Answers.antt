use Rattle.std.proofs.Common.{arith}
use Rattle.pk_redo.proofs.Tables.{row_set}
use Rattle.pk_redo.proofs.record.note_step.Goals as goal

pub returns-in-Erase-clause-set : goal.returns-in-Erase-clause-set
returns-in-Erase-clause-set c log k low =
    let count = c.block_pages-count.ensures in
    rw c.in-Erase.is (row_set c.args.shape.now c.in-Erase.block k _ _ (omega (arith, count.shape.block_least)) (omega (arith, low, c.requires)) (rw count.value at c.note_row-in-Erase.ensures.inside)
    (rw count.value at c.note_row-in-Erase.ensures.outside))
