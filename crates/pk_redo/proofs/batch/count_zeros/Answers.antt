use Rattle.std.proofs.Common.{◌+◌, arith, sym, ◌∙◌}
use Rattle.pk_redo.proofs.Zeros.{zeros-none, zeros_split}
use Rattle.pk_redo.proofs.batch.count_zeros.Goals as goal

pub loop-done-init : goal.loop-done-init
loop-done-init c = (sym (zeros-none _ _), omega arith, omega arith)

pub loop-done-preserved : goal.loop-done-preserved
loop-done-preserved c =
    let split = zeros_split c.args.bytes.now c.args.at c.loop-done.done c.min-more.result in
    (omega (arith, split, c.count_few.ensures.value, c.loop-done.invariant.0), omega (arith, c.count_few.ensures.few, c.loop-done.invariant.1), omega (arith, c.loop-done.invariant.2))
