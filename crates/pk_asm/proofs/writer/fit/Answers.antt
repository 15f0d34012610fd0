use Rattle.std.proofs.Common.{arith}
use Rattle.pk_asm.proofs.PrintLemmas.{fit_stop, fit_step, fit_all}
use Rattle.pk_asm.proofs.writer.fit.Goals as goal

pub returns-then-size-left : goal.returns-then-size-left
returns-then-size-left c = fit_stop c.args.words.now c.loop-word.word-index c.loop-word.left c.args.room (omega arith) c.loop-word.invariant (omega (arith, c.len-size.ensures.value))

pub loop-word-preserved : goal.loop-word-preserved
loop-word-preserved c = fit_step c.args.words.now c.loop-word.word-index c.loop-word.left _ c.args.room (omega arith) c.loop-word.invariant (omega (arith, c.len-size.ensures.value))

pub returns : goal.returns
returns c = fit_all c.args.words.now c.loop-word.word-index c.loop-word.left c.args.room (omega arith) c.loop-word.invariant
