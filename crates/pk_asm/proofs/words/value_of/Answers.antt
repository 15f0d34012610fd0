use Rattle.std.proofs.Common.{arith}
use Rattle.pk_asm.proofs.DigitLemmas.{value_step, value_stop, small_enough}
use Rattle.pk_asm.proofs.words.value_of.Goals as goal

pub returns-in-None : goal.returns-in-None
returns-in-None c =
    value_stop c.args.digits.now c.loop-digit.digit-index c.loop-digit.value c.requires (omega arith) c.loop-digit.invariant.1 c.in-None.ensures

pub loop-digit-preserved : goal.loop-digit-preserved
loop-digit-preserved c = (
  omega (arith, c.in-Some.ensures.0, c.in-Some.ensures.1),
  value_step c.args.digits.now c.loop-digit.digit-index c.loop-digit.value c.in-Some.more c.requires (omega arith) c.loop-digit.invariant.1 c.in-Some.ensures.1,
)

pub returns : goal.returns
returns c = small_enough c.args.digits.now c.loop-digit.digit-index c.loop-digit.value (omega arith) c.loop-digit.invariant.0 c.loop-digit.invariant.1
