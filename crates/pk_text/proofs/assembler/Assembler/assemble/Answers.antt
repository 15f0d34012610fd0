use Rattle.std.proofs.Common.{arith}
use Rattle.pk_text.{specs.Assembled.assembled_from, specs.Assembled.assembled, proofs.Lining.Lines-stop}
use Rattle.pk_text.proofs.Turning.{TextAdvances-empty, TextAdvances-then, TextAdvances-count, Turns-behind, Turns-all}
use Rattle.pk_text.proofs.assembler.Assembler.assemble.Goals as goal

pub returns-in-Err : goal.returns-in-Err
returns-in-Err g c = Turns-all assembled _ _ _ (Turns-behind _ _ _ _ _ _ _ _ c.loop-taken.invariant.advances (c.in-Err.ensures.quits c.loop-taken._taken (omega arith)))

pub loop-taken-preserved : goal.loop-taken-preserved
loop-taken-preserved g c = record {
  few = omega (arith, c.in-Ok.ensures.few, c.loop-taken.invariant.few);
  advances =
      TextAdvances-count (λ n. assembled_from n 1) (λ n. assembled_from n c.in-Ok.next) c.loop-taken._taken _ _ _ _
      (TextAdvances-then _ _ _ _ _ _ _ _ _ c.loop-taken.invariant.advances (c.in-Ok.ensures.advances c.loop-taken._taken (omega arith)));
}

pub returns : goal.returns
returns g c = Turns-all assembled _ _ _ (Turns-behind _ _ _ _ _ _ _ _ c.loop-taken.invariant.advances (Lines-stop c.loop-taken._taken c.loop-taken.number _ _ _ _ _ (omega arith) c.stop.ensures))

pub loop-taken-init : goal.loop-taken-init
loop-taken-init g c = record { few = omega arith; advances = TextAdvances-empty (assembled_from 0 1) _ _ c.clear.ensures }
