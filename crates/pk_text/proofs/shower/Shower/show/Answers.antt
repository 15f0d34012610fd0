use Rattle.std.proofs.Common.{arith}
use Rattle.pk_text.{specs.Records.shown_from, specs.Records.shown, proofs.Showing.Records-stop}
use Rattle.pk_text.proofs.Turning.{TextAdvances-empty, TextAdvances-then, TextAdvances-count, Turns-behind, Turns-all}
use Rattle.pk_text.proofs.shower.Shower.show.Goals as goal

pub returns-in-Err : goal.returns-in-Err
returns-in-Err g c = Turns-all shown _ _ _ (Turns-behind _ _ _ _ _ _ _ _ c.loop-taken.invariant (c.in-Err.ensures.quits c.loop-taken._taken (omega arith)))

pub loop-taken-preserved : goal.loop-taken-preserved
loop-taken-preserved g c =
    TextAdvances-count shown_from shown_from c.loop-taken._taken _ _ _ _ (TextAdvances-then _ _ _ _ _ _ _ _ _ c.loop-taken.invariant (c.in-Ok.ensures.advances c.loop-taken._taken (omega arith)))

pub returns : goal.returns
returns g c = Turns-all shown _ _ _ (Turns-behind _ _ _ _ _ _ _ _ c.loop-taken.invariant (Records-stop c.loop-taken._taken _ _ _ _ _ (omega arith) c.stop.ensures))

pub loop-taken-init : goal.loop-taken-init
loop-taken-init g c = TextAdvances-empty (shown_from 0) _ _ c.clear.ensures
