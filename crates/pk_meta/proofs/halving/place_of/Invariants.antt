use Rattle.std.proofs.Common.{◌-◌}
use Rattle.pk_meta.proofs.FindLemmas.{Narrowed}
use Rattle.pk_meta.proofs.halving.place_of.Given as goal

abbrev pub invariant-loop-low : goal.invariant-loop-low
invariant-loop-low l = record { narrowed : Narrowed l.key l.page l.low l.high }

abbrev pub decreases-loop-low : goal.decreases-loop-low
decreases-loop-low l = l.high - l.low
