use Rattle.std.proofs.Common.{◌-◌}
use Rattle.pk_walk.proofs.Paging.{Sought}
use Rattle.pk_walk.proofs.page.first_wanted.Given as goal

abbrev pub invariant-loop-low : goal.invariant-loop-low
invariant-loop-low l = record {
  sought : Sought l.position l.page l.from l.low l.high;
}

abbrev pub decreases-loop-low : goal.decreases-loop-low
decreases-loop-low l = l.high - l.low
