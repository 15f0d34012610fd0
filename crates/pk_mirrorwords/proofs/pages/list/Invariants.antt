use Rattle.std.proofs.Common.{◌≡◌}
use Rattle.pk_mirror.specs.Ranks.{keys_left}
use Rattle.pk_mirrorwords.proofs.Paging.{IsPaging}
use Rattle.pk_mirrorwords.proofs.pages.list.Given as goal

abbrev pub invariant-loop-next : goal.invariant-loop-next
invariant-loop-next g l = IsPaging g.P.Port.state g.P.Port.took g.Q.Port.state g.Q.Port.took l.initial.first l.first l.initial.second l.second l.mirror l.text.items l.last
    × (l.text.room ≡ l.initial.text.room)

abbrev pub decreases-loop-next : goal.decreases-loop-next
decreases-loop-next g l = keys_left l.last
