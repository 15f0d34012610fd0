use Rattle.std.proofs.Common.{◌≡◌, ◌-◌}
use Rattle.pk_core.proofs.Listing.{Fills}
use Rattle.pk_core.proofs.list.put_left.Given as goal

abbrev pub invariant-loop-next : goal.invariant-loop-next
invariant-loop-next g l = record {
  fills : Fills l.fn.parts (g.B.Nand.state l.fn.board) (g.B.Nand.state l.board) l.parts.walk l.space l.room l.fn.into l.into l.at;
  rest : l.parts ≡ record l.fn.parts { walk = l.parts.walk };
}

abbrev pub decreases-loop-next : goal.decreases-loop-next
decreases-loop-next g l = l.room - l.at.end
