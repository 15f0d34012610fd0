use Rattle.pk_jrn.proofs.Replaying.{InSpacesTo}
use Rattle.pk_jrn.proofs.entries.are_in_spaces.Given as goal

abbrev pub invariant-loop-i : goal.invariant-loop-i
invariant-loop-i l = InSpacesTo l.shape l.page l.spaces l.count l.i
