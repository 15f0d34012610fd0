use Rattle.pk_mirrorwords.proofs.Paging.{AreAdded}
use Rattle.pk_mirrorwords.proofs.pages.add_keys.Given as goal

abbrev pub invariant-loop-i : goal.invariant-loop-i
invariant-loop-i l = AreAdded l.page l.text l.initial.text l.i
