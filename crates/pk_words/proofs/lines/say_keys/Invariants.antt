use Rattle.pk_words.proofs.LineLemmas.{AreSaid}
use Rattle.pk_words.proofs.lines.say_keys.Given as goal

abbrev pub invariant-loop-i : goal.invariant-loop-i
invariant-loop-i l = AreSaid l.page l.text l.initial.text l.i
