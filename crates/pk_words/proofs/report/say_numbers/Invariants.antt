use Rattle.pk_words.proofs.ReportLemmas.{AreCounted}
use Rattle.pk_words.proofs.report.say_numbers.Given as goal

abbrev pub invariant-loop-i : goal.invariant-loop-i
invariant-loop-i l = AreCounted l.numbers l.text l.initial.text l.i
