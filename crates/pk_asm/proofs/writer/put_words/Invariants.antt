use Rattle.pk_asm.proofs.PrintLemmas.{WordsSoFar}
use Rattle.pk_asm.proofs.writer.put_words.Given as goal

abbrev pub invariant-loop-word : goal.invariant-loop-word
invariant-loop-word l = WordsSoFar l.words l.word-index l.initial.into l.into
