use Rattle.pk_asm.proofs.DigitLemmas.{IsDecoding}
use Rattle.pk_asm.proofs.words.decode.Given as goal

abbrev pub invariant-loop-i : goal.invariant-loop-i
invariant-loop-i l = IsDecoding l.word l.i l.initial.value.room l.value
