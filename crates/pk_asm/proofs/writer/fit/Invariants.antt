use Rattle.std.proofs.Common.{◌≡◌, ◌+◌, length, take}
use Rattle.pk_asm.specs.PrintedWord.{tail_text}
use Rattle.pk_asm.proofs.writer.fit.Given as goal

abbrev pub invariant-loop-word : goal.invariant-loop-word
invariant-loop-word l = l.left + length (tail_text (take l.word-index l.words)) ≡ l.room
