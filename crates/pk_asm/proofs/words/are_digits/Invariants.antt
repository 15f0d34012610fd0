use Rattle.std.{proofs.Common.◌≡◌, proofs.Common.true, proofs.Common.take, specs.Char.is_ascii_digit, specs.List.list_all}
use Rattle.pk_asm.proofs.words.are_digits.Given as goal

abbrev pub invariant-loop-byte : goal.invariant-loop-byte
invariant-loop-byte l = list_all is_ascii_digit (take l.byte-index l.word) ≡ true
