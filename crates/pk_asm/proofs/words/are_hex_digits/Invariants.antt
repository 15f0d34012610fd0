use Rattle.std.{proofs.Common.◌≡◌, proofs.Common.true, proofs.Common.take, specs.List.list_all}
use Rattle.hex.specs.Hex.{is_hex_digit}
use Rattle.pk_asm.proofs.words.are_hex_digits.Given as goal

abbrev pub invariant-loop-byte : goal.invariant-loop-byte
invariant-loop-byte l = list_all is_hex_digit (take l.byte-index l.word) ≡ true
