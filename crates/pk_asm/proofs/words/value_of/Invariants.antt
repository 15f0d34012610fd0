use Rattle.std.{proofs.Common.◌≡◌, proofs.Common.◌^◌, proofs.Common.◌<◌, proofs.Common.take, specs.Str.Parse.digits_value}
use Rattle.pk_asm.proofs.words.value_of.Given as goal

abbrev pub invariant-loop-digit : goal.invariant-loop-digit
invariant-loop-digit l = (l.value < 2 ^ 32) × (l.value ≡ digits_value 10 (take l.digit-index l.digits))
