use Rattle.std.proofs.Common.{◌≡◌, ◌∙◌, ◌%◌, ℕ, List, length, false, sym, subst, arith, rules}
use Rattle.std.specs.Prelude.{bytes_eq, codes}
use Rattle.pk_asm.proofs.DigitLemmas.{digits_are_bytes}
use Rattle.pk_asm.proofs.words.is_bytes_word.Goals as goal

pub returns : goal.returns
returns c =
    let same : c.as_slice.result.now ≡ codes "-" = search rules in
    let other : bytes_eq c.args.word.now (codes "-") ≡ false = subst (λ (l : List ℕ). bytes_eq c.args.word.now l ≡ false) same (sym c.if-eq.ensures) in
    let odd = c.if-word-eq1.false in
    let even : length c.args.word.now % 2 ≡ 0 = omega (arith, odd) in
    c.are_hex_digits.ensures ∙ digits_are_bytes c.args.word.now other (sym c.is_empty.ensures ∙ c.if-is_empty.false) even
