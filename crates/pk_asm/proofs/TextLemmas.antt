-- Words that are printed, read again.
use Rattle.std.proofs.Common.{◌≡◌, ℕ, zero, suc, ◌*◌, ◌/◌, ◌%◌, ◌^◌, ◌<◌, ◌≤◌, Bool, true, false, cond, List, [], ◌∷◌, ◌++◌, length, get_or, refl, sym, ap, ◌∙◌, arith, inl, inr, Option, Some, None}
use Rattle.std.proofs.Common.{Result, Ok, Err}
use Rattle.std.specs.Prelude.{nat_lt, nat_le, nat_eq, ◌==◌, ◌&&◌, ◌||◌, not, codes, bytes_eq, decimal}
use Rattle.std.{specs.Char.is_ascii_digit, specs.List.list_all, specs.Result.result_ok, specs.Str.Parse.AllDigits, specs.Str.Parse.digits_value, proofs.lemmas.List.append-nil}
use Rattle.std.{proofs.lemmas.Bool.and_parts, proofs.lemmas.Bool.cases_eq, proofs.lemmas.Bool.Decides.nat_tests, proofs.lemmas.Str.Parse.digit_from_value}
use Rattle.std.proofs.lemmas.Fmt.{decimal_is_IsNumeral, decimal_digit, first_decimal}
use Rattle.pk_asm.{proofs.DigitLemmas.digit_bounds, specs.Words.words, specs.Words.key_of, specs.Words.hex_entry, specs.Line.from_of, specs.Printed.line_of, specs.Printed.from_text}
use Rattle.hex.{specs.Hex.encode_with, specs.Hex.lower_digits, specs.Hex.decode_of, specs.declared.error.FromHexError.FromHexError}
use Rattle.hex.proofs.HexLemmas.{length-encode_with, decode_of-encode_lower, decode_of-ok}
use Rattle.pk_base.{specs.Fields.AreBytes, specs.Key.Key, specs.Key.IsKey, specs.Key.bytes_of as bytes_in, specs.Key.space_of}
use Rattle.pk_nvme.specs.Text.{is_number, number_of, number_text, hex_text, bytes_text, some_bytes_of, bytes_of}

-- ---- numbers

digits_pass : (ds : List ℕ) → AllDigits 10 ds → list_all is_ascii_digit ds ≡ true
digits_pass [] h = refl
digits_pass (d ∷ ds) h =
    let range = digit_from_value d h.0 in
    let here : is_ascii_digit d ≡ true = grind (arith, nat_tests) in
    rw (here, digits_pass ds h.1) refl

no_leading_zero : (n : ℕ) → n < 2 ^ 64 → (length (decimal n) == 1 || not (get_or (decimal n) 0 0 == 48)) ≡ true
no_leading_zero zero small = rw (decimal_digit 0 (omega arith)) refl
no_leading_zero (suc n) small =
    let first = first_decimal (suc n) (omega arith) small in
    grind (arith, nat_tests)

passed : (b c d : Bool) → b ≡ true → c ≡ true → d ≡ true → (b && c && d) ≡ true
passed b c d x y z = rw (x, y, z) refl

some_if : (b : Bool) (n m : ℕ) → b ≡ true → n ≡ m → cond b (Some n) None ≡ Some m
some_if b n m e same = rw e (ap Some same)

pub number_of-text : (n : ℕ) → n < 2 ^ 32 → number_of (number_text n) ≡ Some n
number_of-text n small =
    let wide : n < 2 ^ 64 = omega arith in
    let numeral = decimal_is_IsNumeral n wide in
    let some : nat_lt 0 (length (decimal n)) ≡ true = let h = numeral.0.0 in grind (arith, nat_tests) in
    let is_one : is_number (decimal n) ≡ true = passed _ _ _ some (digits_pass (decimal n) numeral.0.1) (no_leading_zero n wide) in
    let fits : nat_lt (digits_value 10 (decimal n)) (2 ^ 32) ≡ true = let h = numeral.1 in grind (arith, nat_tests) in
    some_if (is_number (decimal n) && nat_lt (digits_value 10 (decimal n)) (2 ^ 32)) (digits_value 10 (decimal n)) n (rw (is_one, fits) refl) numeral.1

-- ---- bytes

pub some_bytes_of-text : (bytes : List ℕ) → 0 < length bytes → AreBytes bytes → some_bytes_of (hex_text bytes) ≡ Some bytes
some_bytes_of-text bytes some fits =
    let sized = length-encode_with lower_digits bytes in
    let long : (length (hex_text bytes) == 0) ≡ false = grind (arith, nat_tests) in
    rw (long, decode_of-encode_lower bytes fits) refl

-- a key of namespace 1
pub in_first : (key : Key) → IsKey key → space_of key ≡ 1 → 1 ∷ bytes_in key ≡ key
in_first [] h first = let some = h.some in absurd (omega arith)
in_first (n ∷ bytes) h first = ap (λ (m : ℕ). m ∷ bytes) (sym first)

pub key_of-text : (key : Key) → IsKey key → space_of key ≡ 1 → AreBytes (bytes_in key) → key_of (hex_text (bytes_in key)) ≡ Some key
key_of-text key is_key first fits =
    let sized = length-encode_with lower_digits (bytes_in key) in
    let some = is_key.some in
    let most = is_key.most in
    let short : nat_le (length (hex_text (bytes_in key))) 32 ≡ true = grind (arith, nat_tests) in
    rw (short, some_bytes_of-text (bytes_in key) some fits) (ap Some (in_first key is_key first))

pub hex_entry-text : (e : List ℕ) → length e ≡ 64 → AreBytes e → hex_entry (hex_text e) ≡ Some e
hex_entry-text e sized fits =
    let digits = length-encode_with lower_digits e in
    let short : (length (hex_text e) == 128) ≡ true = grind (arith, nat_tests) in
    rw short (some_bytes_of-text e (omega arith) fits)

and_false : (b : Bool) → (b && false) ≡ false
and_false true = refl
and_false false = refl

-- digits are no single word `-`
no_dash : (byte : ℕ) (bytes : List ℕ) → bytes_eq (hex_text (byte ∷ bytes)) (codes "-") ≡ false
unfolding encode_with
no_dash byte bytes = and_false (nat_eq (get_or lower_digits (byte / 16) 0) 45)

pub bytes_of-text : (bytes : List ℕ) → AreBytes bytes → bytes_of (bytes_text bytes) ≡ Some bytes
bytes_of-text [] fits = refl
bytes_of-text (byte ∷ bytes) fits = rw (no_dash byte bytes) (some_bytes_of-text (byte ∷ bytes) (omega arith) fits)

no_dash_key : (key : List ℕ) → 1 ≤ length key → bytes_eq (hex_text key) (codes "-") ≡ false
no_dash_key [] some = absurd (omega arith)
no_dash_key (byte ∷ bytes) some = no_dash byte bytes

pub from_of-text : (from : Option Key) → ((key : Key) → from ≡ Some key → IsKey key × (space_of key ≡ 1) × AreBytes (bytes_in key)) → from_of (from_text from) ≡ Some from
from_of-text None h = refl
from_of-text (Some key) h =
    let k = h key refl in
    rw (no_dash_key (bytes_in key) k.0.some, key_of-text key k.0 k.1 k.2) refl

-- ---- words without blanks

abbrev pub is_free : List ℕ → Bool
is_free word = list_all (λ byte. not (byte == 32)) word

abbrev pub AreFree : List (List ℕ) → Type 0
AreFree [] = Unit {0}
AreFree (word ∷ words) = (is_free word ≡ true) × AreFree words

not_blank : (b : Bool) → not b ≡ true → b ≡ false
not_blank true e = cc
not_blank false e = refl

words_first : (word rest : List ℕ) → is_free word ≡ true → words (word ++ 32 ∷ rest) ≡ word ∷ words rest
words_first [] rest free = refl
words_first (byte ∷ word) rest free =
    let parts = and_parts _ _ free in
    rw (not_blank (byte == 32) parts.0, words_first word rest parts.1) refl

words_last : (word : List ℕ) → is_free word ≡ true → words word ≡ word ∷ []
words_last [] free = refl
words_last (byte ∷ word) free =
    let parts = and_parts _ _ free in
    rw (not_blank (byte == 32) parts.0, words_last word parts.1) refl

pub words-line_of : (word : List ℕ) (more : List (List ℕ)) → is_free word ≡ true → AreFree more → words (line_of (word ∷ more)) ≡ word ∷ more
words-line_of word [] free all = ap words (append-nil word) ∙ words_last word free
words-line_of word (next ∷ more) free all =
    words_first word (line_of (next ∷ more)) free ∙ ap (λ (ws : List (List ℕ)). word ∷ ws) (words-line_of next more all.0 all.1)

free_at : (xs : List ℕ) (k : ℕ) → is_free xs ≡ true → not (get_or xs k 0 == 32) ≡ true
free_at [] k h = refl
free_at (x ∷ xs) zero h = (and_parts _ _ h).0
free_at (x ∷ xs) (suc k) h = free_at xs k (and_parts _ _ h).1

pub free_hex : (bytes : List ℕ) → is_free (hex_text bytes) ≡ true
unfolding encode_with
free_hex [] = refl
free_hex (byte ∷ bytes) = rw (free_at lower_digits (byte / 16) refl, free_at lower_digits (byte % 16) refl, free_hex bytes) refl

pub free_bytes : (bytes : List ℕ) → is_free (bytes_text bytes) ≡ true
free_bytes [] = refl
free_bytes (byte ∷ bytes) = free_hex (byte ∷ bytes)

pub free_from : (from : Option (List ℕ)) → is_free (from_text from) ≡ true
free_from None = refl
free_from (Some key) = free_hex (bytes_in key)

free_digits : (ds : List ℕ) → list_all is_ascii_digit ds ≡ true → is_free ds ≡ true
free_digits [] h = refl
free_digits (d ∷ ds) h =
    let parts = and_parts (is_ascii_digit d) (list_all is_ascii_digit ds) h in
    let bounds = digit_bounds d parts.0 in
    let here : (d == 32) ≡ false = grind (arith, nat_tests) in
    rw (here, free_digits ds parts.1) refl

pub free_number : (n : ℕ) → n < 2 ^ 32 → is_free (number_text n) ≡ true
free_number n small =
    let wide : n < 2 ^ 64 = omega arith in
    free_digits (decimal n) (digits_pass (decimal n) (decimal_is_IsNumeral n wide).0.1)

-- ---- what words are read as

text_bytes : (word bytes : List ℕ) → result_ok (decode_of word) ≡ Some bytes → (length word ≡ 2 * length bytes) × AreBytes bytes
text_bytes word bytes e = step (decode_of word) refl e
  where
    step : (r : Result (List ℕ) FromHexError) → decode_of word ≡ r → result_ok r ≡ Some bytes → (length word ≡ 2 * length bytes) × AreBytes bytes
    step (Ok xs) is e =
        let same : xs ≡ bytes = cc in
        let ok = decode_of-ok word bytes (is ∙ ap Ok same) in
        (ok.2, ok.3)
    step (Err x) is e = cc

pub some_bytes_of-is : (word bytes : List ℕ) → some_bytes_of word ≡ Some bytes → (0 < length bytes) × (length word ≡ 2 * length bytes) × AreBytes bytes
some_bytes_of-is word bytes e =
    elim (cases_eq (length word) 0) [
      | inl none ↦ let empty : (length word == 0) ≡ true = grind (arith, nat_tests) in let clash : some_bytes_of word ≡ None = rw empty refl in cc
      | inr some ↦
          let full : (length word == 0) ≡ false = grind (arith, nat_tests) in
          let read : some_bytes_of word ≡ result_ok (decode_of word) = rw full refl in
          let is = text_bytes word bytes (sym read ∙ e) in
          (omega (arith, is.0), is.0, is.1)
    ]
