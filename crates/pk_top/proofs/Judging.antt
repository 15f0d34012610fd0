-- Words that ask for a flash with spare blocks, judged without memory.
use Rattle.std.proofs.Common.{◌≡◌, ◌/◌, ◌<◌, ◌≤◌, ◌&&◌, ℕ, List, [], ◌∷◌, Option, None, Some, option_and_then, Bool, true, false, if◌then◌else◌, nat_lt, nat_le, length, bytes_eq, codes}
use Rattle.std.proofs.Common.{Bor, subst, sym, ap, ◌∙◌, refl, arith}
use Rattle.std.{specs.Prelude.is_some, specs.Prelude.map, specs.Prelude.slice_index_or, proofs.lemmas.Bool.le-leb, proofs.lemmas.Bool.lt-leb, proofs.lemmas.Slice.Eq.bytes_eq-Decides}
use Rattle.pk_base.specs.Key.{Key}
use Rattle.pk_nvme.specs.Text.{bytes_of, some_bytes_of}
use Rattle.pk_asm.{proofs.TextLemmas.some_bytes_of-is, specs.Words.key_of}
use Rattle.pk_remap.specs.declared.layout.TheConstants.{MOST_SPARES}
use Rattle.pk_wordrun.specs.Tasks.{Task}
use Rattle.pk_top.{specs.Spared.SparedForm, specs.Spared.fits_spares_if, specs.Spared.spared_with, specs.Words.Word, specs.Words.ask, specs.Words.put_of, specs.Words.put_with, specs.Words.word_of}
use Rattle.pk_top.specs.declared.words.TheConstants.{VALUE_LENGTHS}

-- ---- the bytes that a word is

-- they are half as many as its digits
half_as_many : (word bytes : List ℕ) → bytes_of word ≡ Some bytes → length bytes ≡ length word / 2
half_as_many word bytes is = elim (bytes_eq word (codes "-")) as
    (λ b. bytes_eq word (codes "-") ≡ b → (if b then Some [] else some_bytes_of word) ≡ Some bytes → length bytes ≡ length word / 2) [
      | true ↦ λ dash e.
          let none : [] ≡ bytes = cc in
          let one : word ≡ codes "-" = (bytes_eq-Decides word (codes "-")).0 dash in
          let size : length word ≡ 1 = ap length one in
          subst (λ (l : List ℕ). length l ≡ length word / 2) none (omega (arith, size))
      | false ↦ λ other e. let size = (some_bytes_of-is word bytes e).1 in omega (arith, size)
    ] refl is

-- ---- the operands of `put`

some_if : (b : Bool) (word : Word) → b ≡ is_some (if b then Some word else None)
some_if true word = refl
some_if false word = refl

both_judged : (o : Option Key) (p : Option (List ℕ)) (n : ℕ) → ((bytes : List ℕ) → p ≡ Some bytes → length bytes ≡ n)
    → is_some o && (is_some p && nat_lt n VALUE_LENGTHS) ≡ is_some (option_and_then (λ key. option_and_then (λ bytes. put_with key bytes) p) o)
both_judged (Some key) (Some bytes) n half =
    ap (λ (m : ℕ). nat_lt m VALUE_LENGTHS) (sym (half bytes refl)) ∙ some_if (nat_lt (length bytes) VALUE_LENGTHS) _
both_judged o p n half = refl

-- a key, and a value whose length is a field of an entry
pub put_judged : (key value : List ℕ)
    → is_some (key_of key) && (is_some (bytes_of value) && nat_lt (length value / 2) VALUE_LENGTHS) ≡ is_some (put_of (key ∷ value ∷ []))
put_judged key value = both_judged (key_of key) (bytes_of value) (length value / 2) (half_as_many value)

-- two operands, as a slice has them
pub two_judged : (operands : List (Bor (List ℕ))) (none : Bor (List ℕ)) (has_key has_value : Bool) → 2 ≤ length operands → length operands < 3
    → has_key ≡ is_some (key_of (slice_index_or operands 0 none).now) → has_value ≡ is_some (bytes_of (slice_index_or operands 1 none).now)
    → has_key && (has_value && nat_lt (length (slice_index_or operands 1 none).now / 2) VALUE_LENGTHS) ≡ is_some (put_of (map (λ w. w.now) operands))
two_judged (a ∷ b ∷ []) none has_key has_value low high k v = rw (k, v) (put_judged a.now b.now)
two_judged operands none has_key has_value low high k v = absurd (omega (arith, low, high))

-- ---- the words over spare blocks

fits_if : (spares : ℕ) (b : Bool) (task : Task) → is_some (if b then Some (ask task) else None) ≡ fits_spares_if spares (if b then Some (ask task) else None)
fits_if spares true task = refl
fits_if spares false task = refl

fits_both : (spares : ℕ) (o : Option Key) (p : Option (List ℕ))
    → is_some (option_and_then (λ key. option_and_then (λ bytes. put_with key bytes) p) o)
    ≡ fits_spares_if spares (option_and_then (λ key. option_and_then (λ bytes. put_with key bytes) p) o)
fits_both spares (Some key) (Some bytes) = fits_if spares (nat_lt (length bytes) VALUE_LENGTHS) _
fits_both spares o p = refl

-- a `put` needs a drive
pub put_fits : (spares : ℕ) (operands : List (List ℕ)) → is_some (put_of operands) ≡ fits_spares_if spares (put_of operands)
put_fits spares (k ∷ b ∷ []) = fits_both spares (key_of k) (bytes_of b)
put_fits spares operands = refl

abbrev form_of : List (List ℕ) → ℕ → SparedForm
form_of rest spares = record { spares = spares; rest = rest }

no_form_if : (rest : List (List ℕ)) (spares : ℕ) (low high fits : Bool) → fits ≡ false
    → None ≡ (if low && high && fits then Some (form_of rest spares) else None)
no_form_if rest spares true true fits unfit = rw unfit refl
no_form_if rest spares low high fits unfit = refl

-- 1 to 64 spare blocks, and words that may be obeyed over them
pub spared_some : (rest : List (List ℕ)) (spares : ℕ) → 1 ≤ spares → spares ≤ MOST_SPARES → fits_spares_if spares (word_of rest) ≡ true
    → Some (form_of rest spares) ≡ spared_with rest spares
spared_some rest spares low high fits = rw (le-leb 1 spares low, le-leb spares MOST_SPARES high, fits)

pub spared_unfit : (rest : List (List ℕ)) (spares : ℕ) → fits_spares_if spares (word_of rest) ≡ false → None ≡ spared_with rest spares
spared_unfit rest spares unfit = no_form_if rest spares (nat_le 1 spares) (nat_le spares MOST_SPARES) _ unfit

-- other numbers of spare blocks
pub spared_none : (rest : List (List ℕ)) (spares : ℕ) → spares < 1 → None ≡ spared_with rest spares
spared_none rest spares low = rw (lt-leb 1 spares low)

pub spared_many : (rest : List (List ℕ)) (spares : ℕ) → MOST_SPARES < spares → None ≡ spared_with rest spares
spared_many rest spares many = beyond (nat_le 1 spares) _ (lt-leb spares MOST_SPARES many)
  where
    beyond : (low : Bool) (fits : Bool) → nat_le spares MOST_SPARES ≡ false
        → None ≡ (if low && nat_le spares MOST_SPARES && fits then Some (form_of rest spares) else None)
    beyond true fits none = rw none refl
    beyond false fits none = refl
