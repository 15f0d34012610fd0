-- Numbers of four bytes, as they are read and written.
use Rattle.std.proofs.Common.{◌≡◌, ℕ, ◌+◌, ◌-◌, ◌*◌, ◌^◌, ◌<◌, ◌≤◌, List, ◌++◌, length, take, drop, slice_index, get_or, sym, refl, ap, ◌∙◌, arith, get_or-drop, get_or-take}
use Rattle.std.proofs.lemmas.List.{length-take-le, drop-append-le, drop_all, take-append-drop, append_assoc, get_or_append_left}
use Rattle.sqlite_disk.specs.Disk.{Torn}
use Rattle.byteorder.specs.Endian.{little_bytes}
use Rattle.pk_base.proofs.Tables.{stands_number}
use Rattle.pk_redo.specs.Bytes.{number_in}

-- a number by its four bytes
pub four_bytes : (b : List ℕ) (at : ℕ) → number_in b at ≡ slice_index b (at + 0) + 256 * (slice_index b (at + 1) + 256 * (slice_index b (at + 2) + 256 * (slice_index b (at + 3) + 256 * 0)))
unfolding number_in
four_bytes b at = rw (get_or-drop at b 0 0, get_or-drop at b 1 0, get_or-drop at b 2 0, get_or-drop at b 3 0) refl

-- bytes were written at a place: what is before and behind them did not change
module _ (old new bytes : List ℕ) (at n : ℕ) (fits : at + n ≤ length old) (sized : length bytes ≡ n) (front : take (at + n) new ≡ take at old ++ bytes)
    (back : drop (at + n) new ≡ drop (at + n) old) (len : length new ≡ length old) where
  before : length (take at old) ≡ at
  before = length-take-le at old (omega arith)

  pub kept_below : (i : ℕ) → i < at → slice_index new i ≡ slice_index old i
  kept_below i low =
      sym (get_or-take (at + n) new i 0 (omega arith)) ∙ ap (λ (xs : List ℕ). get_or xs i 0) front ∙ get_or_append_left (take at old) bytes 0 i (omega (arith, before))
      ∙ get_or-take at old i 0 low

  pub kept_above : (i : ℕ) → at + n ≤ i → slice_index new i ≡ slice_index old i
  kept_above i high =
      let there : at + n + (i - (at + n)) ≡ i = omega arith in
      let was = get_or-drop (at + n) new (i - (at + n)) 0 in
      let is = get_or-drop (at + n) old (i - (at + n)) 0 in
      rw there at (sym was ∙ ap (λ (xs : List ℕ). get_or xs (i - (at + n)) 0) back ∙ is)

  pub torn_field : Torn at n old new
  torn_field = record { no_shorter = omega (arith, len); no_longer = omega (arith, len); below = λ i inside low. kept_below i low; above = λ i inside high. kept_above i high }

  -- they stand where they were written
  pub stands_there : drop at new ≡ bytes ++ drop (at + n) new
  stands_there =
      ap (drop at) (sym (take-append-drop (at + n) new)) ∙ ap (λ (xs : List ℕ). drop at (xs ++ drop (at + n) new)) front ∙ ap (drop at) (append_assoc (take at old) bytes (drop (at + n) new))
      ∙ drop-append-le at (take at old) (bytes ++ drop (at + n) new) (omega (arith, before))
      ∙ ap (λ (xs : List ℕ). xs ++ (bytes ++ drop (at + n) new)) (drop_all at (take at old) (omega (arith, before)))

-- a number that was written is read
pub number_written : (old new : List ℕ) (at x : ℕ) → at + 4 ≤ length old → x < 2 ^ 32 → take (at + 4) new ≡ take at old ++ little_bytes 4 x → drop (at + 4) new ≡ drop (at + 4) old
    → length new ≡ length old → number_in new at ≡ x
unfolding number_in
number_written old new at x fits small front back len = stands_number 4 at x (drop (at + 4) new) new (stands_there old new (little_bytes 4 x) at 4 fits refl front back len) small

pub torn_number : (old new : List ℕ) (at x : ℕ) → at + 4 ≤ length old → take (at + 4) new ≡ take at old ++ little_bytes 4 x → drop (at + 4) new ≡ drop (at + 4) old
    → length new ≡ length old → Torn at 4 old new
torn_number old new at x fits front back len = torn_field old new (little_bytes 4 x) at 4 fits refl front back len
