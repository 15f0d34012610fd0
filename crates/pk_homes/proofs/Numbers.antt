-- Numbers of bytes, where those that are missing count as 0, and the hash that they make.
use Rattle.std.proofs.Common.{◌≡◌, ℕ, zero, suc, ◌+◌, ◌-◌, ◌*◌, ◌/◌, ◌<◌, ◌≤◌, List, [], ◌∷◌, ◌++◌, length, replicate, take, drop, get_or, refl, ap, sym, ◌∙◌, arith, None, length-append, length-drop}
use Rattle.std.proofs.Common.{div-lt_iff_lt-mul, mul-le-mul_right, suc-mul}
use Rattle.std.proofs.lemmas.List.{get_or-drop, get_or_append_left, length-replicate}
use Rattle.byteorder.specs.Endian.{little_from}
use Rattle.pk_base.{specs.Shape.Shape, specs.Key.Key, specs.Fields.number_at, specs.Fields.padded, specs.Fields.zeros, specs.EntryBytes.cell_key}
use Rattle.pk_base.{specs.EntryChecks.entry_fault, specs.EntryChecks.entry_checks}
use Rattle.pk_base.{specs.FieldFaults.unlike, proofs.Tables.all_none, proofs.Tables.field_none, proofs.Tables.padded_stands, proofs.EntryLemmas.entry_size}
use Rattle.pk_homes.specs.Hash.{mixed, hash_of, hash_of_cell}

-- the same bytes are the same number
same_number : (n i : ℕ) (xs ys : List ℕ) → ((j : ℕ) → j < i + n → get_or xs j 0 ≡ get_or ys j 0) → little_from i n xs ≡ little_from i n ys
same_number zero i xs ys same = refl
same_number (suc n) i xs ys same = rw (same i (omega arith), same_number n (suc i) xs ys (λ j h. same j (omega arith))) refl

-- the number in eight bytes from a place on, within the first 16
same_eight : (a : ℕ) (xs ys : List ℕ) → ((j : ℕ) → j < a + 8 → get_or xs j 0 ≡ get_or ys j 0) → number_at 8 a xs ≡ number_at 8 a ys
same_eight a xs ys same =
    same_number 8 0 (drop a xs) (drop a ys) (λ j h. get_or-drop a xs j 0 ∙ same (a + j) (omega arith) ∙ sym (get_or-drop a ys j 0))

zeros_read : (m k : ℕ) → ◌≡◌ {A = ℕ} (get_or (replicate m 0) k 0) 0
zeros_read zero k = refl
zeros_read (suc m) zero = refl
zeros_read (suc m) (suc k) = zeros_read m k

-- zeros after bytes read as missing ones do
pub zeros_after : (xs : List ℕ) (m k : ℕ) → get_or (xs ++ replicate m 0) k 0 ≡ get_or xs k 0
zeros_after [] m k = zeros_read m k
zeros_after (x ∷ xs) m zero = refl
zeros_after (x ∷ xs) m (suc k) = zeros_after xs m k

padded_number : (a m : ℕ) (xs : List ℕ) → number_at 8 a (xs ++ replicate m 0) ≡ number_at 8 a xs
padded_number a m xs = same_eight a (xs ++ replicate m 0) xs (λ j h. zeros_after xs m j)

-- the hash of a key whose bytes were padded
pub padded_hash : (space : ℕ) (xs own : List ℕ) → own ≡ padded 16 xs → mixed space (number_at 8 0 own) (number_at 8 8 own) ≡ hash_of (space ∷ xs)
padded_hash space xs own is =
    rw (is, padded_number 0 (16 - length xs) xs, padded_number 8 (16 - length xs) xs) refl

-- ---- the bytes of an entry

module _ (g : Shape) (cell : List ℕ) (sized : length cell ≡ 32) (good : entry_fault g cell ≡ None) where
  abbrev size : ℕ
  size = get_or cell 0 0

  abbrev key : List ℕ
  key = take size (drop 4 cell)

  stands : drop 4 cell ≡ padded 16 key ++ drop 20 cell
  unfolding entry_fault
  stands =
      let passed = all_none (entry_checks g cell) good in
      padded_stands 4 16 size cell (entry_size g cell good).1 (omega arith) (field_none 4 (unlike (4 + size) (zeros (20 - (4 + size))) cell) passed.1.1.1.1.0)

  long : 16 ≤ length (padded 16 key)
  long = omega (arith, length-append key (zeros (16 - length key)), length-replicate {A = ℕ} (16 - length key) 0)

  key_read : (j : ℕ) → j < 16 → get_or (drop 4 cell) j 0 ≡ get_or key j 0
  key_read j h =
      ap (λ xs. get_or xs j 0) stands
      ∙ get_or_append_left (padded 16 key) (drop 20 cell) 0 j (omega (arith, long))
      ∙ zeros_after key (16 - length key) j

  at_four : (a : ℕ) → a + 8 ≤ 16 → number_at 8 (4 + a) cell ≡ number_at 8 a key
  at_four a h =
      same_number 8 0 (drop (4 + a) cell) (drop a key)
      (λ j less.
      get_or-drop (4 + a) cell j 0
      ∙ ap (λ n. get_or cell n 0) (omega arith)
      ∙ sym (get_or-drop 4 cell (a + j) 0)
      ∙ key_read (a + j) (omega arith)
      ∙ sym (get_or-drop a key j 0))

  -- an entry's hash is that of its key
  pub cell_hash : hash_of_cell cell ≡ hash_of (cell_key cell)
  cell_hash = rw (at_four 0 (omega arith), at_four 8 (omega arith)) refl

-- ---- the place of a home

pub home_fits : (h n : ℕ) → h < 4294967296 → n < 65536 → h * n < 18446744073709551616
home_fits h n small few =
    let up : h * n ≤ 4294967296 * n = mul-le-mul_right n (omega arith) in
    omega (arith, up)

pub home_within : (h n : ℕ) → h < 4294967296 → 0 < n → h * n / 4294967296 < n
home_within h n small some =
    let up : suc h * n ≤ 4294967296 * n = mul-le-mul_right n (omega arith) in
    let less : h * n < n * 4294967296 = omega (arith, up, suc-mul h n) in
    let base : 0 < 4294967296 = omega arith in
    (div-lt_iff_lt-mul base).1 less
