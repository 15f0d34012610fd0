-- The check of a head passes exactly the bytes of heads.
use Rattle.std.proofs.Common.{◌≡◌, ℕ, ◌+◌, ◌-◌, ◌^◌, ◌<◌, ◌≤◌, true, List, [], ◌∷◌, length, take, drop, get_or, refl, sym, ap, subst, ◌∙◌, arith, length-drop, Some, None}
use Rattle.std.specs.Prelude.{nat_eq, nat_le, nat_lt, ◌&&◌, Result, Ok, Err, IfOk, MatchResult}
use Rattle.std.{proofs.lemmas.Bool.Decides.nat_tests, proofs.lemmas.List.drop_more, proofs.lemmas.List.drop_all, proofs.lemmas.List.length-take-le}
use Rattle.pk_base.{specs.Fields.number_at, specs.Fields.u32, specs.Fields.padded, specs.Fields.zeros, specs.FieldFaults.unlike, specs.Shape.Shape, specs.Shape.IsShape, specs.Shape.greatest}
use Rattle.pk_base.{specs.Key.Key, specs.Key.IsKey, specs.Key.space_of, specs.Key.bytes_of, specs.EntryBytes.cell_key, specs.declared.sizes.TheConstants.MOST_SPACES, proofs.ShapeLemmas.greatest_most}
use Rattle.pk_base.proofs.Tables.{◌⊕◌, field_none, none_field, AllNone, all_none, first_none, unless_true, true_unless, unlike_stands, stands_byte, stands_unlike, number_stands, stands_number, Stand}
use Rattle.pk_base.proofs.Tables.{AreSized, stand_spelled, spelled_stand, padded_stands, stands_padded, length-padded}
use Rattle.pk_segfmt.{specs.declared.found.Head.Head, specs.declared.found.BadHead.BadHead, specs.Head.value_magic, specs.Head.IsHead, specs.Head.head_checks, specs.Head.head_fault}
use Rattle.pk_segfmt.specs.Value.{head_bytes}

rows : Key → ℕ → List (ℕ × List ℕ)
rows key len =
    (1, length (bytes_of key) ∷ []) ∷ (1, 68 ∷ []) ∷ (1, (space_of key - 1) ∷ []) ∷ (1, zeros 1) ∷ (16, padded 16 (bytes_of key)) ∷ (4, u32 len) ∷ (8, value_magic) ∷ []

module _ (g : Shape) (bytes : List ℕ) (sized : length bytes ≡ 32) (good : head_fault g bytes ≡ None) where
  abbrev size : ℕ
  size = get_or bytes 0 0

  abbrev key : Key
  key = cell_key bytes

  passed : AllNone (head_checks g bytes)
  unfolding head_fault
  passed = all_none (head_checks g bytes) good

  pub size_fits : (1 ≤ size) × (size ≤ 16)
  size_fits =
      let h = unless_true 0 (nat_le 1 size && nat_le size 16) passed.0 in
      (grind (arith, nat_tests), grind (arith, nat_tests))

  tests : (nat_lt (get_or bytes 2 0) MOST_SPACES && nat_eq (get_or bytes 3 0) 0) ≡ true
  tests = unless_true 2 (nat_lt (get_or bytes 2 0) MOST_SPACES && nat_eq (get_or bytes 3 0) 0) passed.1.1.0

  pub space_fits : get_or bytes 2 0 < MOST_SPACES
  space_fits = let h = tests in grind (arith, nat_tests)

  zero_behind : get_or bytes 3 0 ≡ 0
  zero_behind = let h = tests in grind (arith, nat_tests)

  key_len : length (bytes_of key) ≡ size
  key_len = length-take-le size (drop 4 bytes) (omega (arith, size_fits.1, length-drop 4 bytes))

  pub key_is : IsKey key
  key_is = record {
    some = omega (arith, size_fits.0, key_len);
    most = omega (arith, size_fits.1, key_len);
    space_some = omega arith;
    space_most = omega (arith, space_fits);
  }

  pub key_slice : IsKey ((get_or bytes 2 0 + 1) ∷ take (4 + size - 4) (drop 4 bytes))
  key_slice =
      let e : 4 + size - 4 ≡ size = omega arith in
      rw e key_is

  pub head_takes : ((i : ℕ) → get_or bytes i 0 < 256) → IsHead g key (number_at 4 20 bytes) × (bytes ≡ head_bytes key (number_at 4 20 bytes))
  unfolding rows head_bytes
  head_takes fits =
      let h = unless_true 20 (nat_le (number_at 4 20 bytes) (greatest g)) passed.1.1.1.1.0 in
      let space : space_of key - 1 ≡ get_or bytes 2 0 = omega arith in
      let row : Stand 0 (rows key (number_at 4 20 bytes)) bytes =
      (drop_more bytes 0 0 (omega arith) ∙ ap (λ (n : ℕ). n ∷ drop 1 bytes) (sym key_len))
      ⊕ unlike_stands 1 (68 ∷ []) bytes passed.1.0 (omega arith)
      ⊕ (drop_more bytes 2 0 (omega arith) ∙ ap (λ (n : ℕ). n ∷ drop 3 bytes) (sym space))
      ⊕ (drop_more bytes 3 0 (omega arith) ∙ ap (λ (n : ℕ). n ∷ drop 4 bytes) zero_behind)
      ⊕ padded_stands 4 16 size bytes size_fits.1 (omega arith) (field_none 4 (unlike (4 + size) (zeros (20 - (4 + size))) bytes) passed.1.1.1.0)
      ⊕ number_stands 4 20 bytes fits (omega arith)
      ⊕ unlike_stands 24 value_magic bytes passed.1.1.1.1.1.0 (omega arith)
      ⊕ drop_all 32 bytes (omega arith) in
      (record { is_key = key_is; short = grind (arith, nat_tests) }, stand_spelled 0 (rows key (number_at 4 20 bytes)) bytes row)

-- a value has less than a mebibyte and a half
pub greatest_small : (g : Shape) → IsShape g → greatest g ≤ 1048576
unfolding greatest
greatest_small g shape = greatest_most g.block_pages g.page_bytes shape.block_most shape.page_most

-- a head's bytes pass, and are read as the head
pub record Read (g : Shape) (bytes key : List ℕ) (len : ℕ) : Type 0 where
  pub passes : head_fault g bytes ≡ None
  pub key_read : cell_key bytes ≡ key
  pub len_read : number_at 4 20 bytes ≡ len

-- the key is its namespace and its bytes
key_whole : (key : Key) → IsKey key → (space_of key - 1 + 1) ∷ bytes_of key ≡ key
key_whole [] h = let some = h.some in absurd (omega arith)
key_whole (n ∷ b) h = let some = h.space_some in ap (λ (m : ℕ). m ∷ b) (omega arith)

pub head_again : (g : Shape) (bytes key : List ℕ) (len : ℕ) → IsShape g → IsHead g key len → bytes ≡ head_bytes key len → Read g bytes key len
unfolding rows head_bytes head_fault
head_again g bytes key len shape is e =
    let sized : AreSized (rows key len) = refl ⊕ refl ⊕ refl ⊕ refl ⊕ length-padded 16 (bytes_of key) is.is_key.most ⊕ refl ⊕ refl ⊕ tt in
    let row = spelled_stand 0 (rows key len) bytes sized e in
    let small : len < 2 ^ 32 = omega (arith, is.short, greatest_small g shape) in
    let size_is = stands_byte 0 (length (bytes_of key)) (drop 1 bytes) bytes row.0 in
    let space_is = stands_byte 2 (space_of key - 1) (drop 3 bytes) bytes row.1.1.0 in
    let three_is = stands_byte 3 0 (drop 4 bytes) bytes row.1.1.1.0 in
    let len_is = stands_number 4 20 len (drop 24 bytes) bytes row.1.1.1.1.1.0 small in
    let pad = stands_padded 4 16 (bytes_of key) (drop 20 bytes) bytes row.1.1.1.1.0 is.is_key.most in
    record {
      passes = first_none (head_checks g bytes) (
          true_unless 0 _ (rw size_is (grind (arith, nat_tests, is.is_key.some, is.is_key.most)))
          ⊕ stands_unlike 1 (68 ∷ []) (drop 2 bytes) bytes row.1.0
          ⊕ true_unless 2 _ (rw (space_is, three_is) (let most = is.is_key.space_most in let some = is.is_key.space_some in grind (arith, nat_tests)))
          ⊕ rw size_is (none_field 4 (unlike (4 + length (bytes_of key)) (zeros (20 - (4 + length (bytes_of key)))) bytes) pad.0)
          ⊕ true_unless 20 _ (rw len_is (grind (arith, nat_tests, is.short)))
          ⊕ stands_unlike 24 value_magic (drop 32 bytes) bytes row.1.1.1.1.1.1.0
          ⊕ tt);
      key_read = rw (size_is, space_is, pad.1) (key_whole key is.is_key);
      len_read = len_is;
    }

abbrev pub Exact : Shape → List ℕ → Result Head BadHead → Type 0
Exact g bytes r =
    MatchResult r (λ h. (head_fault g bytes ≡ None) × (h ≡ record { key = cell_key bytes; len = number_at 4 20 bytes })) (λ bad. head_fault g bytes ≡ Some bad.at)

pub found : (g : Shape) (bytes : List ℕ) (r : Result Head BadHead) → ((i : ℕ) → get_or bytes i 0 < 256) → length bytes ≡ 32 → Exact g bytes r
    → IfOk r (λ h. IsHead g h.key h.len × (bytes ≡ head_bytes h.key h.len))
found g bytes (Ok h) fits sized e =
    let P : Head → Type 0 = λ h. IsHead g h.key h.len × (bytes ≡ head_bytes h.key h.len) in
    subst P (sym e.1) (head_takes g bytes sized e.0 fits)
found g bytes (Err bad) fits sized e = tt

pub only : (g : Shape) (bytes : List ℕ) (r : Result Head BadHead) → IsShape g → Exact g bytes r
    → (key : List ℕ) (len : ℕ) → IsHead g key len → bytes ≡ head_bytes key len → r ≡ Ok (record { key = key; len = len })
only g bytes (Ok h) shape e key len is same =
    let own = head_again g bytes key len shape is same in
    ap (λ (y : Head). Ok y) (e.1 ∙ (λ i. record { key = own.key_read i; len = own.len_read i }))
only g bytes (Err bad) shape e key len is same =
    let passes = (head_again g bytes key len shape is same).passes in
    cc
