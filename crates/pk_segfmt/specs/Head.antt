-- The head of a value: what it holds, and the first field that is wrong.
use Rattle.std.specs.Prelude.{ℕ, ◌+◌, ◌-◌, ◌≤◌, List, [], ◌∷◌, slice_index, ◌==◌, ◌&&◌, nat_le, nat_lt, Option}
use Rattle.pk_base.{specs.declared.sizes.TheConstants.KEY_BYTES, specs.declared.sizes.TheConstants.MOST_SPACES, specs.Fields.number_at, specs.Fields.field, specs.Fields.zeros}
use Rattle.pk_base.{specs.FieldFaults.unlike, specs.FieldFaults.unless, specs.FieldFaults.first_fault, specs.Shape.Shape, specs.Shape.greatest, specs.Key.Key, specs.Key.IsKey}
use Rattle.pk_segfmt.specs.declared.heads.TheConstants.{KIND}

-- PINKDATA
abbrev pub value_magic : List ℕ
value_magic = 80 ∷ 73 ∷ 78 ∷ 75 ∷ 68 ∷ 65 ∷ 84 ∷ 65 ∷ []

-- what a head can hold
pub record IsHead (shape : Shape) (key : Key) (len : ℕ) : Type 0 where
  pub is_key : IsKey key
  pub short : len ≤ greatest shape

-- the fields of a head in order, each with its place
abbrev pub head_checks : Shape → List ℕ → List (Option ℕ)
head_checks shape bytes =
    let size : ℕ = slice_index bytes 0 in
    unless 0 (nat_le 1 size && nat_le size KEY_BYTES) ∷ unlike 1 (KIND ∷ []) bytes ∷ unless 2 (nat_lt (slice_index bytes 2) MOST_SPACES && slice_index bytes 3 == 0)
    ∷ field 4 (unlike (4 + size) (zeros (20 - (4 + size))) bytes) ∷ unless 20 (nat_le (number_at 4 20 bytes) (greatest shape)) ∷ unlike 24 value_magic bytes ∷ []

-- the first byte of the first wrong field of a head
unfoldable pub head_fault : Shape → List ℕ → Option ℕ
head_fault shape bytes = first_fault (head_checks shape bytes)
