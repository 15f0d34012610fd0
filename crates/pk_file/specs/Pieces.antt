-- Writes of a row of pages: each byte that they write is the one that is wanted there, and they write each place that may have another.
use Rattle.std.specs.Prelude.{◌≡◌, ◌⊎◌, ℕ, ◌+◌, ◌*◌, ◌<◌, ◌≤◌, List, [], ◌∷◌, length, slice_index, Bool, false, Option}
use Rattle.pk_nand.specs.Calls.{longer}
use Rattle.pk_file.specs.FileSteps.{FileStep, states_set, bytes_written, synced}

-- Places are counted from the first byte of the first page of the flash; pages have this size.
module _ (size : ℕ) where
  -- bytes from the first of a page on lie between two places, and each is the one that is wanted at its place
  abbrev pub Right : ℕ → ℕ → (ℕ → ℕ) → ℕ → List ℕ → Type 0
  Right from to wanted page bytes = (q : ℕ) → q < length bytes → (from ≤ page * size + q) × (page * size + q < to) × (slice_index bytes q ≡ wanted (page * size + q))

  -- these are writes of bytes alone, and all are right
  abbrev pub AllRight : ℕ → ℕ → (ℕ → ℕ) → List FileStep → Type 0
  AllRight from to wanted [] = Unit {0}
  AllRight from to wanted (states_set first n byte ∷ steps) = ⊥
  AllRight from to wanted (bytes_written page bytes ∷ steps) = Right from to wanted page bytes × AllRight from to wanted steps
  AllRight from to wanted (synced ∷ steps) = ⊥

  -- bytes from the first of a page on have one at this place
  abbrev pub Reaches : ℕ → List ℕ → ℕ → Type 0
  Reaches page bytes p = (page * size ≤ p) × (p < page * size + length bytes)

  -- one of the steps writes this place
  abbrev pub Written : List FileStep → ℕ → Type 0
  Written [] p = ⊥
  Written (states_set first n byte ∷ steps) p = Written steps p
  Written (bytes_written page bytes ∷ steps) p = Reaches page bytes p ⊎ Written steps p
  Written (synced ∷ steps) p = Written steps p

  -- The steps and the bytes that wait write what is wanted between two places. A place that they do not write has a zero, and zero is
  -- wanted there.
  pub record Gathered (from to : ℕ) (wanted : ℕ → ℕ) (dirty : ℕ → Bool) (start now : Option (List FileStep)) (first : ℕ) (bytes : List ℕ) (gap : ℕ) : Type 0 where
    pub written : List FileStep
    pub steps : now ≡ longer start written
    pub right : AllRight from to wanted written
    pub own : Right from to wanted first bytes
    pub cover : (p : ℕ) → from ≤ p → p < to → (Written written p ⊎ Reaches first bytes p) ⊎ ((wanted p ≡ 0) × (dirty p ≡ false))
    pub tail : (p : ℕ) → 0 < length bytes → first * size + length bytes ≤ p → p < to → wanted p ≡ 0
    pub end : 0 < length bytes → first * size + length bytes + gap ≡ to

  -- A page at this place begins with these bytes, and zeros follow. The file has zeros at its place from `need` bytes on.
  pub record PageWanted (at : ℕ) (wanted : ℕ → ℕ) (dirty : ℕ → Bool) (front : List ℕ) (need : ℕ) : Type 0 where
    pub front_is : (q : ℕ) → q < length front → wanted (at + q) ≡ slice_index front q
    pub zeros : (q : ℕ) → length front ≤ q → q < size → wanted (at + q) ≡ 0
    pub same : (q : ℕ) → need ≤ q → q < size → dirty (at + q) ≡ false

  -- The page at this place is added to what is gathered, whatever is wanted elsewhere.
  abbrev pub Grows : ℕ → List ℕ → ℕ → Option (List FileStep) → Option (List FileStep) → ℕ → List ℕ → ℕ → ℕ → List ℕ → ℕ → Type 0
  Grows at front need now now' first bytes gap first' bytes' gap' =
      (from : ℕ) (wanted : ℕ → ℕ) (dirty : ℕ → Bool) (start : Option (List FileStep)) → from ≤ at → PageWanted at wanted dirty front need
      → Gathered from at wanted dirty start now first bytes gap → Gathered from (at + size) wanted dirty start now' first' bytes' gap'
