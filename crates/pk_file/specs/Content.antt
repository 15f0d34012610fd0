-- What an image file holds, what steps make of it, and which pages it shows.
use Rattle.std.specs.Prelude.{◌≡◌, ◌⊎◌, ℕ, ◌+◌, ◌*◌, ◌<◌, ◌≤◌, List, [], ◌∷◌, length, slice_index}
use Rattle.pk_base.{specs.Page.Page, specs.Page.erased, specs.Page.whole, specs.Page.torn}
use Rattle.pk_image.specs.declared.tag.TheConstants.{ERASED, WHOLE, TORN}
use Rattle.pk_file.specs.FileSteps.{FileStep, states_set, bytes_written, synced, part_of}

-- the state byte of each page, and the bytes of the pages, counted from the first of the first page
pub record Content : Type 0 where
  pub states : ℕ → ℕ
  pub bytes : ℕ → ℕ

-- pages have this size
module _ (size : ℕ) where
  -- what a step makes of the content
  abbrev pub Follows : FileStep → Content → Content → Type 0
  Follows (states_set first n byte) old new =
      ((k : ℕ) → first ≤ k → k < first + n → new.states k ≡ byte)
      × ((k : ℕ) → (k < first) ⊎ (first + n ≤ k) → new.states k ≡ old.states k)
      × ((p : ℕ) → new.bytes p ≡ old.bytes p)
  Follows (bytes_written page bytes) old new =
      ((k : ℕ) → new.states k ≡ old.states k)
      × ((q : ℕ) → q < length bytes → new.bytes (page * size + q) ≡ slice_index bytes q)
      × ((p : ℕ) → (p < page * size) ⊎ (page * size + length bytes ≤ p) → new.bytes p ≡ old.bytes p)
  Follows synced old new = new ≡ old

  -- what all steps make of it
  abbrev pub After : List FileStep → Content → Content → Type 0
  After [] old new = new ≡ old
  After (step ∷ steps) old new = (next : Content) × Follows step old next × After steps next new

  -- what it may be while the steps are made: after some of them, and a part of the next one
  abbrev pub During : List FileStep → Content → Content → Type 0
  During [] old new = new ≡ old
  During (step ∷ steps) old new = ((m : ℕ) × Follows (part_of m step) old new) ⊎ ((next : Content) × Follows step old next × During steps next new)

  -- the content has this page at this number
  abbrev pub Shows : Content → ℕ → Page → Type 0
  Shows content k erased = content.states k ≡ ERASED
  Shows content k (whole bytes) = (content.states k ≡ WHOLE) × ((q : ℕ) → q < size → content.bytes (k * size + q) ≡ slice_index bytes q)
  Shows content k torn = content.states k ≡ TORN
