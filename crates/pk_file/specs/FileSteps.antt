-- What is asked of an image file, in order.
use Rattle.std.specs.Prelude.{ℕ, min, List, [], ◌∷◌, ◌++◌, take}
use Rattle.pk_image.specs.declared.tag.TheConstants.{ERASED, WHOLE, TORN}

pub data FileStep : Type 0 where
  -- from a page on, n state bytes become this one
  states_set : ℕ → ℕ → ℕ → FileStep
  -- bytes are written from the first of a page on
  bytes_written : ℕ → List ℕ → FileStep
  -- what was written is on the disk
  synced : FileStep

-- a step of which only m bytes were written
abbrev pub part_of : ℕ → FileStep → FileStep
part_of m (states_set first n byte) = states_set first (min m n) byte
part_of m (bytes_written page bytes) = bytes_written page (take m bytes)
part_of m synced = synced

abbrev pub erase_steps : ℕ → ℕ → List FileStep
erase_steps first count = states_set first count ERASED ∷ synced ∷ []

-- The first of the pages is Torn while their bytes are written; when these are on the disk, all of them become Whole.
abbrev pub row_steps : ℕ → ℕ → List FileStep → List FileStep
row_steps first count pieces = states_set first 1 TORN ∷ (pieces ++ (synced ∷ states_set first count WHOLE ∷ synced ∷ []))

-- bytes are written, if there are some
abbrev pub piece_steps : ℕ → List ℕ → List FileStep
piece_steps first [] = []
piece_steps first (byte ∷ bytes) = bytes_written first (byte ∷ bytes) ∷ []
