-- What the write of a row of pages makes of an image file.
use Rattle.std.specs.Prelude.{◌≡◌, ◌⊎◌, ℕ, ◌+◌, ◌-◌, ◌*◌, ◌/◌, ◌%◌, ◌<◌, ◌≤◌, List, [], ◌∷◌, ◌++◌, length, slice_index, Bool, false, nat_lt, Option}
use Rattle.pk_base.{specs.Page.Page, specs.Page.Flash, specs.Page.torn, specs.Page.whole, specs.Page.erased, specs.Page.page_at}
use Rattle.pk_image.specs.declared.tag.TheConstants.{TORN}
use Rattle.pk_nand.specs.Calls.{longer}
use Rattle.pk_file.{specs.Content.Content, specs.Content.After, specs.Content.During, specs.Content.Shows}
use Rattle.pk_file.{specs.FileSteps.FileStep, specs.FileSteps.row_steps, specs.FileSteps.erase_steps, specs.Pieces.AllRight, specs.Pieces.Written}

-- the bytes of a page that is Whole
abbrev pub bytes_of_page : Page → List ℕ
bytes_of_page erased = []
bytes_of_page (whole bytes) = bytes
bytes_of_page torn = []

-- Pages of this size, as they are in memory.
module _ (size : ℕ) (pages : Flash) where
  -- the byte at a place, counted from the first byte of the first page
  abbrev pub wanted : ℕ → ℕ
  wanted p = slice_index (bytes_of_page (page_at pages (p / size))) (p % size)

  module _ (first : ℕ) (extents : List ℕ) where
    -- the file may have another byte than zero at this place, in a row of pages with these extents
    abbrev pub is_dirty : ℕ → Bool
    is_dirty p = nat_lt (p % size) (slice_index extents (p / size - first))

    -- Each page of the row is Whole in memory. Each byte that these writes have is that of the memory at its place, and they reach each place of the row that may have another.
    pub record BytesOfRow (pieces : List FileStep) : Type 0 where
      pub are_whole : (k : ℕ) → first ≤ k → k < first + length extents → (bytes : List ℕ) × (page_at pages k ≡ whole bytes)
      pub right : AllRight size (first * size) ((first + length extents) * size) wanted pieces
      pub cover : (p : ℕ) → first * size ≤ p → p < (first + length extents) * size → Written size pieces p ⊎ ((wanted p ≡ 0) × (is_dirty p ≡ false))

    -- these writes were made
    pub record BytesWritten (before after : Option (List FileStep)) : Type 0 where
      pub pieces : List FileStep
      pub steps : after ≡ longer before pieces
      pub own : BytesOfRow pieces

    -- in the file are zeros where the extents say so
    abbrev pub ZerosBehind : Content → Type 0
    ZerosBehind content = (p : ℕ) → first * size ≤ p → p < (first + length extents) * size → is_dirty p ≡ false → content.bytes p ≡ 0

    -- The file shows the first pages of the row, these many, as they are in memory. The state of each other page is as it was; but if none
    -- is shown, the first may be Torn. No byte of another page has changed.
    pub record RowShown (count : ℕ) (old new : Content) : Type 0 where
      pub shown : (k : ℕ) → first ≤ k → k < first + count → Shows size new k (page_at pages k)
      pub states : (k : ℕ) → (k < first) ⊎ (first + count ≤ k) → (new.states k ≡ old.states k) ⊎ ((count ≡ 0) × (k ≡ first) × (new.states k ≡ TORN))
      pub bytes : (p : ℕ) → (p < first * size) ⊎ ((first + length extents) * size ≤ p) → new.bytes p ≡ old.bytes p

    -- The steps of a row that was written. Whatever the file held, after each step and each part of one it shows the pages of some of the
    -- programs, in their order; and after the last step those of all.
    pub record RowProgrammed (before after : Option (List FileStep)) : Type 0 where
      pub pieces : List FileStep
      pub steps : after ≡ longer before (row_steps first (length extents) pieces)
      pub own : BytesOfRow pieces
      pub during : (old new : Content) → ZerosBehind old → During size (row_steps first (length extents) pieces) old new
          → (count : ℕ) × (count ≤ length extents) × RowShown count old new
      pub done : (old new : Content) → ZerosBehind old → After size (row_steps first (length extents) pieces) old new → RowShown (length extents) old new

-- The row was written, if it has pages.
abbrev pub RowWritten : ℕ → Flash → ℕ → List ℕ → Option (List FileStep) → Option (List FileStep) → Type 0
RowWritten size pages first [] before after = after ≡ before
RowWritten size pages first (extent ∷ extents) before after = RowProgrammed size pages first (extent ∷ extents) before after

-- A page was added to a row: it is the next one, and nothing is written; or the row was written before, and the page is the only one.
abbrev pub RowGrew : ℕ → Flash → ℕ → List ℕ → ℕ → List ℕ → ℕ → ℕ → Option (List FileStep) → Option (List FileStep) → Type 0
RowGrew size pages first extents first' extents' page extent before after =
    ((page ≡ first + length extents) × (first' ≡ first) × (extents' ≡ extents ++ extent ∷ []) × (after ≡ before))
    ⊎ ((first' ≡ page) × (extents' ≡ extent ∷ []) × RowWritten size pages first extents before after)

-- The row was written, and then pages were erased.
pub record RowErased (size : ℕ) (pages : Flash) (first : ℕ) (extents : List ℕ) (from count : ℕ) (before after : Option (List FileStep)) : Type 0 where
  pub between : Option (List FileStep)
  pub row : RowWritten size pages first extents before between
  pub erase : after ≡ longer between (erase_steps from count)
