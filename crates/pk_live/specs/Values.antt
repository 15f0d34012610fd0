-- Live values, by the page at which each begins.
use Rattle.std.specs.Prelude.{◌≡◌, ℕ, Bool, true, false, ◌+◌, ◌*◌, ◌<◌, ◌≤◌, List, length, replicate, sum, take, drop, slice_index, slice_get, Some, Option, MatchOption, All}
use Rattle.pk_base.{specs.declared.sizes.TheConstants.MOST_BLOCK_PAGES, specs.declared.sizes.TheConstants.MOST_BLOCKS, specs.Shape.Shape, specs.Shape.page_count}

-- the pages of a block, the pages of the value that begins at each page, 0 if none does, and which blocks are closed
pub record Values : Type 0 where
  pub block_pages : ℕ
  pub heads : List ℕ
  pub closed : List Bool

-- no value, and no closed block
abbrev pub no_values : Shape → Values
no_values shape = record { block_pages = shape.block_pages; heads = replicate (page_count shape) 0; closed = replicate shape.blocks false }

-- the pages of the values that begin in block b of n pages
abbrev pub block_sum : List ℕ → ℕ → ℕ → ℕ
block_sum heads n b = sum (take n (drop (b * n) heads))

-- the live pages of a block
abbrev pub count_of : Values → ℕ → ℕ
count_of a b = block_sum a.heads a.block_pages b

-- the pages are those of the blocks, of which there are few, and no value is longer than a block can be
pub record AreValues (a : Values) : Type 0 where
  pub some : 0 < a.block_pages
  pub small : a.block_pages ≤ MOST_BLOCK_PAGES
  pub few : length a.closed ≤ MOST_BLOCKS
  pub pages : length a.heads ≡ a.block_pages * length a.closed
  pub short : All (λ h. h ≤ MOST_BLOCK_PAGES) a.heads

-- a value covers the page
abbrev pub IsLive : Values → ℕ → Type 0
IsLive a page = (h : ℕ) × (h ≤ page) × (page < h + slice_index a.heads h)

-- the block is closed
abbrev pub IsClosed : Values → ℕ → Type 0
IsClosed a b = slice_get a.closed b ≡ Some true

-- no closed block has fewer live pages, and none below b has as few
pub record IsLeastClosed (a : Values) (b : ℕ) : Type 0 where
  pub closed : IsClosed a b
  pub least : (k : ℕ) → IsClosed a k → count_of a b ≤ count_of a k
  pub lowest : (k : ℕ) → k < b → IsClosed a k → count_of a b < count_of a k

-- ---- inside

-- the counts are those of the heads
pub record IsCounted (n total : ℕ) (heads counts : List ℕ) (closed : List Bool) : Type 0 where
  pub positive : 0 < n
  pub small : n ≤ MOST_BLOCK_PAGES
  pub few : length closed ≤ MOST_BLOCKS
  pub pages : length heads ≡ n * length closed
  pub blocks : length counts ≡ length closed
  pub short : All (λ h. h ≤ MOST_BLOCK_PAGES) heads
  pub counted : (b : ℕ) → b < length counts → slice_index counts b ≡ block_sum heads n b
  pub all : total ≡ sum heads

-- b is the first of the closed blocks below i with the least count
pub record IsBestBelow (counts : List ℕ) (flags : List Bool) (i b : ℕ) : Type 0 where
  pub below : b < i
  pub closed : slice_get flags b ≡ Some true
  pub least : (k : ℕ) → k < i → slice_get flags k ≡ Some true → slice_index counts b ≤ slice_index counts k
  pub lowest : (k : ℕ) → k < b → slice_get flags k ≡ Some true → slice_index counts b < slice_index counts k

-- the best of the closed blocks below i, or none if none is closed
abbrev pub IsBestOf : List ℕ → List Bool → ℕ → Option ℕ → Type 0
IsBestOf counts closed i best = MatchOption best ((k : ℕ) → k < i → slice_get closed k ≡ Some true → ⊥) (λ b. IsBestBelow counts closed i b)
