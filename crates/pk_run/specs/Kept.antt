-- What memory keeps of a run, and what this says of the pages of a flash and of the frames of an arena.
use Rattle.std.specs.Prelude.{◌≡◌, ℕ, ◌+◌, ◌*◌, ◌<◌, ◌≤◌, T, not, ◌||◌, ◌==◌, is_some, Bool, nat_le, false, List, [], ◌∷◌, ◌++◌, length, slice_get, option_map, Option, Some, None, Ok}
use Rattle.std.{specs.List.list_all, specs.FinMap.Entries.is_sorted}
use Rattle.pk_base.{specs.declared.sizes.TheConstants.LEVELS, specs.declared.sizes.TheConstants.MOST_SPACES, specs.Key.Key, specs.Key.key_cmp, specs.Key.IsBelow, specs.Entry.Entry, specs.Entry.key_of}
use Rattle.pk_base.specs.Shape.{Shape, page_entries, run_pages, cap, blocks_of}
use Rattle.pk_base.specs.Page.{Flash, page_at, page_in, whole}
use Rattle.pk_meta.{specs.Page.meta_entries, specs.Run.run}
use Rattle.pk_nand.{specs.BoardState.BoardState, specs.Operations.after_read}
use Rattle.pk_pin.specs.Frames.{Frames, IsLeased, frame_of, leased, filled}

-- the level, how many entries there are, the blocks in order, the first key of each page, and a lease for each of its first pages, as many as have a frame
pub record Kept : Type 0 where
  pub shape : Shape
  pub level : ℕ
  pub count : ℕ
  pub blocks : List ℕ
  pub firsts : List Key
  pub leases : List ℕ

-- a run of this level without entries
abbrev pub empty : Shape → ℕ → Kept
empty shape level = record { shape = shape; level = level; count = 0; blocks = []; firsts = []; leases = [] }

-- the number on the flash of page j of the run
abbrev pub page_of : Kept → ℕ → ℕ
page_of r j = page_in r.shape r.blocks j

-- most pages of a run of this level, and most blocks
abbrev pub most_pages : Kept → ℕ
most_pages r = cap r.shape r.level

abbrev pub most_blocks : Kept → ℕ
most_blocks r = blocks_of r.shape (most_pages r)

-- each page has a frame; so it is if there is no page
abbrev pub IsPinned : Kept → Type 0
IsPinned r = length r.leases ≡ length r.firsts

-- whether it is so; a run has no more frames than pages
abbrev pub is_pinned : Kept → Bool
is_pinned r = nat_le (length r.firsts) (length r.leases)

-- the frame of the lease contains the page
pub record IsFrameOf (flash : Flash) (arena : Frames) (page lease : ℕ) : Type 0 where
  pub leased : IsLeased arena lease
  pub bytes : page_at flash page ≡ whole (frame_of arena lease)

-- The entries of the run on the flash are es, and what is kept describes their pages.
pub record RunOnFlash (r : Kept) (flash : Flash) (arena : Frames) (es : List Entry) : Type 0 where
  pub read : run r.shape MOST_SPACES (page_at flash) r.level r.count r.blocks ≡ Ok es
  pub many : length es ≡ r.count
  pub rising : T (is_sorted key_cmp es)
  pub pages : length r.firsts ≡ run_pages r.shape r.count
  pub within : length r.firsts ≤ length r.blocks * r.shape.block_pages
  pub starts : (j : ℕ) → j < length r.firsts → slice_get r.firsts j ≡ option_map key_of (slice_get es (j * page_entries r.shape))
  pub leased : length r.leases ≤ length r.firsts
  pub frames : (j lease : ℕ) → slice_get r.leases j ≡ Some lease → IsFrameOf flash arena (page_of r j) lease

-- each key is below all later ones
abbrev pub Rises : List Key → Type 0
Rises keys = (i j : ℕ) (a b : Key) → i < j → slice_get keys i ≡ Some a → slice_get keys j ≡ Some b → IsBelow a b

-- ---- one more page

abbrev pub with_lease : List ℕ → Option ℕ → List ℕ
with_lease leases None = leases
with_lease leases (Some lease) = leases ++ lease ∷ []

-- after the pages so far there is one that begins with this key, of n entries
abbrev pub with_page : Kept → Key → Option ℕ → ℕ → Kept
with_page r first lease more = record r { count = r.count + more; firsts = r.firsts ++ first ∷ []; leases = with_lease r.leases lease }

-- a page is pinned if those before it are
abbrev pub IsPinnedAlike : Kept → Flash → Frames → Option ℕ → Type 0
IsPinnedAlike r flash arena None = r.leases ≡ []
IsPinnedAlike r flash arena (Some lease) = IsPinned r × IsFrameOf flash arena (page_of r (length r.firsts)) lease

-- The next page of the run's blocks has more entries, which begin with this key and follow es.
pub record IsNext (r : Kept) (flash : Flash) (arena : Frames) (es more : List Entry) (first : Key) (lease : Option ℕ) : Type 0 where
  pub bytes : List ℕ
  pub here : page_at flash (page_of r (length r.firsts)) ≡ whole bytes
  pub holds : meta_entries r.shape r.level (length r.firsts) (length more) bytes ≡ Some more
  pub begins : option_map key_of (slice_get more 0) ≡ Some first
  pub rising : T (is_sorted key_cmp (es ++ more))
  -- the deepest run keeps no deleted keys
  pub deepest : T (not (r.level == LEVELS) || list_all (λ e. is_some e.1) more)
  pub alike : IsPinnedAlike r flash arena lease

-- ---- one more frame

-- The first page without a frame has one now, which was free.
pub record FillsPage (r : Kept) (arena : Frames) (r' : Kept) (arena' : Frames) : Type 0 where
  pub lease : ℕ
  pub bytes : List ℕ
  pub was_free : slice_get arena.used lease ≡ Some false
  pub run_is : r' ≡ record r { leases = r.leases ++ lease ∷ [] }
  pub arena_is : arena' ≡ filled (leased arena lease) lease bytes

-- ---- looking at a page

-- the board after it: one read, and none if the page has a frame
abbrev pub after_look : Option ℕ → BoardState → BoardState
after_look None board = after_read board
after_look (Some lease) board = board

-- ---- what every run keeps to

-- a run keeps within its level
pub record IsKept (r : Kept) : Type 0 where
  pub level_least : 1 ≤ r.level
  pub level_most : r.level ≤ LEVELS
  pub bound : most_pages r ≤ 1000000
  pub pages : length r.firsts ≤ most_pages r
  pub frames : length r.leases ≤ length r.firsts
  pub places : length r.blocks ≤ most_blocks r
  pub entries : r.count ≤ length r.firsts * page_entries r.shape
