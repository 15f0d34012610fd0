-- Where a key is looked for among the pages of a run.
use Rattle.std.specs.Prelude.{◌≡◌, ◌≢◌, ◌⊎◌, ℕ, suc, ◌+◌, ◌*◌, ◌<◌, ◌≤◌, List, length, slice_get, slice_index, Some, None, Option, MatchOption}
use Rattle.std.{specs.declared.cmp.Ordering.TheVariants.Greater, specs.FinMap.Entries.find}
use Rattle.pk_base.{specs.Key.Key, specs.Key.key_cmp, specs.Entry.Entry, specs.Entry.key_of, specs.Seen.entry, specs.declared.entry.Entry.Entry as RustEntry}
use Rattle.byteorder.specs.Endian.{big_number}
use Rattle.pk_base.{specs.declared.sizes.TheConstants.KEY_BYTES, specs.declared.sizes.TheConstants.HEAD_BYTES, specs.declared.sizes.TheConstants.ENTRY_BYTES, specs.EntryBytes.cell_at, specs.EntryBytes.cell_key, specs.Fields.number_at}
use Rattle.pk_nand.specs.BoardState.{BoardState}
use Rattle.pk_run.specs.Kept.{Kept, after_look}

-- a lookup answered the entry of the key among these, or that there is none
abbrev pub IsFound : Key → List Entry → Option RustEntry → Type 0
IsFound key es found = MatchOption found (find key_cmp key es ≡ None) (λ e. (key_of (entry e) ≡ key) × (find key_cmp key es ≡ Some (entry e).1))

-- the first key of the page at this place, if there is one, is above the key
abbrev pub BeginsAbove : Key → List Key → ℕ → Type 0
BeginsAbove key firsts p = (first : Key) → slice_get firsts p ≡ Some first → key_cmp first key ≡ Greater

-- it is not
abbrev pub BeginsUpTo : Key → List Key → ℕ → Type 0
BeginsUpTo key firsts p = (first : Key) → slice_get firsts p ≡ Some first → key_cmp first key ≡ Greater → ⊥

-- no page begins at or before the key
abbrev pub IsBeforeAll : Key → List Key → Type 0
IsBeforeAll key firsts = BeginsAbove key firsts 0

-- the page begins at or before the key, and the next one above it
pub record IsPageFor (key : Key) (firsts : List Key) (p : ℕ) : Type 0 where
  pub exists : p < length firsts
  pub here : BeginsUpTo key firsts p
  pub next : BeginsAbove key firsts (suc p)

-- No page may have the key, and nothing was called; or one may, and it was looked at.
abbrev pub RunLooks : Kept → Key → BoardState → BoardState → Type 0
RunLooks r key old new = (IsBeforeAll key r.firsts × (new ≡ old)) ⊎ ((p : ℕ) × IsPageFor key r.firsts p × (new ≡ after_look (slice_get r.leases p) old))

-- ---- inside

-- the page before this place begins at or before the key, and the page at it above the key
pub record IsBorder (key : Key) (firsts : List Key) (place : ℕ) : Type 0 where
  pub end : place ≤ length firsts
  pub before : (p : ℕ) → suc p ≡ place → BeginsUpTo key firsts p
  pub at : BeginsAbove key firsts place

-- the place in a page of the entry with a number, counted from 1, if that entry has the key
abbrev pub IsPlaceBefore : List ℕ → Key → ℕ → Option ℕ → Type 0
IsPlaceBefore page key number place =
    MatchOption place
    ((i : ℕ) → i < number_at 2 10 page → number ≡ suc i → cell_key (cell_at (HEAD_BYTES + ENTRY_BYTES * i) page) ≢ key)
    (λ i. (i < number_at 2 10 page) × (cell_key (cell_at (HEAD_BYTES + ENTRY_BYTES * i) page) ≡ key))

-- the number is the one that the bytes of a whole key spell, the highest first; of a shorter key nothing is said
abbrev pub IsSpelled : List ℕ → ℕ → Type 0
IsSpelled bytes number = length bytes ≡ KEY_BYTES → (number ≡ big_number KEY_BYTES bytes) × ((i : ℕ) → slice_index bytes i < 256)
