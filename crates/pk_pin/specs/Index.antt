-- What the table of homes of a frame says of the entries of the page in it.
use Rattle.std.specs.Prelude.{◌≡◌, ℕ, suc, ◌+◌, ◌*◌, ◌^◌, ◌<◌, ◌≤◌, ◌⊎◌, Bool, not, count_by, List, [], length, slice_index_or, slice_set}
use Rattle.pk_base.{specs.declared.sizes.TheConstants.HEAD_BYTES, specs.declared.sizes.TheConstants.ENTRY_BYTES, specs.Fields.number_at, specs.EntryBytes.cell_at}
use Rattle.pk_homes.{specs.Hash.hash_of_cell, specs.Homes.HasHomes, specs.declared.table.TheConstants.SHARED}
use Rattle.pk_pin.specs.declared.index.TheConstants.{TOO_MANY_ENTRIES}
use Rattle.pk_pin.specs.Frames.{chunks}

-- the hash of the key of an entry of a page
abbrev pub hash_in : List ℕ → ℕ → ℕ
hash_in page i = hash_of_cell (cell_at (HEAD_BYTES + ENTRY_BYTES * i) page)

-- a page has room for as many entries as it says it has, and they are not too many
pub record HasEntries (page : List ℕ) : Type 0 where
  pub room : HEAD_BYTES + ENTRY_BYTES * number_at 2 10 page ≤ length page
  pub few : number_at 2 10 page < TOO_MANY_ENTRIES

-- if so, each of its entries is noted in the table
abbrev pub IsIndexed : List ℕ → List ℕ → Type 0
IsIndexed page table = HasEntries page → HasHomes (hash_in page) (number_at 2 10 page) table

-- the page in each frame has its table
abbrev pub AllIndexed : List (List ℕ) → List (List ℕ) → Type 0
AllIndexed frames tables = (f : ℕ) → IsIndexed (slice_index_or frames f []) (slice_index_or tables f [])

-- an arena of pages of this many bytes and tables of this many homes: free frames are counted, and each frame has its bytes and its table
pub record IsArena (page homes free : ℕ) (used : List Bool) (bytes tables : List ℕ) : Type 0 where
  pub counted : free ≡ count_by not used
  pub most : length used < 2 ^ 32
  pub pages : length bytes ≡ length used * page
  pub some : 0 < homes
  pub few : homes < 2 ^ 16
  pub whole : length tables ≡ length used * homes
  pub indexed : AllIndexed (chunks page (length used) bytes) (chunks homes (length used) tables)

-- table i of n is that of a page, and the others are as they were
abbrev pub IndexesFrame : ℕ → ℕ → ℕ → List ℕ → List ℕ → List ℕ → Type 0
IndexesFrame homes n i page old new = (table : List ℕ) × (chunks homes n new ≡ slice_set (chunks homes n old) i table) × IsIndexed page table

-- An entry of a page with this hash has this number, counted from 1, or the number is that of a shared home.
abbrev pub IsNumberOf : List ℕ → ℕ → ℕ → Type 0
IsNumberOf page hash number =
    HasEntries page → (i : ℕ) → i < number_at 2 10 page → hash_in page i ≡ hash → (number ≡ suc i) ⊎ (SHARED ≤ number)
