-- Which bytes are a meta page, the first field that is wrong, and the laws of reading and writing one.
use Rattle.std.specs.Prelude.{◌≡◌, ◌≢◌, ℕ, ◌+◌, ◌-◌, ◌*◌, ◌<◌, ◌≤◌, ◌^◌, List, [], ◌∷◌, length, map, slice_index, true, ◌&&◌, nat_le, Option, Some, MatchOption, Contains, All}
use Rattle.std.specs.List.{AllByRecursion}
use Rattle.pk_base.{specs.declared.sizes.TheConstants.HEAD_BYTES, specs.declared.sizes.TheConstants.ENTRY_BYTES, specs.declared.sizes.TheConstants.LEVELS, specs.Fields.number_at, specs.Fields.zeros}
use Rattle.pk_base.{specs.FieldFaults.unlike, specs.FieldFaults.unless, specs.FieldFaults.first_fault, specs.Key.Key, specs.Key.IsRising, specs.Key.no_key, specs.Entry.Entry, specs.Entry.key_of}
use Rattle.pk_base.{specs.Shape.Shape, specs.Shape.IsShape, specs.Shape.page_entries, specs.EntryBytes.cell_at, specs.EntryBytes.cell_key, specs.EntryChecks.IsEntry, specs.EntryChecks.entries_fault}
use Rattle.pk_meta.specs.Page.{meta_bytes, meta_entries, meta_magic}

-- what a page can hold
pub record IsContent (shape : Shape) (level index : ℕ) (entries : List Entry) : Type 0 where
  pub level_least : 1 ≤ level
  pub level_most : level ≤ LEVELS
  pub index_fits : index < 2 ^ 32
  pub some : 1 ≤ length entries
  pub most : length entries ≤ page_entries shape
  pub each : AllByRecursion (IsEntry shape) entries
  pub rising : IsRising (map key_of entries)

-- the page holds this
pub record IsMetaPage (shape : Shape) (page : List ℕ) (level index : ℕ) (entries : List Entry) : Type 0 where
  pub content : IsContent shape level index entries
  pub bytes : page ≡ meta_bytes shape level index entries

abbrev pub Decodes : Shape → List ℕ → Type 0
Decodes shape page = (level : ℕ) × (index : ℕ) × (entries : List Entry) × IsMetaPage shape page level index entries

-- the fields of a page in order, each with its place
abbrev pub meta_checks : Shape → List ℕ → List (Option ℕ)
meta_checks shape page =
    let level : ℕ = slice_index page 8 in
    let count : ℕ = number_at 2 10 page in
    unlike 0 meta_magic page ∷ unless 8 (nat_le 1 level && nat_le level LEVELS) ∷ unlike 9 (zeros 1) page
    ∷ unless 10 (nat_le 1 count && nat_le count (page_entries shape)) ∷ unlike 16 (zeros 16) page ∷ entries_fault shape true no_key HEAD_BYTES count page
    ∷ unlike (HEAD_BYTES + ENTRY_BYTES * count) (zeros (shape.page_bytes - (HEAD_BYTES + ENTRY_BYTES * count))) page ∷ []

-- the first wrong field of a page
unfoldable pub meta_fault : Shape → List ℕ → Option ℕ
meta_fault shape page = first_fault (meta_checks shape page)

-- the entry of a key, if there is one
abbrev pub IsEntryOf : Key → List Entry → Option Entry → Type 0
IsEntryOf key entries found = MatchOption found (All (λ e. key_of e ≢ key) entries) (λ e. Contains entries e × (key_of e ≡ key))

-- The place of the entry of a key in a page. There is none exactly if no entry of the page has the key.
abbrev pub IsPlaceOf : Shape → List ℕ → Key → Option ℕ → Type 0
IsPlaceOf shape page key place =
    MatchOption place
    ((level index : ℕ) (entries : List Entry) → IsMetaPage shape page level index entries → All (λ e. key_of e ≢ key) entries)
    (λ i. (i < number_at 2 10 page) × (cell_key (cell_at (HEAD_BYTES + ENTRY_BYTES * i) page) ≡ key))

-- the page of entries is read as these entries by the reading of a run
abbrev pub RunReadsBack : Type 0
RunReadsBack =
    (shape : Shape) (level index : ℕ) (entries : List Entry) → IsShape shape → IsContent shape level index entries
    → meta_entries shape level index (length entries) (meta_bytes shape level index entries) ≡ Some entries

-- what the reading of a run reads of a page is what the page holds
abbrev pub WhatIsReadIsHeld : Type 0
WhatIsReadIsHeld =
    (shape : Shape) (level index count : ℕ) (page : List ℕ) (entries : List Entry) → 1 ≤ level → level ≤ LEVELS → index < 2 ^ 32
    → meta_entries shape level index count page ≡ Some entries → IsMetaPage shape page level index entries × (length entries ≡ count)
