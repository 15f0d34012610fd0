-- Which bytes are a journal page, the first field that is wrong, and the laws of reading and writing one.
use Rattle.std.specs.Prelude.{◌≡◌, ℕ, ◌+◌, ◌-◌, ◌*◌, ◌<◌, ◌≤◌, ◌^◌, List, [], ◌∷◌, length, false, ◌&&◌, nat_le, nat_lt, Option, Some}
use Rattle.std.specs.List.{AllByRecursion}
use Rattle.pk_base.{specs.declared.sizes.TheConstants.HEAD_BYTES, specs.declared.sizes.TheConstants.ENTRY_BYTES, specs.Fields.number_at, specs.Fields.zeros, specs.Key.no_key, specs.Entry.Entry}
use Rattle.pk_base.{specs.FieldFaults.unlike, specs.FieldFaults.unless, specs.FieldFaults.first_fault, specs.Shape.Shape, specs.Shape.IsShape, specs.Shape.page_entries, specs.Shape.epoch_commits}
use Rattle.pk_base.specs.EntryChecks.{IsEntry, entries_fault}
use Rattle.pk_jrnfmt.specs.Page.{journal_bytes, journal_entries, journal_magic}

-- what a page can hold
pub record IsContent (shape : Shape) (epoch index : ℕ) (entries : List Entry) : Type 0 where
  pub epoch_fits : epoch < 2 ^ 64
  pub index_fits : index < epoch_commits shape
  pub some : 1 ≤ length entries
  pub most : length entries ≤ page_entries shape
  pub each : AllByRecursion (IsEntry shape) entries

-- the page holds this
pub record IsJournalPage (shape : Shape) (page : List ℕ) (epoch index : ℕ) (entries : List Entry) : Type 0 where
  pub content : IsContent shape epoch index entries
  pub bytes : page ≡ journal_bytes shape epoch index entries

abbrev pub Decodes : Shape → List ℕ → Type 0
Decodes shape page = (epoch : ℕ) × (index : ℕ) × (entries : List Entry) × IsJournalPage shape page epoch index entries

-- the fields of a page in order, each with its place; each epoch number is one
abbrev pub journal_checks : Shape → List ℕ → List (Option ℕ)
journal_checks shape page =
    let index : ℕ = number_at 4 16 page in
    let count : ℕ = number_at 2 20 page in
    unlike 0 journal_magic page ∷ unless 16 (nat_lt index (epoch_commits shape)) ∷ unless 20 (nat_le 1 count && nat_le count (page_entries shape))
    ∷ unlike 22 (zeros 10) page ∷ entries_fault shape false no_key HEAD_BYTES count page
    ∷ unlike (HEAD_BYTES + ENTRY_BYTES * count) (zeros (shape.page_bytes - (HEAD_BYTES + ENTRY_BYTES * count))) page ∷ []

-- the first wrong field of a page
unfoldable pub journal_fault : Shape → List ℕ → Option ℕ
journal_fault shape page = first_fault (journal_checks shape page)

-- the page of entries is read as these entries by the reading of an epoch
abbrev pub JournalReadsBack : Type 0
JournalReadsBack = (shape : Shape) (epoch index : ℕ) (entries : List Entry) → IsShape shape → IsContent shape epoch index entries → journal_entries shape epoch index (journal_bytes shape epoch index entries) ≡ Some entries

-- what the reading of an epoch reads of a page is what the page holds
abbrev pub WhatIsReadIsHeld : Type 0
WhatIsReadIsHeld =
    (shape : Shape) (epoch index : ℕ) (page : List ℕ) (entries : List Entry) → epoch < 2 ^ 64 → index < epoch_commits shape
    → journal_entries shape epoch index page ≡ Some entries → IsJournalPage shape page epoch index entries
