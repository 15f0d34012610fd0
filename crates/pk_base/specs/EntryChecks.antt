-- When the 32 bytes of an entry pass, and the first field that is wrong.
use Rattle.std.specs.Prelude.{◌≡◌, ℕ, zero, suc, ◌+◌, ◌-◌, ◌/◌, ◌%◌, ◌<◌, ◌≤◌, List, [], ◌∷◌, length, slice_index, Bool, ◌==◌, ◌&&◌, ◌||◌, not, nat_le, nat_lt, if◌then◌else◌, Option, Some, None}
use Rattle.std.{specs.List.AllByRecursion, specs.Ordering.is_lt}
use Rattle.pk_base.specs.declared.sizes.TheConstants.{KEY_BYTES, ENTRY_BYTES, MOST_SPACES, ROOT_BLOCKS}
use Rattle.pk_base.{specs.declared.entry.TheConstants.PUT_KIND, specs.declared.entry.TheConstants.GONE_KIND, specs.Fields.number_at, specs.Fields.field, specs.Fields.zeros}
use Rattle.pk_base.{specs.FieldFaults.unlike, specs.FieldFaults.unless, specs.FieldFaults.first_fault, specs.Key.Key, specs.Key.key_cmp, specs.Key.IsKey, specs.Entry.Entry, specs.Entry.Place}
use Rattle.pk_base.specs.Shape.{Shape, page_count, page_entries, greatest, charge}
use Rattle.pk_base.specs.EntryBytes.{cell_at, cell_key, is_place_len, is_place_page}

-- the value's pages are in one block after the root blocks, from an even one on
pub record IsPlace (shape : Shape) (place : Place) : Type 0 where
  pub exists : place.page < page_count shape
  pub past_roots : ROOT_BLOCKS ≤ place.page / shape.block_pages
  pub even : place.page % 2 ≡ 0
  pub short : place.len ≤ greatest shape
  pub inside : place.page % shape.block_pages + charge shape place.len ≤ shape.block_pages

abbrev pub IsEntry : Shape → Entry → Type 0
IsEntry shape (key, Some place) = IsKey key × IsPlace shape place
IsEntry shape (key, None) = IsKey key × Unit {0}

-- as many as a page holds, each with bytes
pub record AreEntries (shape : Shape) (es : List Entry) : Type 0 where
  pub some : 1 ≤ length es
  pub most : length es ≤ page_entries shape
  pub each : AllByRecursion (IsEntry shape) es

-- the fields in order, each with its place
abbrev pub entry_checks : Shape → List ℕ → List (Option ℕ)
entry_checks shape bytes =
    let size : ℕ = slice_index bytes 0 in
    let kind : ℕ = slice_index bytes 1 in
    let page : ℕ = number_at 4 20 bytes in
    let len : ℕ = number_at 4 24 bytes in
    unless 0 (nat_le 1 size && nat_le size KEY_BYTES) ∷ unless 1 (kind == PUT_KIND || kind == GONE_KIND) ∷ unless 2 (nat_lt (slice_index bytes 2) MOST_SPACES) ∷ unlike 3 (zeros 1) bytes
    ∷ field 4 (unlike (4 + size) (zeros (20 - (4 + size))) bytes) ∷ unless 20 (if kind == PUT_KIND then is_place_page shape page else page == 0)
    ∷ unless 24 (if kind == PUT_KIND then is_place_len shape page len else len == 0) ∷ unlike 28 (zeros 4) bytes ∷ []

-- the first byte of the first wrong field of 32 bytes
unfoldable pub entry_fault : Shape → List ℕ → Option ℕ
entry_fault shape bytes = first_fault (entry_checks shape bytes)

-- The first wrong field of an entry that follows a key. If keys have to rise, one that does not is wrong at its start.
abbrev pub cell_fault : Shape → Bool → Key → List ℕ → Option ℕ
cell_fault shape rises before cell = first_fault (unless 0 (not rises || is_lt (key_cmp before (cell_key cell))) ∷ entry_fault shape cell ∷ [])

-- the first byte of the first wrong entry of n from a place on: an entry is one field of its page
abbrev pub entries_fault : Shape → Bool → Key → ℕ → ℕ → List ℕ → Option ℕ
entries_fault shape rises before at zero page = None
entries_fault shape rises before at (suc n) page =
    first_fault (field at (cell_fault shape rises before (cell_at at page)) ∷ entries_fault shape rises (cell_key (cell_at at page)) (at + ENTRY_BYTES) n page ∷ [])
