-- What a check of a value returns, and the board after it.
use Rattle.std.specs.Prelude.{◌≡◌, ℕ, suc, ◌+◌, ◌-◌, ◌<◌, ◌≤◌, List, false, Ok, Err}
use Rattle.pk_base.{specs.Key.Key, specs.Shape.Shape, specs.Shape.charge, specs.Entry.Place, specs.Page.Flash, specs.Page.page_at, specs.Refusal.damaged}
use Rattle.pk_nand.{specs.BoardState.BoardState, specs.Operations.after_read, specs.Operations.ReadFailed, specs.Counts.after_reads}
use Rattle.pk_seg.specs.Counts.{ReadsFailed}
use Rattle.pk_segfmt.specs.Value.{value_at}
use Rattle.pk_scan.{specs.Pages.is_right, specs.declared.errors.PageError.PageError, specs.declared.errors.PageError.TheVariants.Damaged, specs.declared.errors.PageError.TheVariants.Fault}

-- the reading of a flash finds a value of this key at its place
abbrev pub HasValue : Shape → Flash → Key → Place → Type 0
HasValue shape flash key place = (value : List ℕ) × (value_at shape (page_at flash) key place ≡ Ok value)

-- The reading of a flash refuses the value with this page, one of the value's, and the reads went up to it.
pub record DamagedAt (shape : Shape) (old new : BoardState) (key : Key) (place : Place) (page : ℕ) : Type 0 where
  pub behind : place.page ≤ page
  pub within : page < place.page + charge shape place.len
  pub refusal : value_at shape (page_at old.pages) key place ≡ Err (damaged page)
  pub board : new ≡ after_reads (suc (page - place.page)) old

-- A read of the value's pages failed, and no page before it is one with which the reading of a flash refuses the value.
pub record Faulted (shape : Shape) (old new : BoardState) (key : Key) (place : Place) : Type 0 where
  pub reads : ReadsFailed old new place.page (charge shape place.len)
  pub later : (page : ℕ) → value_at shape (page_at old.pages) key place ≡ Err (damaged page) → place.page + reads.made ≤ page

-- why a value was not found
abbrev pub NotFound : Shape → BoardState → BoardState → Key → Place → PageError → Type 0
NotFound shape old new key place (Damaged page) = DamagedAt shape old new key place page
NotFound shape old new key place Fault = Faulted shape old new key place

-- ---- inside

-- page i was refused, after it was read; or its read failed
abbrev pub PageRefused : Shape → BoardState → BoardState → Key → Place → ℕ → PageError → Type 0
PageRefused shape old new key place i (Damaged page) = (page ≡ place.page + i) × (is_right shape (page_at old.pages) key place i ≡ false) × (new ≡ after_read old)
PageRefused shape old new key place i Fault = ReadFailed old new (place.page + i)
