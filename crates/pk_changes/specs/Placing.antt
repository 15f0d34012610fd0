-- The write of a value into the next pages of the open block.
use Rattle.std.specs.Prelude.{◌≡◌, ◌⊎◌, ℕ, List, length}
use Rattle.pk_base.{specs.Key.Key, specs.Shape.Shape, specs.Shape.charge, specs.Page.page_at}
use Rattle.pk_segfmt.specs.Stored.{IsStored}
use Rattle.pk_nand.{specs.BoardState.BoardState, specs.Calls.IsReady}
use Rattle.pk_pool.{specs.Blocks.Blocks, specs.Taking.FailsToErase}
use Rattle.pk_seg.specs.Stored.{written, WriteFailed}
use Rattle.pk_values.{specs.State.ValuesState, specs.State.with_written, specs.Placed.StayPlaced, specs.Entries.IsInOpen}
use Rattle.pk_values.specs.Reserving.{IsReserved, TakesNext, OpensBlock, AreFree}

-- The pages of a value were found: the next ones of the open block, or of one that was opened for it.
pub record Reserves (shape : Shape) (d : ValuesState) (p : Blocks) (old : BoardState) (page count : ℕ) (d' : ValuesState) (q : Blocks) (new : BoardState) : Type 0 where
  pub taken : TakesNext shape d p old count d' q new ⊎ OpensBlock shape d p old count d' q new
  pub pages : IsReserved shape d' q new.pages page count
  pub ready : IsReady new shape
  pub free : AreFree shape d p old.pages page count
  pub placed : StayPlaced shape d p old.pages d' q new.pages

-- The pages were found and written, one after another.
pub record PlacesValue (shape : Shape) (key : Key) (value : List ℕ) (d : ValuesState) (p : Blocks) (old : BoardState) (page : ℕ) (d' : ValuesState) (q : Blocks) (new : BoardState) : Type 0 where
  pub values : ValuesState
  pub between : BoardState
  pub reserved : Reserves shape d p old page (charge shape (length value)) values q between
  pub counted : d' ≡ with_written values (charge shape (length value))
  pub in_open : IsInOpen shape d' page (charge shape (length value))
  pub writes : new ≡ written shape key page value (charge shape (length value)) between
  pub stored : IsStored shape (page_at new.pages) key page value
  pub placed : StayPlaced shape d p old.pages d' q new.pages

-- they were found, and a program of one of them failed
pub record FailsToWrite (shape : Shape) (key : Key) (value : List ℕ) (d : ValuesState) (p : Blocks) (old new : BoardState) : Type 0 where
  pub page : ℕ
  pub values : ValuesState
  pub pool : Blocks
  pub between : BoardState
  pub reserved : Reserves shape d p old page (charge shape (length value)) values pool between
  pub failed : WriteFailed shape key page value between new

-- or the erase of the block that was to be opened failed
abbrev pub FailsToPlace : Shape → Key → List ℕ → ValuesState → Blocks → BoardState → BoardState → Type 0
FailsToPlace shape key value d p old new = FailsToErase p old new ⊎ FailsToWrite shape key value d p old new
