-- The values of all keys, as they are read and taken one after another.
use Rattle.std.specs.Prelude.{◌≡◌, ℕ, ◌+◌, List, length}
use Rattle.pk_base.{specs.Key.Key, specs.Shape.Shape, specs.Entry.Place, specs.Page.Flash}
use Rattle.pk_nand.{specs.BoardState.BoardState, specs.Counts.after_reads}
use Rattle.pk_live.specs.Values.{Values}
use Rattle.pk_run.specs.Kept.{Kept}
use Rattle.pk_walk.specs.Walking.{Walk, SkipsNone, most_read, pages_read}
use Rattle.pk_scan.{specs.Opening.OnlyReads, specs.OpeningParts.ReadsValues, specs.Used.IsUseOf, specs.Reads.value_reads}
use Rattle.pk_space.specs.Uses.{Use}

-- The values at these places were read and taken, and this many keys were counted.
pub record TakesValues (shape : Shape) (flash : Flash) (limits named : List ℕ) (live : Values) (u : Use) (keys : ℕ) (es : List (Key × Place)) : Type 0 where
  pub values : ReadsValues shape flash limits named live es
  pub uses : IsUseOf shape u es
  pub keys_are : keys ≡ length es

-- No read failed; if the walk began at the first key, each page of the runs without frames was read once, and each of the values.
pub record ReadsExactly (shape : Shape) (runs : List Kept) (walk : Walk) (es : List (Key × Place)) (old new : BoardState) : Type 0 where
  pub reads : OnlyReads old new
  pub exact : SkipsNone walk → pages_read runs walk.cursors ≡ 0 → new ≡ after_reads (most_read runs + value_reads shape es) old
