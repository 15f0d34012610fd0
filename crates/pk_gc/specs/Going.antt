-- The next value of the victim, and that it is one: the statement.
use Rattle.std.specs.Prelude.{◌≡◌, ℕ, ◌+◌, ◌*◌, ◌<◌, ◌≤◌, List, length, slice_index, T, Some, Ok}
use Rattle.std.{specs.List.AllByRecursion, specs.FinMap.Entries.find, specs.FinMap.Entries.is_sorted}
use Rattle.pk_base.{specs.Key.Key, specs.Key.IsKey, specs.Key.key_cmp, specs.Shape.Shape, specs.Shape.charge, specs.Shape.dense, specs.Page.Flash, specs.Page.IsFlash, specs.Page.page_at}
use Rattle.pk_base.{specs.Entry.Place, specs.EntryChecks.IsPlace}
use Rattle.pk_segfmt.specs.Value.{value_at}
use Rattle.pk_live.specs.Lives.{head_of}
use Rattle.pk_law_moves.specs.Moves.{AreApart}
use Rattle.pk_gc.{specs.declared.course.Course.Course, specs.declared.moves.Move.Move, specs.State.source, specs.Running.IsRunning, specs.Running.IsSparse, specs.Running.IsNextValue}
use Rattle.pk_gc.specs.Victims.{AreDead}

-- Values that a flash holds, each in one block and apart from the others, with the heads of a live map.
pub record AreHeld (shape : Shape) (flash : Flash) (es : List (Key × Place)) (heads : List ℕ) : Type 0 where
  pub is_flash : IsFlash shape flash
  pub rising : T (is_sorted key_cmp es)
  pub are_keys : AllByRecursion (λ e. IsKey e.0) es
  pub are_places : AllByRecursion (λ e. IsPlace shape e.1) es
  pub apart : AreApart shape es
  pub heads_are : (k : ℕ) → slice_index heads k ≡ head_of shape es k
  pub read : (key : Key) (place : Place) → find key_cmp key es ≡ Some place → (v : List ℕ) × (value_at shape (page_at flash) key place ≡ Ok v)

-- If no value is being copied, the first head that was not seen is that of the next value, and there is room for its move.
abbrev pub NextIsValue : Type 0
NextIsValue =
    (shape : Shape) (c : Course) (moves : List Move) (held heads : List ℕ) (flash : Flash) (es : List (Key × Place)) (page : ℕ)
    → IsRunning shape c moves held flash es → AreHeld shape flash es heads → IsSparse shape c heads → c.left ≡ 0
    → source shape c ≤ page → page < c.victim * shape.block_pages + shape.block_pages → 0 < slice_index heads page → AreDead heads (source shape c) page
    → (length moves < dense shape) × ((key : Key) × (place : Place) × IsNextValue shape c flash es page key place × (slice_index heads page ≡ charge shape place.len))
