-- A reclaim that has copied all values of its victim: what the commit of its moves may cite.
use Rattle.std.specs.Prelude.{◌≡◌, ℕ, ◌+◌, ◌-◌, ◌*◌, ◌<◌, ◌≤◌, List, [], ◌++◌, length, slice_index, T}
use Rattle.std.{specs.List.AllByRecursion, specs.FinMap.Entries.is_sorted}
use Rattle.pk_base.{specs.Key.Key, specs.Key.key_cmp, specs.Shape.Shape, specs.Shape.buffer, specs.Shape.data_blocks, specs.Page.Flash, specs.Entry.Place, specs.EntryChecks.IsPlace}
use Rattle.pk_base.specs.Firsts.{firsts}
use Rattle.pk_rootfmt.specs.Root.{Root, named}
use Rattle.pk_model.{specs.Found.Found, specs.Laws.AnyByRecursion}
use Rattle.pk_law_steps.specs.Under.{places}
use Rattle.pk_live.specs.Lives.{head_of}
use Rattle.pk_law_moves.{specs.Moves.entries_of, specs.Moves.CanMove, specs.Moves.LieIn, specs.Victims.AreMoved, specs.Victims.exchanged}
use Rattle.pk_gc.{specs.declared.course.Course.Course, specs.declared.moves.Move.Move, specs.State.placed_at, specs.State.left_of, specs.State.source, specs.Running.IsRunning}

-- No value is being copied, and none that is live begins in the rest of the victim.
pub record IsCopied (shape : Shape) (c : Course) (moves : List Move) (page heads : List ℕ) (flash : Flash) (es : List (Key × Place)) : Type 0 where
  pub runs : IsRunning shape c moves page flash es
  pub whole : c.left ≡ 0
  pub rising : T (is_sorted key_cmp es)
  pub are_places : AllByRecursion (λ e. IsPlace shape e.1) es
  pub heads_are : (k : ℕ) → slice_index heads k ≡ head_of shape es k
  pub none_unseen : (k : ℕ) → source shape c ≤ k → k < c.victim * shape.block_pages + shape.block_pages → slice_index heads k ≡ 0

-- the moves that remain take all values out of the victim
abbrev pub Empties : Type 0
Empties =
    (shape : Shape) (c : Course) (moves : List Move) (page heads : List ℕ) (flash : Flash) (es : List (Key × Place)) → IsCopied shape c moves page heads flash es
    → AreMoved shape c.victim c.output es (placed_at (left_of heads moves))

-- and may be made: the values are in few blocks among which is the victim, the root does not name the output, and the buffer has room
abbrev pub MayMove : Type 0
MayMove =
    (shape : Shape) (c : Course) (moves : List Move) (page heads : List ℕ) (flash : Flash) (root : Root) (found : Found) (blocks : List ℕ)
    → IsCopied shape c moves page heads flash (places found [])
    → (AnyByRecursion (λ b. c.output ≡ b) (named root) → ⊥)
    → AnyByRecursion (λ b. c.victim ≡ b) blocks → LieIn shape (places found []) blocks → length blocks ≤ data_blocks shape - 1
    → length (firsts (found.newest ++ entries_of (placed_at (left_of heads moves)))) ≤ buffer shape
    → CanMove shape flash [] root found (placed_at (left_of heads moves)) (exchanged c.victim c.output blocks)
