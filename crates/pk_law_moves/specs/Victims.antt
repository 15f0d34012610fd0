-- Which block may be reclaimed, and where the values are before and after a reclaim: the statements.
use Rattle.std.specs.Prelude.{◌≡◌, ℕ, ◌+◌, ◌-◌, ◌/◌, ◌≤◌, List, length, map, sum_by, ◌==◌, if◌then◌else◌, Some, T}
use Rattle.std.{specs.List.AllByRecursion, specs.FinMap.Entries.find, specs.FinMap.Entries.is_sorted}
use Rattle.pk_base.{specs.Key.Key, specs.Key.key_cmp, specs.Entry.Place, specs.EntryChecks.IsPlace}
use Rattle.pk_base.specs.Shape.{Shape, IsShape, page_entries, most_pages, dense, data_blocks, limit}
use Rattle.pk_model.{specs.Values.all_pages, specs.Laws.AnyByRecursion}
use Rattle.pk_law_steps.specs.Under.{IsValuePage}
use Rattle.pk_law_moves.specs.Moves.{moved, LieIn}

-- these blocks, with the output in place of the victim
abbrev pub exchanged : ℕ → ℕ → List ℕ → List ℕ
exchanged victim output blocks = map (λ b. if b == victim then output else b) blocks

-- each value that begins in the block is moved
abbrev pub Empties : Shape → ℕ → List (Key × Place) → List (Key × Place) → Type 0
Empties shape victim es moves = (key : Key) (place : Place) → find key_cmp key es ≡ Some place → place.page / shape.block_pages ≡ victim → AnyByRecursion (λ m. key ≡ m.0) moves

-- Values, each in one block, of which all in the victim are moved to the output.
pub record AreMoved (shape : Shape) (victim output : ℕ) (es moves : List (Key × Place)) : Type 0 where
  pub is_shape : IsShape shape
  pub rising : T (is_sorted key_cmp es)
  pub are_places : AllByRecursion (λ e. IsPlace shape e.1) es
  pub empties : Empties shape victim es moves
  pub in_output : (k : ℕ) → IsValuePage shape moves k → k / shape.block_pages ≡ output

-- All values are in as many blocks as before: in those without the output before the moves, and in those without the victim after them.
abbrev pub LieInOthers : Type 0
LieInOthers =
    (shape : Shape) (victim output : ℕ) (es moves : List (Key × Place)) (blocks : List ℕ) → AreMoved shape victim output es moves
    → AnyByRecursion (λ b. victim ≡ b) blocks → LieIn shape es blocks
    → LieIn shape (moved moves es) (exchanged victim output blocks) × (length (exchanged victim output blocks) ≡ length blocks)

-- no value has a page in the victim then
abbrev pub NoneLeft : Type 0
NoneLeft =
    (shape : Shape) (victim output : ℕ) (es moves : List (Key × Place)) → AreMoved shape victim output es moves → (victim ≡ output → ⊥)
    → (k : ℕ) → k / shape.block_pages ≡ victim → IsValuePage shape (moved moves es) k → ⊥

-- ---- numbers

-- If all data blocks but one are in use and the live pages are within their limit, one of the blocks has at most three quarters of its pages live.
abbrev pub OneIsSparse : Type 0
OneIsSparse =
    (shape : Shape) (count : ℕ → ℕ) (blocks : List ℕ) → IsShape shape → length blocks ≡ data_blocks shape - 1
    → sum_by count blocks ≤ limit shape → AnyByRecursion (λ b. count b ≤ dense shape) blocks

-- its values are at most as many as a journal page takes
abbrev pub FitOnePage : Type 0
FitOnePage = (shape : Shape) (moves : List (Key × Place)) → IsShape shape → length (all_pages shape moves) ≤ dense shape → length moves ≤ page_entries shape

-- and after their copies there is room for every value
abbrev pub LeavesRoom : Type 0
LeavesRoom = (shape : Shape) → IsShape shape → dense shape + most_pages shape ≤ shape.block_pages
