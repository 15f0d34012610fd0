-- A reclaim that runs: how it matches the flash and the values.
use Rattle.std.specs.Prelude.{◌≡◌, ◌≢◌, ℕ, ◌+◌, ◌*◌, ◌/◌, ◌%◌, ◌<◌, ◌≤◌, List, [], ◌∷◌, length, true, Some}
use Rattle.std.{specs.List.AllByRecursion, specs.FinMap.Entries.find}
use Rattle.pk_base.{specs.declared.sizes.TheConstants.ROOT_BLOCKS, specs.Key.Key, specs.Key.IsKey, specs.Key.key_cmp, specs.Shape.Shape, specs.Shape.IsShape, specs.Shape.charge, specs.Shape.dense}
use Rattle.pk_base.{specs.Page.Flash, specs.Page.page_at, specs.Page.erased, specs.Page.whole, specs.Entry.Place, specs.EntryChecks.IsPlace}
use Rattle.pk_seg.specs.Stored.{HasHead}
use Rattle.pk_model.specs.Laws.{AnyByRecursion}
use Rattle.pk_law_steps.specs.Under.{IsValuePage}
use Rattle.pk_law_moves.specs.Moves.{AreApart}
use Rattle.pk_gc.{specs.declared.course.Course.Course, specs.declared.moves.Move.Move}
use Rattle.pk_gc.specs.State.{new_place, placed_at, source, target, unseen, live_unseen}

-- A value of the victim, with its pages in the output as far as they are written. Whatever key has a value at the old place, it is this one.
pub record IsMove (shape : Shape) (c : Course) (flash : Flash) (es : List (Key × Place)) (m : Move) : Type 0 where
  pub is_key : IsKey m.key
  pub is_place : IsPlace shape (new_place m)
  pub count_is : m.count ≡ charge shape m.len
  pub in_victim : c.victim * shape.block_pages ≤ m.from
  pub seen : m.from + m.count ≤ unseen shape c
  pub in_output : c.output * shape.block_pages ≤ m.to
  pub begun : m.to ≤ target shape c
  pub ends : m.to + m.count ≤ target shape c + c.left
  pub next : (i : ℕ) → i < m.count → m.to + i ≡ target shape c → m.from + i ≡ source shape c
  pub copied : (i : ℕ) → i < m.count → m.to + i < target shape c → page_at flash (m.to + i) ≡ page_at flash (m.from + i)
  pub owner : (key : Key) (place : Place) → find key_cmp key es ≡ Some place → place.page ≡ m.from → (key ≡ m.key) × (place.len ≡ m.len)

-- the page is Whole
abbrev pub IsWholeAt : Flash → ℕ → Type 0
IsWholeAt flash k = (bytes : List ℕ) × (page_at flash k ≡ whole bytes)

-- each of them begins in the victim after those before it
abbrev pub AreInOrder : List Move → Type 0
AreInOrder [] = Unit {0}
AreInOrder (m ∷ ms) = AllByRecursion (λ x. m.from + m.count ≤ x.from) ms × AreInOrder ms

-- The victim and the output are two blocks after the root blocks. Of the output the first pages are written, and the others Erased;
-- no value has a page in it. Each value of the victim that was seen is one of the moves.
pub record IsRunning (shape : Shape) (c : Course) (moves : List Move) (page : List ℕ) (flash : Flash) (es : List (Key × Place)) : Type 0 where
  pub is_shape : IsShape shape
  pub other : c.victim ≢ c.output
  pub behind_roots : ROOT_BLOCKS ≤ c.output
  pub victim_exists : c.victim < shape.blocks
  pub output_exists : c.output < shape.blocks
  pub within : c.seen + c.left ≤ shape.block_pages
  pub room : c.used + c.left ≤ shape.block_pages
  pub even : (c.used + c.left) % 2 ≡ 0
  pub free : (k : ℕ) → k / shape.block_pages ≡ c.output → IsValuePage shape es k → ⊥
  pub written : (k : ℕ) → c.output * shape.block_pages ≤ k → k < target shape c → page_at flash k ≢ erased
  pub unwritten : (k : ℕ) → target shape c ≤ k → k < c.output * shape.block_pages + shape.block_pages → page_at flash k ≡ erased
  pub wholes : (k : ℕ) → source shape c ≤ k → k < unseen shape c → IsWholeAt flash k
  pub held_is : c.held ≡ true → (0 < c.left) × (page_at flash (source shape c) ≡ whole page)
  pub few : length moves ≤ c.used + c.left
  pub moves_are : AllByRecursion (IsMove shape c flash es) moves
  pub apart : AreApart shape (placed_at moves)
  pub order : AreInOrder moves
  pub covers : (key : Key) (place : Place) → find key_cmp key es ≡ Some place → place.page / shape.block_pages ≡ c.victim → place.page < unseen shape c
      → AnyByRecursion (λ m. (key ≡ m.key) × (m.from ≡ place.page)) moves

-- the pages that are copied and still to be copied are at most three quarters of a block
abbrev pub IsSparse : Shape → Course → List ℕ → Type 0
IsSparse shape c heads = c.used + c.left + live_unseen shape heads c ≤ dense shape

-- The next value to be copied begins at this page of the victim: no other one begins before its end, and the output has room for it.
pub record IsNextValue (shape : Shape) (c : Course) (flash : Flash) (es : List (Key × Place)) (page : ℕ) (key : Key) (place : Place) : Type 0 where
  pub found : find key_cmp key es ≡ Some place
  pub page_is : place.page ≡ page
  pub behind : source shape c ≤ page
  pub inside : page + charge shape place.len ≤ c.victim * shape.block_pages + shape.block_pages
  pub room : c.used + charge shape place.len ≤ shape.block_pages
  pub head : HasHead shape flash page key place.len
  pub wholes : (k : ℕ) → page ≤ k → k < page + charge shape place.len → IsWholeAt flash k
  pub alone : (q : Key) (p : Place) → find key_cmp q es ≡ Some p → p.page ≡ page → (q ≡ key) × (p.len ≡ place.len)
  pub first : (q : Key) (p : Place) → find key_cmp q es ≡ Some p → source shape c ≤ p.page → p.page < page + charge shape place.len → p.page ≡ page

-- the move of the value that begins at this page
abbrev pub begun_move : Shape → Course → ℕ → Key → ℕ → Move
begun_move shape c page key len = record { key = key; len = len; from = page; to = target shape c; count = charge shape len }
