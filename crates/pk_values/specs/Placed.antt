-- The values of a flash, as the live map, the pool and the open block describe them.
use Rattle.std.specs.Prelude.{◌≡◌, ◌≢◌, ℕ, ◌+◌, ◌-◌, ◌*◌, ◌/◌, ◌%◌, ◌<◌, ◌≤◌, List, [], ◌∷◌, length, map, filter, not, slice_get, true, Option, Some, MatchOption}
use Rattle.std.{specs.List.range_with_len, specs.List.AllByRecursion, specs.Ordering.eq_by_cmp}
use Rattle.pk_base.{specs.declared.sizes.TheConstants.ROOT_BLOCKS, specs.Key.Key, specs.Key.key_cmp, specs.Shape.Shape, specs.Shape.IsShape, specs.Shape.page_count, specs.Shape.data_blocks}
use Rattle.pk_base.{specs.Page.Flash, specs.Page.page_at, specs.Page.erased, specs.Entry.Place, specs.EntryChecks.IsPlace}
use Rattle.pk_plan.specs.declared.owner.Owner.TheVariants.{Values as for_values}
use Rattle.pk_pool.{specs.Blocks.Blocks, specs.Blocks.PoolOnFlash, specs.Blocks.NoneLeaves, specs.Blocks.used_by, specs.declared.state.BlockState.TheVariants.Owned}
use Rattle.pk_live.{specs.Values.Values, specs.Values.IsClosed, specs.Lives.head_of, specs.Lives.Lives}
use Rattle.pk_rootfmt.specs.Root.{differ}
use Rattle.pk_model.specs.Laws.{AnyByRecursion, IsPageOf}
use Rattle.pk_law_steps.specs.Under.{IsValuePage}
pub use Rattle.pk_live.specs.OpenBlocks.{IsNotOpen}
use Rattle.pk_values.specs.State.{ValuesState, OpenBlock}

-- the pool has this block for values
abbrev pub HoldsValues : Blocks → ℕ → Type 0
HoldsValues pool b = slice_get pool.states b ≡ Some (Owned for_values)

-- a block is one of those that a running reclaim holds
abbrev pub IsOutput : List ℕ → ℕ → Type 0
IsOutput outputs b = AnyByRecursion (λ c. b ≡ c) outputs

-- The open block is one for values. Its first pages are written, whole pairs of them, and those after them are Erased.
pub record IsOpenIn (shape : Shape) (pool : Blocks) (flash : Flash) (o : OpenBlock) : Type 0 where
  pub owned : HoldsValues pool o.block
  pub behind_roots : ROOT_BLOCKS ≤ o.block
  pub exists : o.block < shape.blocks
  pub within : o.used ≤ shape.block_pages
  pub even : o.used % 2 ≡ 0
  pub written : (k : ℕ) → o.block * shape.block_pages ≤ k → k < o.block * shape.block_pages + o.used → page_at flash k ≢ erased
  pub unwritten : (k : ℕ) → o.block * shape.block_pages + o.used ≤ k → k < o.block * shape.block_pages + shape.block_pages → page_at flash k ≡ erased

-- no page belongs to two of these values
abbrev pub AreApart : Shape → List (Key × Place) → Type 0
AreApart shape [] = Unit {0}
AreApart shape (e ∷ es) = ((k : ℕ) → IsPageOf shape k e.1 → IsValuePage shape es k → ⊥) × AreApart shape es

-- The blocks that a running reclaim holds are different ones, which the pool has for values; none is the open block, and no page of a
-- value is in one.
pub record AreOutputs (shape : Shape) (open_block : Option OpenBlock) (pool : Blocks) (outputs : List ℕ) (es : List (Key × Place)) : Type 0 where
  pub different : differ outputs ≡ true
  pub owned : (b : ℕ) → IsOutput outputs b → HoldsValues pool b
  pub not_open : (b : ℕ) → IsOutput outputs b → IsNotOpen open_block b
  pub unread : (k : ℕ) → IsValuePage shape es k → IsOutput outputs (k / shape.block_pages) → ⊥

-- The values of these keys are live. Their pages are written, and are in blocks that the pool has for values. These blocks are no root
-- blocks. But for the outputs of a running reclaim, all of them other than the open one are closed, and at most one less than all data
-- blocks are in use.
pub record ValuesOnFlash (shape : Shape) (d : ValuesState) (pool : Blocks) (outputs : List ℕ) (flash : Flash) (es : List (Key × Place)) : Type 0 where
  pub is_shape : IsShape shape
  pub shape_is : pool.shape ≡ shape
  pub size : length pool.states ≡ shape.blocks
  pub fits : PoolOnFlash pool flash
  pub few : used_by for_values pool.states ≤ data_blocks shape - 1 + length outputs
  -- the values
  pub places : AllByRecursion (λ e. IsPlace shape e.1) es
  pub apart : AreApart shape es
  pub owned : (k : ℕ) → IsValuePage shape es k → HoldsValues pool (k / shape.block_pages)
  pub written : (k : ℕ) → IsValuePage shape es k → page_at flash k ≢ erased
  -- the live map
  pub block_pages_is : d.live.block_pages ≡ shape.block_pages
  pub heads_are : d.live.heads ≡ map (head_of shape es) (range_with_len 0 (page_count shape))
  pub closed_size : length d.live.closed ≡ shape.blocks
  pub closed_owned : (b : ℕ) → IsClosed d.live b → HoldsValues pool b × IsNotOpen d.open_block b × (IsOutput outputs b → ⊥)
  pub owned_closed : (b : ℕ) → HoldsValues pool b → IsNotOpen d.open_block b → (IsOutput outputs b → ⊥) → IsClosed d.live b
  -- the blocks for values are after the root blocks
  pub behind_roots : (b : ℕ) → HoldsValues pool b → ROOT_BLOCKS ≤ b
  -- the open block
  pub open_is : MatchOption d.open_block (Unit {0}) (λ o. IsOpenIn shape pool flash o)
  -- the blocks of a running reclaim
  pub outputs_are : AreOutputs shape d.open_block pool outputs es

-- some values are placed
abbrev pub HasPlaced : Shape → ValuesState → Blocks → Flash → Type 0
HasPlaced shape d pool flash = (outputs : List ℕ) × (es : List (Key × Place)) × ValuesOnFlash shape d pool outputs flash es

-- values that were placed are placed still
abbrev pub StayPlaced : Shape → ValuesState → Blocks → Flash → ValuesState → Blocks → Flash → Type 0
StayPlaced shape d p old d' q new = (outputs : List ℕ) (es : List (Key × Place)) → ValuesOnFlash shape d p outputs old es → ValuesOnFlash shape d' q outputs new es

-- As it is at opening: these values were taken one after another, their pages are written, and the pool has the blocks for
-- values that are closed, of which none leaves.
pub record FoundAtOpening (shape : Shape) (named : List ℕ) (live : Values) (pool : Blocks) (flash : Flash) (es : List (Key × Place)) : Type 0 where
  pub is_shape : IsShape shape
  pub shape_is : pool.shape ≡ shape
  pub size : length pool.states ≡ shape.blocks
  pub fits : PoolOnFlash pool flash
  pub lives : Lives shape named live es
  pub written : (k : ℕ) → IsValuePage shape es k → page_at flash k ≢ erased
  pub closed_owned : (b : ℕ) → IsClosed live b → HoldsValues pool b
  pub owned_closed : (b : ℕ) → HoldsValues pool b → IsClosed live b
  pub none_leaves : NoneLeaves pool

-- these values without that of a key
abbrev pub without : Key → List (Key × Place) → List (Key × Place)
without key es = filter (λ e. not (eq_by_cmp key_cmp key e.0)) es
