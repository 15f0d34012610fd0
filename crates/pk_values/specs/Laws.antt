-- What others do to the flash and to the pool, and what the values' blocks are: the statements.
use Rattle.std.specs.Prelude.{◌≡◌, ℕ, ◌-◌, ◌/◌, ◌≤◌, List, [], length, filter, Bool, false, not, ◌&&◌, ◌==◌, Option, Some, None, slice_get}
use Rattle.std.specs.List.{list_any, range_with_len}
use Rattle.pk_base.{specs.Key.Key, specs.Shape.Shape, specs.Shape.IsShape, specs.Shape.data_blocks, specs.Page.Flash, specs.Page.page_at, specs.Entry.Place}
use Rattle.pk_plan.specs.declared.owner.Owner.TheVariants.{Values as for_values}
use Rattle.pk_pool.specs.declared.state.BlockState.{BlockState}
use Rattle.pk_pool.specs.Blocks.{Blocks, PoolOnFlash, IsSpare, is_owned_by, unused, with_state}
use Rattle.pk_live.specs.Values.{no_values}
use Rattle.pk_model.specs.Laws.{AnyByRecursion}
use Rattle.pk_law_steps.specs.Under.{IsValuePage}
use Rattle.pk_values.{specs.State.ValuesState, specs.Placed.HoldsValues, specs.Placed.IsOutput, specs.Placed.ValuesOnFlash, specs.Placed.FoundAtOpening}

-- no page differs of a block that the pool has for values and that no running reclaim holds
abbrev pub SameValues : Shape → Blocks → List ℕ → Flash → Flash → Type 0
SameValues shape pool outputs old new =
    (k : ℕ) → HoldsValues pool (k / shape.block_pages) → (IsOutput outputs (k / shape.block_pages) → ⊥) → page_at new k ≡ page_at old k

-- if nothing differs in blocks for values, and none that counts as erased is written, the values stay placed
abbrev pub FlashElsewhere : Type 0
FlashElsewhere =
    (shape : Shape) (d : ValuesState) (p : Blocks) (outputs : List ℕ) (old new : Flash) (es : List (Key × Place)) → ValuesOnFlash shape d p outputs old es
    → SameValues shape p outputs old new → PoolOnFlash p new → ValuesOnFlash shape d p outputs new es

-- the same if a block changes its state that neither was nor is one for values
abbrev pub BlockElsewhere : Type 0
BlockElsewhere =
    (shape : Shape) (d : ValuesState) (p : Blocks) (outputs : List ℕ) (b : ℕ) (s t : BlockState) (old new : Flash) (es : List (Key × Place))
    → ValuesOnFlash shape d p outputs old es → slice_get p.states b ≡ Some s → is_owned_by for_values s ≡ false → is_owned_by for_values t ≡ false
    → SameValues shape p outputs old new → PoolOnFlash (with_state p b t) new → ValuesOnFlash shape d (with_state p b t) outputs new es

-- the block is one for values
abbrev pub is_for_values : Option BlockState → Bool
is_for_values None = false
is_for_values (Some s) = is_owned_by for_values s

-- the blocks that the pool has for values and that no running reclaim holds
abbrev pub value_blocks : Blocks → List ℕ → List ℕ
value_blocks pool outputs =
    filter (λ b. is_for_values (slice_get pool.states b) && not (list_any (λ c. b == c) outputs)) (range_with_len 0 (length pool.states))

-- Placed values are in these blocks, which are at most one less than all data blocks.
abbrev pub LieInFew : Type 0
LieInFew =
    (shape : Shape) (d : ValuesState) (pool : Blocks) (outputs : List ℕ) (flash : Flash) (es : List (Key × Place)) → ValuesOnFlash shape d pool outputs flash es
    → (length (value_blocks pool outputs) ≤ data_blocks shape - 1)
    × ((k : ℕ) → IsValuePage shape es k → AnyByRecursion (λ b. k / shape.block_pages ≡ b) (value_blocks pool outputs))

-- No page of a placed value is in a block without an owner.
abbrev pub NoneInSpare : Type 0
NoneInSpare =
    (shape : Shape) (d : ValuesState) (pool : Blocks) (outputs : List ℕ) (flash : Flash) (es : List (Key × Place)) (b : ℕ) → ValuesOnFlash shape d pool outputs flash es → IsSpare pool b
    → (k : ℕ) → k / shape.block_pages ≡ b → IsValuePage shape es k → ⊥

-- If no block has an owner and no value is live, there are none.
abbrev pub StartsWithNone : Type 0
StartsWithNone = (shape : Shape) (flash : Flash) → IsShape shape → FoundAtOpening shape [] (no_values shape) (unused shape) flash []
