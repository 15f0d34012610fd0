-- What the calls of a pool that are handed a board do to both.
use Rattle.std.specs.Prelude.{◌≡◌, ℕ, ◌*◌}
use Rattle.pk_base.{specs.Shape.Shape, specs.Page.Flash}
use Rattle.pk_nand.{specs.BoardState.BoardState, specs.Operations.after_erase, specs.Operations.EraseFailed, specs.Crash.SameOutside, specs.Crash.Reached, specs.Crash.Went}
use Rattle.pk_pool.specs.declared.state.BlockState.TheVariants.{Free, Ready}
use Rattle.pk_pool.specs.Blocks.{Blocks, IsLowest, IsNowhere, with_state}

-- no page outside this block differs
abbrev pub SameButBlock : Shape → ℕ → Flash → Flash → Type 0
SameButBlock shape b old new = SameOutside (b * shape.block_pages) shape.block_pages old new

-- wherever the call is cut, no page outside this block differs
abbrev pub ReachesIn : Shape → ℕ → BoardState → BoardState → Type 0
ReachesIn shape b old new = Reached old new (λ flash _. SameButBlock shape b old.pages flash)

abbrev pub WentIn : Shape → ℕ → BoardState → BoardState → Type 0
WentIn shape b old new = Went old new (λ flash _. SameButBlock shape b old.pages flash)

-- the lowest-numbered block that was erased in this session, with no flash operation
pub record TakesReady (p : Blocks) (old : BoardState) (b : ℕ) (new : BoardState) : Type 0 where
  pub lowest : IsLowest Ready p.states b
  pub same : new ≡ old

-- no free block was erased in this session, and the lowest-numbered of them was erased by one call
pub record ErasesFree (p : Blocks) (old : BoardState) (b : ℕ) (new : BoardState) : Type 0 where
  pub none_ready : IsNowhere Ready p.states
  pub lowest : IsLowest Free p.states b
  pub erase : new ≡ after_erase old b

-- the one call, an erase of the lowest-numbered free block that was not erased, failed
pub record FailsToErase (p : Blocks) (old new : BoardState) : Type 0 where
  pub block : ℕ
  pub lowest : IsLowest Free p.states block
  pub failed : EraseFailed old new block
  pub cuts : WentIn p.shape block old new

-- the lowest-numbered free block that was not erased was erased by one call, and counts as erased
pub record ErasesOne (p : Blocks) (old : BoardState) (q : Blocks) (new : BoardState) : Type 0 where
  pub block : ℕ
  pub lowest : IsLowest Free p.states block
  pub marked : q ≡ with_state p block Ready
  pub erase : new ≡ after_erase old block
  pub cuts : ReachesIn p.shape block old new

-- every free block was erased, and nothing was done
pub record ErasesNone (p : Blocks) (old : BoardState) (q : Blocks) (new : BoardState) : Type 0 where
  pub none_free : IsNowhere Free p.states
  pub kept : q ≡ p
  pub same : new ≡ old
