-- What calls of other crates leave of a pool's view of a flash: the statements.
use Rattle.std.specs.Prelude.{◌≡◌, ℕ, ◌+◌, ◌*◌, ◌<◌, ◌≤◌, List, slice_get, Some}
use Rattle.pk_base.{specs.Shape.Shape, specs.Page.Flash, specs.Mark.program, specs.Mark.erase}
use Rattle.pk_nand.{specs.Cut.Interrupted, specs.Operations.InOrder, specs.Operations.IsErasedBlock, specs.Crash.SameOutside}
use Rattle.pk_pool.{specs.declared.state.BlockState.TheVariants.Ready, specs.Blocks.Blocks, specs.Blocks.PoolOnFlash}

-- the block does not count as erased
abbrev pub IsNotReady : Blocks → ℕ → Type 0
IsNotReady p b = slice_get p.states b ≡ Some Ready → ⊥

-- the page is in this block
abbrev pub IsInBlock : Shape → ℕ → ℕ → Type 0
IsInBlock shape b k = (b * shape.block_pages ≤ k) × (k < b * shape.block_pages + shape.block_pages)

-- if nothing differs outside some pages of a block that does not count as erased, the pool fits as before
abbrev pub ChangesElsewhere : Type 0
ChangesElsewhere =
    (p : Blocks) (old new : Flash) (b first count : ℕ) → IsNotReady p b
    → b * p.shape.block_pages ≤ first → first + count ≤ b * p.shape.block_pages + p.shape.block_pages
    → SameOutside first count old new → PoolOnFlash p old → PoolOnFlash p new

-- a program in such a block, done or interrupted, leaves the pool fitting
abbrev pub ProgramElsewhere : Type 0
ProgramElsewhere =
    (p : Blocks) (old new : Flash) (b at : ℕ) (bytes out : List ℕ) → IsNotReady p b → IsInBlock p.shape b at
    → Interrupted p.shape (program at bytes) old new out → PoolOnFlash p old → PoolOnFlash p new

-- an erase of such a block, done or interrupted, leaves the pool fitting
abbrev pub EraseElsewhere : Type 0
EraseElsewhere =
    (p : Blocks) (old new : Flash) (b : ℕ) (out : List ℕ) → 0 < p.shape.block_pages → IsNotReady p b
    → Interrupted p.shape (erase b) old new out → PoolOnFlash p old → PoolOnFlash p new

-- the first page of an erased block is the next one to be programmed
abbrev pub ErasedInOrder : Type 0
ErasedInOrder = (shape : Shape) (flash : Flash) (b : ℕ) → IsErasedBlock shape flash b → InOrder shape flash (b * shape.block_pages)
