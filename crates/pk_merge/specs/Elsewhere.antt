-- What a step of a merge leaves of other pages, runs and leases, and what calls of others leave of a merge.
use Rattle.std.specs.Prelude.{◌≡◌, ◌⊎◌, ℕ, ◌/◌, List, ◌++◌, slice_get, Some}
use Rattle.pk_base.{specs.Entry.Entry, specs.Page.Flash, specs.Page.page_at}
use Rattle.pk_nand.{specs.BoardState.BoardState, specs.Operations.after_read}
use Rattle.pk_pin.specs.Frames.{Frames, AreLeases}
use Rattle.pk_plan.specs.declared.owner.Owner.TheVariants.{Meta}
use Rattle.pk_pool.{specs.declared.state.BlockState.TheVariants.Owned, specs.Blocks.Blocks, specs.Blocks.PoolOnFlash, specs.Blocks.IsSpare, specs.Blocks.used_by}
use Rattle.pk_pool.specs.Taking.{ReachesIn, WentIn}
use Rattle.pk_run.specs.Kept.{Kept, RunOnFlash}
use Rattle.pk_merge.specs.Outputs.{AreMeta, BlocksApart}

-- nothing was called, or a page was read
abbrev pub IsLook : BoardState → BoardState → Type 0
IsLook old new = (new ≡ old) ⊎ (new ≡ after_read old)

-- a spare block of the pool, or one of the output
abbrev pub IsForOutput : Blocks → Kept → ℕ → Type 0
IsForOutput pool out b = IsSpare pool b ⊎ ((i : ℕ) × (slice_get out.blocks i ≡ Some b))

-- Wherever a step is cut, no page differs, or none outside a block that is spare or the output's.
abbrev pub StepReaches : Blocks → Kept → BoardState → BoardState → Type 0
StepReaches pool out old new = IsLook old new ⊎ ((b : ℕ) × IsForOutput pool out b × ReachesIn out.shape b old new)

abbrev pub StepWent : Blocks → Kept → BoardState → BoardState → Type 0
StepWent pool out old new = (b : ℕ) × IsForOutput pool out b × WentIn out.shape b old new

-- A run of the same shape, whose blocks are owned for meta pages and none of the output's, is as before.
abbrev pub LeavesRuns : Blocks → Kept → Flash → Frames → Flash → Frames → Type 0
LeavesRuns pool out old before new after =
    (other : Kept) (es : List Entry) → other.shape ≡ out.shape → AreMeta pool other.blocks → BlocksApart other.blocks out.blocks → RunOnFlash other old before es → RunOnFlash other new after es

-- The leases of the arena are those of the output and others, which are unchanged.
abbrev pub LeavesLeases : Kept → Frames → Kept → Frames → Type 0
LeavesLeases out before out' after = (others : List ℕ) → AreLeases before (others ++ out.leases) → AreLeases after (others ++ out'.leases)

-- No page of a block that is owned for meta pages differs, and these blocks stay owned.
pub record IsElsewhere (pool : Blocks) (old : Flash) (pool' : Blocks) (new : Flash) : Type 0 where
  pub shape : pool'.shape ≡ pool.shape
  pub fits : PoolOnFlash pool' new
  pub used : used_by Meta pool'.states ≡ used_by Meta pool.states
  pub owned : (b : ℕ) → slice_get pool.states b ≡ Some (Owned Meta) → slice_get pool'.states b ≡ Some (Owned Meta)
  pub same : (b k : ℕ) → slice_get pool.states b ≡ Some (Owned Meta) → k / pool.shape.block_pages ≡ b → page_at new k ≡ page_at old k
