-- The exchange of runs after a merge. Each pool is seen as if the blocks that leave were free.
use Rattle.std.specs.Prelude.{◌≡◌, ℕ, ◌-◌, List, ◌++◌, true, slice_get, Some}
use Rattle.std.specs.List.{AllByRecursion}
use Rattle.pk_base.specs.Page.{Flash}
use Rattle.pk_pin.specs.Frames.{Frames, AreLeases}
use Rattle.pk_plan.specs.declared.owner.Owner.TheVariants.{Journal}
use Rattle.pk_pool.{specs.declared.state.BlockState.TheVariants.Owned, specs.Blocks.given_back, specs.Blocks.Blocks, specs.Blocks.PoolOnFlash, specs.Unready.unready}
use Rattle.pk_rootfmt.specs.Root.{differ}
use Rattle.pk_run.{specs.Kept.Kept, specs.Leases.AreLeased, specs.Leases.LeavesOthers, specs.Leases.given_all}
use Rattle.pk_level.specs.Levels.{Levels, IsOfLevel, run_of, with_run}
use Rattle.pk_merge.specs.Jobs.{Job, AreOwned, held_at, taken_from, given_to, ended}

-- The job has this run for the level, which may be there, and what the former one has may be freed.
pub record CanExchange (levels : Levels) (arena : Frames) (pool : Blocks) (job : Job) (level : ℕ)
    (r : Kept) : Type 0 where
  pub held : held_at job level ≡ Some r
  pub of_level : IsOfLevel levels.shape levels.pinned level r
  pub owned : AreOwned pool (run_of levels level).blocks
  pub leased : AreLeased arena (run_of levels level).leases

-- The run replaces the former one of its level, whose blocks and frames are free; no other run has lost one.
pub record Exchanges (levels : Levels) (arena : Frames) (pool : Blocks) (job : Job) (level : ℕ)
    (r : Kept) (levels' : Levels) (arena' : Frames) (pool' : Blocks) (job' : Job) : Type 0 where
  pub levels_are : levels' ≡ with_run levels level r
  pub job_is : job' ≡ given_to (taken_from job level) (run_of levels level)
  pub pool_is : pool' ≡ given_back pool (run_of levels level).blocks
  pub arena_is : arena' ≡ given_all arena (run_of levels level).leases
  pub pool_fits : (flash : Flash) → PoolOnFlash pool flash → PoolOnFlash pool' flash
  pub others : LeavesOthers (run_of levels level).leases arena arena'
  pub leases : (behind : List ℕ) → AreLeases arena ((run_of levels level).leases ++ behind)
      → AreLeases arena' behind
  pub same_unready : unready pool'.states ≡ unready pool.states

-- so for the run that the job has
abbrev pub ExchangesRun : Levels → Frames → Blocks → Job → ℕ → Levels → Frames → Blocks → Job
    → Type 0
ExchangesRun levels arena pool job level levels' arena' pool' job' =
    (r : Kept) → CanExchange levels arena pool job level r
    → Exchanges levels arena pool job level r levels' arena' pool' job'

-- These blocks are different ones of the journal.
pub record CanFree (pool : Blocks) (blocks : List ℕ) : Type 0 where
  pub different : differ blocks ≡ true
  pub owned : AllByRecursion (λ b. slice_get pool.states b ≡ Some (Owned Journal)) blocks

-- ---- the end of a merge

-- A merge into level 1: its output may be there, and after the exchange the blocks of the older epoch may be freed.
pub record CanEndFirst (levels : Levels) (arena : Frames) (pool : Blocks) (job : Job)
    (older : List ℕ) : Type 0 where
  pub out : Kept
  pub first : CanExchange levels arena pool job 1 out
  pub then_free : (levels' : Levels) (arena' : Frames) (pool' : Blocks) (job' : Job)
      → Exchanges levels arena pool job 1 out levels' arena' pool' job' → CanFree pool' older

-- Its run was exchanged, and the blocks of the older epoch are free.
pub record EndsFirst (levels : Levels) (arena : Frames) (pool : Blocks) (job : Job) (older : List ℕ)
    (levels' : Levels) (arena' : Frames) (pool' : Blocks) (job' : Job) : Type 0 where
  pub then_pool : Blocks
  pub then_job : Job
  pub first : ExchangesRun levels arena pool job 1 levels' arena' then_pool then_job
  pub freed : pool' ≡ given_back then_pool older
  pub pool_fits : (flash : Flash) → PoolOnFlash then_pool flash → PoolOnFlash pool' flash
  pub over : job' ≡ ended then_job

-- A merge into a deeper level: its output may be there, and after the exchange a run without entries may replace the source.
pub record CanEndDeep (levels : Levels) (arena : Frames) (pool : Blocks) (job : Job)
    (level : ℕ) : Type 0 where
  pub out : Kept
  pub first : CanExchange levels arena pool job level out
  pub then_second : (levels' : Levels) (arena' : Frames) (pool' : Blocks) (job' : Job)
      → Exchanges levels arena pool job level out levels' arena' pool' job'
      → (r : Kept) × CanExchange levels' arena' pool' job' (level - 1) r

-- Both runs were exchanged.
pub record EndsDeep (levels : Levels) (arena : Frames) (pool : Blocks) (job : Job) (level : ℕ)
    (levels' : Levels) (arena' : Frames) (pool' : Blocks) (job' : Job) : Type 0 where
  pub then_levels : Levels
  pub then_arena : Frames
  pub then_pool : Blocks
  pub then_job : Job
  pub last_job : Job
  pub first : ExchangesRun levels arena pool job level then_levels then_arena then_pool then_job
  pub second : ExchangesRun then_levels then_arena then_pool then_job (level - 1) levels' arena'
      pool' last_job
  pub over : job' ≡ ended last_job
