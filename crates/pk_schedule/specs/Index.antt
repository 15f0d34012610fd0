-- The index of a drive, which records where the value of each key is: its log and its runs, the blocks of both, and the jobs that keep the lists short.
use Rattle.std.specs.Prelude.{◌≡◌, ◌⊎◌, ℕ, ◌+◌, ◌-◌, ◌<◌, List, [], length, map, ◌==◌, ◌++◌, if◌then◌else◌, slice_get, Some, true, false}
use Rattle.std.{specs.Borrow.Bor, specs.List.concat, specs.List.AllByRecursion}
use Rattle.pk_base.{specs.Shape.Shape, specs.Shape.pinned, specs.Entry.Entry, specs.Firsts.firsts, specs.Merge.next_merge, specs.Page.Flash, specs.Map.Map}
use Rattle.pk_plan.{specs.declared.owner.Owner.Owner, specs.declared.owner.Owner.TheVariants.Journal, specs.declared.owner.Owner.TheVariants.Meta, specs.declared.owner.Owner.TheVariants.Values}
use Rattle.pk_rootfmt.specs.Root.{Root, named, differ}
use Rattle.pk_pin.specs.Frames.{Frames}
use Rattle.pk_pool.specs.declared.state.BlockState.TheVariants.{Owned, Free}
use Rattle.pk_pool.specs.Blocks.{Blocks, PoolOnFlash, NoneLeaves, used_by, freed}
use Rattle.pk_run.specs.Kept.{Kept}
use Rattle.pk_level.{specs.Levels.Levels, specs.Levels.RunsOnFlash, specs.Levels.HaveBlocks, specs.Levels.run_of, specs.Arenas.HasArena}
use Rattle.pk_model.{specs.Found.Found, specs.Laws.AnyByRecursion, specs.Tree.run_at}
use Rattle.pk_law_steps.specs.Merging.{output_of as whole_output}
use Rattle.pk_merge.{specs.declared.source.Source.Source, specs.declared.source.Source.TheVariants.Frozen, specs.declared.source.Source.TheVariants.Run, specs.Merging.IsDone}
use Rattle.pk_merge.{specs.Jobs.Job, specs.Jobs.JobRuns, specs.Jobs.IsIdle, specs.Jobs.all_spare, specs.Jobs.without, specs.Jobs.pins, specs.Jobs.output_of, specs.Running.IsOutputWhole}
use Rattle.pk_compact.{specs.declared.freezing.FreezeJob.FreezeJob, specs.FreezeSteps.IsTaken, specs.FreezeSteps.taken_by, specs.Installing.IsHalf}
use Rattle.pk_root.specs.Installing.{repeats_next}
use Rattle.pk_schedule.{specs.declared.phase.Phase.Phase, specs.declared.phase.Phase.TheVariants.Idle, specs.declared.phase.Phase.TheVariants.Running, specs.declared.phase.Phase.TheVariants.Ready}
use Rattle.pk_log.{specs.State.LogState, specs.Logs.LogOnFlash}

-- The job of merges, how far the merge that runs is, and how far the freeze is.
pub record Schedule : Type 0 where
  pub job : Job
  pub phase : Phase
  pub freeze : FreezeJob

-- the level into which a merge runs, 0 if none does
abbrev pub merging : Phase → ℕ
merging Idle = 0
merging (Running level) = level
merging (Ready level) = level

-- the output of the merge; an empty run if none runs
abbrev pub output : Schedule → Kept
output s = output_of s.job

-- the log, the runs with the arena of their frames, the blocks, and the schedule
pub record Index : Type 0 where
  pub log : LogState
  pub levels : Levels
  pub arena : Frames
  pub pool : Blocks
  pub schedule : Schedule

abbrev pub index : LogState → Levels → Frames → Blocks → Schedule → Index
index log levels arena pool schedule = record {
  log = log;
  levels = levels;
  arena = arena;
  pool = pool;
  schedule = schedule;
}

-- ---- what a merge is made of

-- a reference to this value
abbrev pub referred : {X : Type 0} → X → Bor X
referred x = record { ref_ptr = (0, 0); now = x }

-- the source of a merge into this level: the frozen buffer, or the run above
abbrev pub source_at : Index → ℕ → Source (Unit {0})
source_at x level =
    if level == 1 then Frozen (referred x.log.frozen)
    else Run (referred (run_of x.levels (level - 1)))

-- its entries, rising by key
abbrev pub entries_at : Index → Found → ℕ → List Entry
entries_at x found level =
    if level == 1 then x.log.frozen.entries else run_at found.runs (level - 1)

-- These blocks are different ones, the pool has them for this owner, and the root names none of them.
pub record AreHeld (pool : Blocks) (root : Root) (owner : Owner) (blocks : List ℕ) : Type 0 where
  pub different : differ blocks ≡ true
  pub owned : (b : ℕ) → AnyByRecursion (λ c. b ≡ c) blocks
      → slice_get pool.states b ≡ Some (Owned owner)
  pub unnamed : (b : ℕ) → AnyByRecursion (λ c. b ≡ c) blocks
      → AnyByRecursion (λ c. b ≡ c) (named root) → ⊥

-- this is the level of the merge that is next
abbrev pub IsDue : Shape → Found → ℕ → Type 0
IsDue shape found level =
    next_merge shape (length (firsts found.older)) (map length found.runs) ≡ Some level

-- The job makes the merge into this level, which is the next one.
pub record MergesInto (x : Index) (root : Root) (found : Found) (level : ℕ) : Type 0 where
  pub due : IsDue x.log.shape found level
  pub target : x.schedule.job.target ≡ level
  pub has_output : x.schedule.job.output ≡ Some (output x.schedule)
  pub output_shape : (output x.schedule).shape ≡ x.log.shape
  pub output_level : (output x.schedule).level ≡ level
  pub held : AreHeld x.pool root Meta (output x.schedule).blocks
  pub spares : x.schedule.job.spares ≡ without (all_spare x.log.shape) level
  pub merger_shape : x.schedule.job.merger.shape ≡ x.log.shape

-- It runs, and is not done.
pub record MergeRuns (x : Index) (flash : Flash) (root : Root) (found : Found)
    (level : ℕ) : Type 0 where
  pub into : MergesInto x root found level
  pub runs : JobRuns (source_at x level) (run_of x.levels level) x.schedule.job x.pool flash x.arena
      (entries_at x found level) (run_at found.runs level)
  pub undone : IsDone (source_at x level) (run_of x.levels level) x.schedule.job.merger → ⊥

-- Its output is complete, and waits for its root.
pub record MergeWaits (x : Index) (flash : Flash) (root : Root) (found : Found)
    (level : ℕ) : Type 0 where
  pub into : MergesInto x root found level
  pub whole : IsOutputWhole (pins x.schedule.job) (output x.schedule) flash x.arena
      (whole_output level found)

-- the merge is as far as its phase says
abbrev pub MergeStands : Phase → Index → Flash → Root → Found → Type 0
MergeStands Idle x flash root found = IsIdle x.log.shape x.schedule.job
MergeStands (Running level) x flash root found = MergeRuns x flash root found level
MergeStands (Ready level) x flash root found = MergeWaits x flash root found level

-- The blocks that a freeze has taken are different ones of the journal, Erased, and the root names none of them. It takes some only if nothing is frozen.
pub record FreezeStands (x : Index) (flash : Flash) (root : Root) : Type 0 where
  pub taken : AllByRecursion (IsTaken x.log.shape x.pool flash root) (taken_by x.schedule.freeze)
  pub different : differ (taken_by x.schedule.freeze) ≡ true
  pub none_frozen : 0 < length (taken_by x.schedule.freeze) → x.log.frozen.entries ≡ []

-- ---- half made pairs

-- the index as if the blocks that leave were free
abbrev pub settled : Index → Index
settled x = record x { pool = freed x.pool }

-- no pair of a root is half made, and no block leaves
pub record IsSettled (x : Index) : Type 0 where
  pub whole : repeats_next x.log.next ≡ false
  pub none_leaves : NoneLeaves x.pool

-- The pair of the newest root is half made; before its first program the same map was under the former root. No merge and no freeze runs.
-- Something is frozen, or a block is free that was not erased since it had an owner, so that the index is not idle.
pub record HalfStands (x : Index) (flash : Flash) (m : Map) : Type 0 where
  pub half : IsHalf x.log.shape x.log.next flash m
  pub no_merge : x.schedule.phase ≡ Idle
  pub no_freeze : taken_by x.schedule.freeze ≡ []
  -- no block for values leaves
  pub counted : used_by Values x.pool.states ≡ used_by Values (freed x.pool).states
  pub busy : (0 < length x.log.frozen.entries)
      ⊎ ((b : ℕ) × (slice_get (freed x.pool).states b ≡ Some Free))

-- ---- how it matches a flash

-- The log and the runs are those of what is under the newest root, and the jobs match next to them.
pub record IndexOnFlash (x : Index) (frames : ℕ) (flash : Flash) (top : ℕ × Root)
    (found : Found) : Type 0 where
  pub logs : LogOnFlash x.log flash top found
  pub pool_shape : x.pool.shape ≡ x.log.shape
  pub pool_fits : PoolOnFlash x.pool flash
  -- the runs are in the blocks that the root names
  pub levels_shape : x.levels.shape ≡ x.log.shape
  pub levels_pinned : x.levels.pinned ≡ pinned x.log.shape frames
  pub stand : RunsOnFlash flash x.arena x.levels.runs found.runs
  pub run_blocks : HaveBlocks x.log.shape x.levels.runs top.1.runs
  -- the frames that are leased are theirs and those of a merge's output
  pub arena_is : HasArena x.log.shape frames x.levels x.arena (output x.schedule).leases
  -- the blocks of the journal and of runs are those that the root names, and those that jobs hold
  pub journal : (b : ℕ) → AnyByRecursion (λ c. b ≡ c) (top.1.newest ++ top.1.older)
      → slice_get x.pool.states b ≡ Some (Owned Journal)
  pub journal_few : used_by Journal x.pool.states
      ≡ length (top.1.newest ++ top.1.older) + length (taken_by x.schedule.freeze)
  pub runs : (b : ℕ) → AnyByRecursion (λ c. b ≡ c) (concat top.1.runs)
      → slice_get x.pool.states b ≡ Some (Owned Meta)
  pub runs_few : used_by Meta x.pool.states
      ≡ length (concat top.1.runs) + length (output x.schedule).blocks
  -- the jobs
  pub pins_are : x.schedule.job.pinned ≡ pinned x.log.shape frames
  pub merge : MergeStands x.schedule.phase x flash top.1 found
  pub freeze : FreezeStands x flash top.1
