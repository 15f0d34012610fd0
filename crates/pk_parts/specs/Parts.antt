-- What a drive keeps in memory, and what contracts see of it.
use Rattle.std.specs.Prelude.{ℕ, ◌+◌, ◌-◌, Bool, true, List, [], ◌∷◌, length, map, count_by, Option, Some, None, ◌==◌, ◌&&◌, not, if◌then◌else◌, ◌||◌, false}
use Rattle.pk_base.specs.Shape.{Shape, charge, data_blocks, most_pages}
use Rattle.pk_plan.specs.declared.owner.Owner.TheVariants.{Values}
use Rattle.pk_pin.specs.Frames.{Frames, leased_frames}
use Rattle.pk_pool.specs.Blocks.{Blocks, IsShared, is_ready, used_by, freed}
use Rattle.pk_run.specs.Kept.{is_pinned}
use Rattle.pk_level.specs.Levels.{Levels, IsLevels, run_of}
use Rattle.pk_space.specs.Uses.{Use, space_live, space_keys}
use Rattle.pk_model.{specs.Spaces.Terms, specs.RootLimits.root_limits}
use Rattle.pk_call.specs.Sight.{Sight, Counts, InSpace}
use Rattle.pk_log.specs.State.{LogState}
use Rattle.pk_values.specs.State.{ValuesState, fits_open}
use Rattle.pk_live.specs.declared.open_block.OpenBlock.{OpenBlock}
use Rattle.pk_jrn.specs.Epochs.{left_of as pages_left}
use Rattle.pk_law_work.{specs.Backlog.Backlog, specs.Backlog.is_tight, specs.Rest.whole_reclaim, specs.Work.work}
use Rattle.pk_compact.specs.FreezeSteps.{taken_by}
use Rattle.pk_schedule.{specs.Index.Index, specs.Index.Schedule, specs.Index.index, specs.Index.merging, specs.Index.output, specs.Steps.backlog_of as backlog_of_index}
use Rattle.pk_gc.{specs.declared.course.Phase.Phase, specs.State.JobState, specs.State.steps_left, specs.Stepping.runs_in, specs.Standing.held_blocks}
use Rattle.pk_gc.specs.declared.course.Phase.TheVariants.{Idle, Copies, GivesBack, Commits}
use Rattle.pk_root.specs.Installing.{repeats_next}
use Rattle.pk_walk.specs.Walking.{Walk}

-- The log, the runs with the arena of their frames, the jobs that keep both short, where values lie, the reclaim, the blocks, the live
-- pages and the keys of each namespace, whether it stopped, and the walk of a List.
pub record Parts : Type 0 where
  pub log : LogState
  pub levels : Levels
  pub arena : Frames
  pub schedule : Schedule
  pub values : ValuesState
  pub reclaim : JobState
  pub pool : Blocks
  pub spaces : Use
  pub stopped : Bool
  pub walk : Walk

-- how many frames there are
abbrev pub frames_of : Parts → ℕ
frames_of d = length d.arena.used

-- the limits of its namespaces, which its root has
abbrev pub drive_limits : Parts → List ℕ
drive_limits d = root_limits d.log.shape d.log.root

-- its frames and these limits
abbrev pub terms_of : Parts → Terms
terms_of d = record { frames = frames_of d; limits = drive_limits d }

-- the part that records where the value of each key is
abbrev pub index_of : Parts → Index
index_of d = index d.log d.levels d.arena d.pool d.schedule

-- the parts as if the blocks that leave were free
abbrev pub settled_parts : Parts → Parts
settled_parts d = record d { pool = freed d.pool }

-- the commit of a reclaim's moves is half made
abbrev pub commits_in : Phase → Bool
commits_in Idle = false
commits_in (Copies c) = false
commits_in (Commits victim) = true
commits_in (GivesBack victim) = false

-- the pair of a root, or of the commit of a reclaim's moves, is half made
abbrev pub is_half : Parts → Bool
is_half d = repeats_next d.log.next || commits_in d.reclaim.phase

-- Blocks that running jobs hold and the root does not name: for the journal, for meta pages, and for values.
pub record HeldBlocks : Type 0 where
  pub journal : List ℕ
  pub metas : List ℕ
  pub values : List ℕ

-- those that a freeze has taken, those of a merge's output, and those of a reclaim
abbrev pub held_of : Parts → HeldBlocks
held_of d = record {
  journal = taken_by d.schedule.freeze;
  metas = (output d.schedule).blocks;
  values = held_blocks d.reclaim.phase;
}

-- the blocks that a reclaim holds for values
abbrev pub outputs_of : Parts → List ℕ
outputs_of d = (held_of d).values

-- what a Report says of namespaces with these limits, numbered from `space` on
abbrev pub reported_from : Use → ℕ → List ℕ → List InSpace
reported_from u space [] = []
reported_from u space (most ∷ limits) = record { live = space_live u space; limit = most; keys = space_keys u space } ∷ reported_from u (space + 1) limits

-- and of the namespaces of the drive
abbrev pub spaces_of : Parts → List InSpace
spaces_of d = reported_from d.spaces 1 (drive_limits d)

-- and of the drive
abbrev pub counts_of : Parts → Counts
counts_of d = record {
  pinned = d.levels.pinned;
  frames = frames_of d;
  leased = leased_frames d.arena;
  active = length d.log.active.entries;
  frozen = length d.log.frozen.entries;
  run1 = (run_of d.levels 1).count;
  run2 = (run_of d.levels 2).count;
  run3 = (run_of d.levels 3).count;
  run4 = (run_of d.levels 4).count;
  epoch = d.log.epoch.used;
  blocks = used_by Values d.pool.states - length (outputs_of d);
  ready = count_by is_ready d.pool.states;
  merge = merging d.schedule.phase;
}

-- of each level whether all its pages are in frames
abbrev pub held_by : Parts → List Bool
held_by d = map is_pinned d.levels.runs

-- most reads of a lookup: a page of each level that has pages without a frame
abbrev pub most_looks : Parts → ℕ
most_looks d = 4 - count_by (λ held. held) (held_by d)

-- how many pages a value takes
abbrev pub pages_for : Parts → List ℕ → ℕ
pages_for d value = charge d.log.shape (length value)

-- the number of the block that takes values, if there is one
abbrev pub block_if_open : Option OpenBlock → Option ℕ
block_if_open None = None
block_if_open (Some o) = Some o.block

-- ---- what remains to be done in the background

-- As many blocks are in use as may be, in addition to the one that a reclaim holds, and the open one does not take every value: a reclaim
-- is due, or will be.
abbrev pub is_reclaim_due : Parts → Bool
is_reclaim_due d = ((counts_of d).blocks == data_blocks d.log.shape - 1) && not (fits_open d.log.shape d.values (most_pages d.log.shape))

-- What remains of the reclaim that runs or is due. After the commit of its moves Stores may fill the open block, so that another one is
-- due after it.
abbrev pub reclaim_left : Shape → List ℕ → Bool → Phase → Option ℕ
reclaim_left shape heads due Idle = if due then Some (whole_reclaim shape - 2) else None
reclaim_left shape heads due (Copies c) = Some (steps_left shape heads c)
reclaim_left shape heads due (Commits victim) = Some (if due then whole_reclaim shape else 2)
reclaim_left shape heads due (GivesBack victim) = Some (if due then whole_reclaim shape - 1 else 1)

-- a reclaim that is due or runs has its moves to commit yet
abbrev pub has_moves : Bool → Phase → Bool
has_moves due Idle = due
has_moves due (Copies c) = true
has_moves due (Commits victim) = due
has_moves due (GivesBack victim) = due

-- their commit may need a freeze
abbrev pub may_freeze : Parts → Bool
may_freeze d = has_moves (is_reclaim_due d) d.reclaim.phase && is_tight d.log.shape (length d.log.active.entries) (pages_left d.log.epoch)

-- What remains of the index, with the reclaim. One that is due is known by what remains of it.
abbrev pub backlog_of : Parts → Backlog
backlog_of d = record (backlog_of_index (index_of d)) {
  reclaim = reclaim_left d.log.shape d.values.live.heads (is_reclaim_due d) d.reclaim.phase;
  may_freeze = may_freeze d;
}

-- ---- what contracts see

abbrev pub sight_of : Parts → Sight
sight_of d = record {
  pending = d.log.pending;
  stopped = d.stopped;
  counts = counts_of d;
  spaces = spaces_of d;
  open_block = block_if_open d.values.open_block;
  reclaims = runs_in d.reclaim.phase;
  fresh = d.log.epoch.takes_more;
  half = is_half d;
  held = held_by d;
  work = work d.log.shape (backlog_of d);
}

-- What the parts keep to, whatever is on the flash: blocks within quotas, and runs within their levels.
pub record IsParts (d : Parts) : Type 0 where
  pub shared : IsShared d.pool.shape d.pool.states
  pub levels : IsLevels d.levels
