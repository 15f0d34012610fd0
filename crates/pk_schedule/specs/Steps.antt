-- What a step of the jobs asks of an index and its flash, and what it leaves.
use Rattle.std.specs.Prelude.{◌≡◌, ◌⊎◌, ℕ, ◌+◌, ◌/◌, ◌<◌, ◌≤◌, [], length, map, Bool, true, false, ◌==◌, ◌&&◌, if◌then◌else◌, slice_get, slice_set, Option, Some, None}
use Rattle.pk_base.{specs.Shape.Shape, specs.Page.Flash, specs.Page.page_at, specs.Page.whole as whole_page, specs.Map.Map}
use Rattle.pk_law_work.{specs.Backlog.Backlog, specs.Backlog.due_level, specs.Rest.Lowers, specs.Work.work, specs.Work.merging_left}
use Rattle.pk_nand.{specs.BoardState.BoardState, specs.Calls.IsReady, specs.Calls.Rose, specs.Effects.AtMostOneCall, specs.Effects.OnlyFlash, specs.Effects.OnlyReading}
use Rattle.pk_plan.specs.declared.owner.Owner.TheVariants.{Values}
use Rattle.pk_rootfmt.specs.Root.{Root, last_number, root_bytes}
use Rattle.pk_pool.{specs.declared.state.BlockState.TheVariants.Owned, specs.Blocks.Blocks, specs.Blocks.used_by, specs.Blocks.freed, specs.Unready.unready}
use Rattle.pk_root.{specs.declared.next.Next.Next, specs.Installing.repeats_next}
use Rattle.pk_run.specs.Kept.{most_pages, most_blocks}
use Rattle.pk_level.{specs.Levels.run_of, specs.Arenas.unfilled}
use Rattle.pk_model.{specs.Found.Found, specs.Growth.Grows, specs.Growth.Reaches, specs.Growth.Goes, specs.Wear.roots, specs.Wear.root_number, specs.Crashes.CrashFinds, specs.Crashes.background}
use Rattle.pk_law_steps.specs.Under.{IsUnder, IsValuePage, places}
use Rattle.pk_merge.specs.Remaining.{steps_left}
use Rattle.pk_compact.{specs.declared.freezing.FreezeJob.FreezeJob, specs.declared.freezing.FreezeJob.TheVariants.Idle as NoFreeze}
use Rattle.pk_compact.specs.FreezeSteps.{freeze_left, install_steps, taken_by}
use Rattle.pk_schedule.{specs.declared.phase.Phase.Phase, specs.declared.phase.Phase.TheVariants.Idle, specs.declared.phase.Phase.TheVariants.Running, specs.declared.phase.Phase.TheVariants.Ready}
use Rattle.pk_schedule.specs.Index.{Index, IndexOnFlash, IsSettled, HalfStands, settled, output, source_at}
pub use Rattle.pk_log.specs.MergeSteps.{KeepsActive}

-- ---- what remains

-- How many steps remain of the merge that runs: those of its job with one for its end, and those of its install.
abbrev pub merge_left : Phase → Index → Option ℕ
merge_left Idle x = None
merge_left (Running level) x =
    Some (steps_left (source_at x level) (run_of x.levels level) (output x.schedule)
    x.schedule.job.merger (most_pages (output x.schedule)) (most_blocks (output x.schedule)) + 1
    + install_steps x.log.next)
merge_left (Ready level) x = Some (install_steps x.log.next)

-- how many remain of the freeze that runs
abbrev pub freeze_rest_of : FreezeJob → Next → Option ℕ
freeze_rest_of job next = if length (taken_by job) == 0 then None else Some (freeze_left job next)

-- What the index contributes to a drive's backlog: no reclaim runs, and none is due.
abbrev pub backlog_of : Index → Backlog
backlog_of x = record {
  frozen = length x.log.frozen.entries;
  runs = map (λ r. r.count) x.levels.runs;
  merge = merge_left x.schedule.phase x;
  freeze = freeze_rest_of x.schedule.freeze x.log.next;
  reclaim = None;
  is_due = false;
  may_freeze = false;
  half = repeats_next x.log.next;
  unfilled = unfilled x.levels (length x.arena.used);
  unready = unready x.pool.states;
}

-- no merge runs
abbrev pub is_between : Phase → Bool
is_between Idle = true
is_between (Running level) = false
is_between (Ready level) = false

-- no merge runs, and nothing is frozen
abbrev pub has_no_merge : Index → Bool
has_no_merge x = is_between x.schedule.phase && (length x.log.frozen.entries == 0)

-- ---- what a step asks

-- The index matches the flash, whose map this is, with nothing pending and no pair half made, and the values are in blocks of their own.
pub record MayWork (x : Index) (frames : ℕ) (flash : Flash) (top : ℕ × Root) (found : Found)
    (m : Map) : Type 0 where
  pub stands : IndexOnFlash x frames flash top found
  pub settles : IsSettled x
  pub none_pending : x.log.pending ≡ []
  pub under : IsUnder x.log.shape flash [] top found m
  pub values : (k : ℕ) → IsValuePage x.log.shape (places found []) k
      → slice_get x.pool.states (k / x.log.shape.block_pages) ≡ Some (Owned Values)
  pub number : x.log.root.number < last_number

-- ---- what it leaves

-- The blocks for values are the same ones, and no page of one differs.
pub record KeepsValues (shape : Shape) (pool : Blocks) (old : Flash) (pool' : Blocks)
    (new : Flash) : Type 0 where
  pub size : length pool'.states ≡ length pool.states
  pub owned : (b : ℕ) → slice_get pool.states b ≡ Some (Owned Values)
      → slice_get pool'.states b ≡ Some (Owned Values)
  pub no_more : (b : ℕ) → slice_get pool'.states b ≡ Some (Owned Values)
      → slice_get pool.states b ≡ Some (Owned Values)
  pub as_many : used_by Values pool'.states ≡ used_by Values pool.states
  pub pages : (k : ℕ) → slice_get pool.states (k / shape.block_pages) ≡ Some (Owned Values)
      → page_at new k ≡ page_at old k

-- One step further the index matches the flash, with the same map and the same places of its values, under the same root or the one that
-- follows, whose pair is half made then: it matches as if the blocks that leave were free. So it does wherever the step is cut.
pub record IndexMoves (x : Index) (frames : ℕ) (old : BoardState) (found : Found) (m : Map)
    (x' : Index) (new : BoardState) : Type 0 where
  pub then_top : ℕ × Root
  pub then_found : Found
  pub stands : IndexOnFlash (settled x') frames new.pages then_top then_found
  pub ends : IsSettled x' ⊎ HalfStands x' new.pages m
  pub same_shape : x'.log.shape ≡ x.log.shape
  pub none_pending : x'.log.pending ≡ []
  pub under : IsUnder x.log.shape new.pages [] then_top then_found m
  pub same_places : places then_found [] ≡ places found []
  pub values : KeepsValues x.log.shape x.pool old.pages (freed x'.pool) new.pages
  pub begins : (x'.log.root ≡ x.log.root) ⊎ (repeats_next x'.log.next ≡ true)
  pub numbers : x'.log.root.number ≤ x.log.root.number + 1
  pub grows : Grows x.log.shape old.pages new.pages
  pub cuts : Reaches x.log.shape old new (CrashFinds x.log.shape background old.pages m)

-- for whatever is there
abbrev pub Moves : Index → BoardState → Index → BoardState → Type 0
Moves x old x' new = (frames : ℕ) (top : ℕ × Root) (found : Found) (m : Map)
    → MayWork x frames old.pages top found m → IndexMoves x frames old found m x' new

-- A read failed: the index is as before, and the same amount remains; of the job no more differs than the bytes of a page.
pub record Unmoved (x : Index) (x' : Index) : Type 0 where
  pub rest : x' ≡ record x { schedule = record x.schedule { job = x'.schedule.job } }
  pub same_backlog : backlog_of x' ≡ backlog_of x
  pub same_output : output x'.schedule ≡ output x.schedule

-- ---- a step of the merges

-- It lowers the remaining background work, and what remains to empty the frozen buffer. If it makes the first program of a root, the level
-- that is due is one less.
pub record LessIsLeft (x x' : Index) : Type 0 where
  pub work : work x.log.shape (backlog_of x') < work x.log.shape (backlog_of x)
  pub merging : merging_left x.log.shape (backlog_of x') < merging_left x.log.shape (backlog_of x)
  pub roots : x'.log.root.number + due_level x.log.shape (backlog_of x')
      ≡ x.log.root.number + due_level x.log.shape (backlog_of x)

-- for every flash that the index may match
abbrev pub Less : Index → Flash → Index → Type 0
Less x flash x' = (frames : ℕ) (top : ℕ × Root) (found : Found) (m : Map)
    → MayWork x frames flash top found m → LessIsLeft x x'

abbrev pub StandsStill : Index → BoardState → Index → BoardState → Type 0
StandsStill x old x' new = (frames : ℕ) (top : ℕ × Root) (found : Found) (m : Map)
    → MayWork x frames old.pages top found m → IndexOnFlash x' frames new.pages top found

-- the same of a step that stopped the drive
abbrev pub Breaks : Index → BoardState → BoardState → Type 0
Breaks x old new =
    (frames : ℕ) (top : ℕ × Root) (found : Found) (m : Map) → MayWork x frames old.pages top found m
    → Goes x.log.shape old new (CrashFinds x.log.shape background old.pages m)

-- A step of the merges was made.
pub record StepsOn (x : Index) (old : BoardState) (x' : Index) (new : BoardState) : Type 0 where
  pub moves : Moves x old x' new
  pub less : Less x old.pages x'

-- A read of it failed: nothing but reads was done, and the step can be made again.
pub record FailsByRead (x : Index) (old : BoardState) (x' : Index) (new : BoardState) : Type 0 where
  pub unmoved : Unmoved x x'
  pub again : StandsStill x old x' new
  pub read : Rose old.read_faults new.read_faults
  pub flash : Rose old.flash_faults new.flash_faults
  pub only : OnlyReading old new

-- Whatever the result, it made at most one flash operation, and installed at most one root.
pub record CallsOnce (shape : Shape) (old new : BoardState) : Type 0 where
  pub calls : AtMostOneCall old new
  pub rest : OnlyFlash old new
  pub installs : roots new ≤ roots old + 1
  pub ready : IsReady new shape

-- ---- the second program of a root

-- What it requires: the pair of the newest root is half made, and the index matches the flash as if the blocks that leave were free.
pub record MaySettle (x : Index) (frames : ℕ) (flash : Flash) (top : ℕ × Root) (found : Found)
    (m : Map) : Type 0 where
  pub stands : IndexOnFlash (settled x) frames flash top found
  pub half : HalfStands x flash m
  pub none_pending : x.log.pending ≡ []
  pub under : IsUnder x.log.shape flash [] top found m
  pub values : (k : ℕ) → IsValuePage x.log.shape (places found []) k
      → slice_get (freed x.pool).states (k / x.log.shape.block_pages) ≡ Some (Owned Values)

-- The pair is whole: its second page has the root as well, and no other page differs. The blocks that left are free; of the log no more
-- differs than what its installer does next. The index matches the flash under the same root, with the same map, wherever the program is cut.
-- Less remains then.
pub record IndexSettles (x : Index) (frames : ℕ) (old : BoardState) (top : ℕ × Root) (found : Found)
    (m : Map) (x' : Index) (new : BoardState) : Type 0 where
  pub stands : IndexOnFlash x' frames new.pages top found
  pub settles : IsSettled x'
  pub pages : new.pages ≡ slice_set old.pages (top.0 + 1) (whole_page (root_bytes x.log.shape top.1))
  pub log : x'.log ≡ record x.log { next = x'.log.next }
  pub rest : x' ≡ record (settled x) { log = x'.log }
  pub under : IsUnder x.log.shape new.pages [] top found m
  pub values : KeepsValues x.log.shape (freed x.pool) old.pages x'.pool new.pages
  pub less : LessIsLeft x x'
  pub number : root_number x.log.shape new.pages ≡ root_number x.log.shape old.pages
  pub grows : Grows x.log.shape old.pages new.pages
  pub cuts : Reaches x.log.shape old new (CrashFinds x.log.shape background old.pages m)

-- for whatever is there
abbrev pub Settles : Index → BoardState → Index → BoardState → Type 0
Settles x old x' new = (frames : ℕ) (top : ℕ × Root) (found : Found) (m : Map)
    → MaySettle x frames old.pages top found m → IndexSettles x frames old top found m x' new

-- the same of a program that failed
abbrev pub SettleBreaks : Index → BoardState → BoardState → Type 0
SettleBreaks x old new =
    (frames : ℕ) (top : ℕ × Root) (found : Found) (m : Map) → MaySettle x frames old.pages top found m
    → Goes x.log.shape old new (CrashFinds x.log.shape background old.pages m)

-- ---- a step of a freeze

-- what a step of a freeze asks up to the first program of its root: no merge runs, and nothing is frozen
pub record MayFreeze (x : Index) (frames : ℕ) (flash : Flash) (top : ℕ × Root) (found : Found)
    (m : Map) : Type 0 where
  pub may : MayWork x frames flash top found m
  pub none_merges : has_no_merge x ≡ true

-- The freeze is one step further, and the log is as before, but for what its installer does next; less remains of the freeze.
pub record FreezeMoves (x x' : Index) : Type 0 where
  pub log : x'.log ≡ record x.log { next = x'.log.next }
  pub whole : repeats_next x'.log.next ≡ false
  pub rest : x' ≡ record x {
    log = x'.log;
    pool = x'.pool;
    schedule = record x.schedule { freeze = x'.schedule.freeze };
  }
  pub lowers : Lowers (freeze_left x.schedule.freeze x.log.next) (unready x.pool.states)
      (freeze_left x'.schedule.freeze x'.log.next) (unready x'.pool.states)
  -- it has taken a block
  pub some : 0 < length (taken_by x'.schedule.freeze)

-- The first program of the freeze's root was made: an empty epoch is the newest one, and the buffers are exchanged. The second program remains.
pub record Freezes (x x' : Index) : Type 0 where
  pub rest : x' ≡ record x {
    log = x'.log;
    pool = x'.pool;
    schedule = record x.schedule { freeze = NoFreeze };
  }
  pub active : x'.log.active ≡ x.log.frozen
  pub frozen : x'.log.frozen ≡ x.log.active
  pub unused : x'.log.epoch.used ≡ 0
  pub takes_more : x'.log.epoch.takes_more ≡ true
  pub whole_epoch : x'.log.epoch.half ≡ false
  pub half : repeats_next x'.log.next ≡ true
  pub lowers : Lowers (freeze_left x.schedule.freeze x.log.next) (unready x.pool.states) 1
      (unready x'.pool.states)

-- a step of a freeze that failed, the second program of a root too
abbrev pub FreezeBreaks : Index → BoardState → BoardState → Type 0
FreezeBreaks x old new =
    (frames : ℕ) (top : ℕ × Root) (found : Found) (m : Map)
    → MayFreeze x frames old.pages top found m ⊎ MaySettle x frames old.pages top found m
    → Goes x.log.shape old new (CrashFinds x.log.shape background old.pages m)
