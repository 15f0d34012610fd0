-- A step of a reclaim: it keeps the map, but not the places of the values.
use Rattle.std.specs.Prelude.{◌≡◌, ◌+◌, [], length, Bool, true}
use Rattle.pk_base.{specs.Shape.Shape, specs.Map.Map}
use Rattle.pk_plan.specs.declared.owner.Owner.TheVariants.{Values}
use Rattle.pk_pool.specs.Blocks.{used_by}
use Rattle.pk_jrn.specs.Epochs.{left_of as pages_left}
use Rattle.pk_nand.{specs.declared.types.Fault.Fault, specs.declared.types.Fault.TheVariants.Reading, specs.declared.types.Fault.TheVariants.Stopped, specs.BoardState.BoardState, specs.Calls.Rose}
use Rattle.pk_nand.specs.Effects.{OnlyReading, Stops}
use Rattle.pk_law_work.specs.Backlog.{is_tight}
use Rattle.pk_model.{specs.Growth.Reaches, specs.Growth.Goes, specs.Crashes.CrashFinds, specs.Crashes.background}
use Rattle.pk_gc.{specs.declared.course.Course.Course, specs.declared.course.Phase.Phase, specs.declared.reclaimed.Reclaimed.Reclaimed}
use Rattle.pk_gc.specs.declared.course.Phase.TheVariants.{Idle, Copies, Commits, GivesBack}
use Rattle.pk_gc.specs.declared.reclaimed.Reclaimed.TheVariants.{Worked, NeedsFreeze, Ended}
use Rattle.pk_reclaim.{specs.Space.ReclaimParts, specs.Space.reclaim_parts, specs.Space.IsTurn, specs.Space.Falls, specs.Space.HasRoom as HasSpace, specs.Steps.RoomBehind}
use Rattle.pk_parts.{specs.Parts.Parts, specs.Moves.StandsFor, specs.Moves.StandsBetween, specs.Moves.MayStep}

-- its log, its values, its blocks and its reclaim
abbrev pub space_of : Parts → ReclaimParts
space_of d = reclaim_parts d.log d.values d.pool d.reclaim

-- What a step of a reclaim asks: nothing is pending, and a reclaim runs, or may begin.
pub record MayReclaim (d : Parts) (board : BoardState) : Type 0 where
  pub may : MayStep d board
  pub none_pending : d.log.pending ≡ []
  pub turn : IsTurn (space_of d)

-- ---- the map

-- The drive represents the map on the flash afterwards, with a pair half made or not, and wherever the step is cut, the flash holds it.
pub record ReclaimHolds (after : Parts) (shape : Shape) (m : Map) (old new : BoardState) : Type 0 where
  pub stands : StandsBetween after shape new.pages m
  pub cuts : Reaches shape old new (CrashFinds shape background old.pages m)

-- for every map that it represented
abbrev pub HoldsAll : Parts → Parts → BoardState → BoardState → Type 0
HoldsAll before after old new = (shape : Shape) (m : Map) → StandsFor before shape old.pages m → ReclaimHolds after shape m old new

-- the same of a step that stopped the drive
abbrev pub FailsAll : Parts → BoardState → BoardState → Type 0
FailsAll before old new = (shape : Shape) (m : Map) → StandsFor before shape old.pages m → Goes shape old new (CrashFinds shape background old.pages m)

-- ---- what differs, and what remains

-- Nothing differs but the places of values, the blocks, the reclaim, and the entries of the active buffer with the commits of the newest epoch.
abbrev pub LeavesIndex : Parts → Parts → Type 0
LeavesIndex before after =
    after
    ≡ record before {
      log = record before.log { active = record before.log.active { entries = after.log.active.entries }; epoch = record before.log.epoch { used = after.log.epoch.used; half = after.log.epoch.half } };
      values = after.values;
      reclaim = after.reclaim;
      pool = after.pool;
    }

-- the active buffer or the newest epoch may have no room for the moves of a reclaim
abbrev pub is_tight_for : Parts → Bool
is_tight_for d = is_tight d.log.shape (length d.log.active.entries) (pages_left d.log.epoch)

-- ---- by its answer

-- It kept the map, and less remains.
pub record Lessens (before after : Parts) (old new : BoardState) : Type 0 where
  pub holds : HoldsAll before after old new
  pub leaves : LeavesIndex before after
  pub falls : Falls (space_of before) (space_of after)

-- The log is the same while values are copied; from the first program of their moves' commit on every value has room.
abbrev pub RunsOn : Phase → Parts → Parts → Type 0
RunsOn Idle before after = ⊥
RunsOn (Copies c) before after = after.log ≡ before.log
RunsOn (Commits victim) before after = HasSpace (space_of after)
RunsOn (GivesBack victim) before after = HasSpace (space_of after)

-- A block was freed, and no reclaim runs.
pub record ReclaimEnded (before after : Parts) : Type 0 where
  pub idle : after.reclaim.phase ≡ Idle
  pub given : used_by Values after.pool.states + 1 ≡ used_by Values before.pool.states
  pub from : RoomBehind before.reclaim.phase (space_of before) (space_of after)

-- The moves found no room, and nothing was done.
pub record Waits (before after : Parts) (old new : BoardState) : Type 0 where
  pub same : after ≡ before
  pub board : new ≡ old
  pub course : Course
  pub copies : before.reclaim.phase ≡ Copies course
  pub tight : is_tight_for before ≡ true

abbrev pub DoesReclaim : Parts → Parts → BoardState → BoardState → Reclaimed → Type 0
DoesReclaim before after old new Worked = Lessens before after old new × RunsOn after.reclaim.phase before after
DoesReclaim before after old new NeedsFreeze = Waits before after old new
DoesReclaim before after old new Ended = Lessens before after old new × ReclaimEnded before after

-- A read failed: no more differs than the bytes of a page, and the step can be made again.
pub record CannotRead (before after : Parts) (old new : BoardState) : Type 0 where
  pub rest : after ≡ record before { reclaim = record before.reclaim { page = after.reclaim.page } }
  pub stands : (shape : Shape) (m : Map) → StandsFor before shape old.pages m → StandsFor after shape old.pages m
  pub only : OnlyReading old new
  pub read : Rose old.read_faults new.read_faults
  pub flash : Rose old.flash_faults new.flash_faults

-- a call failed: a read, or one that stops the drive
abbrev pub FailsReclaim : Parts → Parts → BoardState → BoardState → Fault → Type 0
FailsReclaim before after old new Reading = CannotRead before after old new
FailsReclaim before after old new Stopped = FailsAll before old new × Stops old new
