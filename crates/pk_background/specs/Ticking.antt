-- A background step.
use Rattle.std.specs.Prelude.{◌≡◌, ◌⊎◌, ◌+◌, ◌<◌, ◌≤◌, Bool, true, false, ◌==◌, ◌||◌, [], length}
use Rattle.pk_pool.{specs.declared.state.BlockState.TheVariants.Free, specs.Blocks.IsNowhere}
use Rattle.pk_nand.{specs.BoardState.BoardState, specs.BoardState.shape_of, specs.Calls.Rose, specs.Calls.last_count}
use Rattle.pk_nand.specs.Effects.{OnlyFlash, OnlyReading, NoFault, AtMostOneCall, OneProgram}
use Rattle.pk_call.{specs.Sight.Sight, specs.Sight.IsIdle, specs.Half.MakesPair, specs.Call.KeepsMap, specs.Call.CallReaches, specs.Call.CallGoes, specs.Seen.stopped_by}
use Rattle.pk_call.specs.declared.types.Ticked.{Ticked}
use Rattle.pk_call.specs.declared.types.Ticked.TheVariants.{Worked, Idle, Fault}
use Rattle.pk_model.{specs.Growth.Grows, specs.Wear.roots, specs.Crashes.background}
use Rattle.pk_compact.specs.FreezeSteps.{taken_by}
use Rattle.pk_schedule.specs.Steps.{has_no_merge}
use Rattle.pk_gc.specs.Stepping.{runs_in}
use Rattle.pk_parts.{specs.Parts.Parts, specs.Parts.index_of, specs.Parts.sight_of, specs.Parts.is_half, specs.Parts.is_reclaim_due, specs.Parts.may_freeze, specs.Agreeing.DriveOnFlash}
use Rattle.pk_parts.specs.Staying.{StaysOrFrees}
use Rattle.pk_background.{specs.Filling.lacks_frames, specs.Order.MadeInOrder}

-- a step asks for a drive that runs and agrees with its board, with nothing pending, and whose next root has a number
pub record MayTick (d : Parts) (board : BoardState) : Type 0 where
  pub agrees : DriveOnFlash d board.shape board.pages
  pub unstopped : d.stopped ≡ false
  pub none : d.log.pending ≡ []
  pub number : d.log.root.number < last_count
  -- the board counts in 64 bits
  pub counted : board.read_faults ≤ last_count

-- what a step did to a drive and its board: the clauses of the drive's contract, as one record
pub record Ticks (old new : BoardState) (before after : Sight) (answer : Ticked) : Type 0 where
  pub stands : stopped_by answer ≡ false → KeepsMap old new before after
  pub cuts : stopped_by answer ≡ false → CallReaches old new before background
  pub cuts_stopped : stopped_by answer ≡ true → CallGoes old new before background
  pub idle_rests : answer ≡ Idle → (new ≡ old) × (after ≡ before)
  pub unmade : answer ≡ Fault false → (after ≡ before) × OnlyReading old new
  pub grows : stopped_by answer ≡ false → Grows (shape_of old) old.pages new.pages
  pub rest : OnlyFlash old new
  pub calls : AtMostOneCall old new
  pub unread : answer ≡ Fault false → Rose old.read_faults new.read_faults
  pub up : old.read_faults ≤ new.read_faults
  pub flash_up : old.flash_faults ≤ last_count → old.flash_faults ≤ new.flash_faults
  pub worked : answer ≡ Worked → NoFault old new
  pub stop : stopped_by answer ≡ true → Rose old.stop_faults new.stop_faults
  pub no_stop : stopped_by answer ≡ false → new.stop_faults ≡ old.stop_faults
  pub installs : roots new ≤ roots old + 1

-- Nothing remains to be done: no pair is half made, no merge and no freeze runs, nothing is frozen, no reclaim runs or is due, every page
-- that may have a frame has one, and every free block was erased in this session.
pub record HasNoStep (d : Parts) : Type 0 where
  pub whole : is_half d ≡ false
  pub no_merge : has_no_merge (index_of d) ≡ true
  pub no_freeze : taken_by d.schedule.freeze ≡ []
  pub no_reclaim : runs_in d.reclaim.phase ≡ false
  pub none_due : is_reclaim_due d ≡ false
  pub all_filled : lacks_frames d ≡ false
  pub none_free : IsNowhere Free d.pool.states

-- a reclaim runs, or one is due
abbrev pub WantsReclaim : Parts → Type 0
WantsReclaim d = (runs_in d.reclaim.phase ≡ true) ⊎ (is_reclaim_due d ≡ true)

abbrev pub wants_reclaim : Parts → Bool
wants_reclaim d = runs_in d.reclaim.phase || is_reclaim_due d

-- a freeze runs, or a reclaim that runs may need one
abbrev pub WantsFreeze : Parts → Type 0
WantsFreeze d = ((length (taken_by d.schedule.freeze) == 0) ≡ false) ⊎ ((runs_in d.reclaim.phase ≡ true) × (may_freeze d ≡ true))

-- What a step did to a drive that might make one: it worked, so that less remains, or failed, or nothing remains to be done.
pub record Advances (d d' : Parts) (old new : BoardState) (answer : Ticked) : Type 0 where
  pub ticks : Ticks old new (sight_of d) (sight_of d') answer
  pub stops : d'.stopped ≡ stopped_by answer
  pub none : d'.log.pending ≡ []
  pub agrees : stopped_by answer ≡ false → DriveOnFlash d' new.shape new.pages
  pub moves : stopped_by answer ≡ false → StaysOrFrees d d'
  -- the second program of a pair that is half made comes first
  pub repeats : is_half d ≡ true → OneProgram old new
  pub pair : is_half d ≡ true → stopped_by answer ≡ false → MakesPair (shape_of old) old.pages new.pages
  pub finishes : is_half d ≡ true → stopped_by answer ≡ false → is_half d' ≡ false
  -- a root is installed by the first program of its pair
  pub begins : stopped_by answer ≡ false → (roots new ≡ roots old) ⊎ (is_half d' ≡ true)
  pub number : stopped_by answer ≡ false → d'.log.root.number ≤ d.log.root.number + 1
  pub lowers : answer ≡ Worked → (sight_of d').work < (sight_of d).work
  pub idle : answer ≡ Idle → HasNoStep d × (d' ≡ d)
  pub busy : IsIdle d.log.shape old.pages (sight_of d) → answer ≡ Idle
  -- the first step that applies is made
  pub order : MadeInOrder d d' old new answer
