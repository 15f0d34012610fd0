-- Room for a further entry: merges to the end and a freeze, in steps of which one may fail by a read.
use Rattle.std.specs.Prelude.{◌≡◌, ◌⊎◌, ◌<◌, ◌≤◌, ◌+◌, ℕ, [], Bool, true, false, Result, Ok, Err, OnOk, OnErr}
use Rattle.pk_base.{specs.Key.Key, specs.Shape.Shape}
use Rattle.pk_nand.{specs.declared.types.Fault.Fault, specs.declared.types.Fault.TheVariants.Reading, specs.declared.types.Fault.TheVariants.Stopped, specs.BoardState.BoardState}
use Rattle.pk_nand.{specs.Calls.IsReady, specs.Calls.Rose, specs.Calls.last_count, specs.Effects.AtMostOneCall, specs.Effects.OnlyFlash, specs.Effects.NoFault}
use Rattle.pk_model.{specs.Wear.roots, specs.Steps.Step}
use Rattle.pk_root.specs.Installing.{repeats_next}
use Rattle.pk_compact.specs.FreezeSteps.{freeze_left}
use Rattle.pk_log.specs.State.{needs_freeze}
use Rattle.pk_law_work.{specs.Backlog.due_level, specs.Work.merging_left}
use Rattle.pk_call.specs.Calling.{FewCalls}
use Rattle.pk_schedule.{specs.declared.phase.Stepped.Stepped, specs.declared.phase.Stepped.TheVariants.Worked, specs.declared.phase.Stepped.TheVariants.Idle}
use Rattle.pk_schedule.specs.Steps.{backlog_of, has_no_merge, FreezeMoves, Freezes}
use Rattle.pk_parts.{specs.Parts.Parts, specs.Parts.index_of, specs.Staying.Stays}
use Rattle.pk_parts.specs.Moves.{KeepsAll, KeepsAllBetween, BreaksAll, MayStep, StepKeeps, LeavesValues}
use Rattle.pk_background.specs.Reclaiming.{is_tight_for}

-- ---- what a step leaves that may read

-- a read failed, and no other call
pub record Unread (old new : BoardState) : Type 0 where
  pub read : Rose old.read_faults new.read_faults
  pub up : old.read_faults ≤ new.read_faults
  pub flash : Rose old.flash_faults new.flash_faults
  pub no_stop : new.stop_faults ≡ old.stop_faults

-- a call failed that stops the drive, and no read
pub record Halts (old new : BoardState) : Type 0 where
  pub flash : Rose old.flash_faults new.flash_faults
  pub stop : Rose old.stop_faults new.stop_faults
  pub read : new.read_faults ≡ old.read_faults

-- It ended, a read failed, or a call failed that stops the drive.
abbrev pub Came : {T : Type 0} → (T → Type 0) → Type 0 → Type 0 → BoardState → BoardState → Result T Fault → Type 0
Came Ended Kept Broken old new (Ok x) = Ended x × NoFault old new
Came Ended Kept Broken old new (Err Reading) = Kept × Unread old new
Came Ended Kept Broken old new (Err Stopped) = Broken × Halts old new

-- At most this many pages were read.
pub record ReadsUpTo (most : ℕ) (old new : BoardState) : Type 0 where
  pub up : old.reads ≤ new.reads
  pub few : new.reads ≤ old.reads + most

-- The result of steps of which one may fail by a read, with at most this many reads and roots.
pub record StepOrRead {T : Type 0} (Ended : T → Type 0) (Kept Broken : Type 0) (shape : Shape) (most : ℕ) (old new : BoardState) (result : Result T Fault) : Type 0 where
  pub came : Came Ended Kept Broken old new result
  pub rest : OnlyFlash old new
  pub reads : ReadsUpTo most old new
  pub roots_few : roots new ≤ roots old + most
  pub ready : IsReady new shape

-- steps that keep the map, also if a read failed
abbrev pub KeepsOrReads : {T : Type 0} → Parts → Parts → ℕ → BoardState → BoardState → Result T Fault → Type 0
KeepsOrReads {T} before after most old new result =
    StepOrRead (λ (x : T). KeepsAll before after old new) (KeepsAll before after old new) (BreaksAll before old new) before.log.shape most old new result

-- if the drive was not stopped
abbrev pub OnRunning : {T : Type 0} → Type 0 → Result T Fault → Type 0
OnRunning P (Ok x) = P
OnRunning P (Err Reading) = P
OnRunning P (Err Stopped) = Unit {0}

-- ---- what remains

-- how many steps remain at most until nothing is frozen, no merge runs, and no pair of a root is half made
abbrev pub merges_left : Parts → ℕ
merges_left d = merging_left d.log.shape (backlog_of (index_of d))

-- how many merges remain at most until then, each of which installs a root: the level of the one that is due
abbrev pub merges_due : Parts → ℕ
merges_due d = due_level d.log.shape (backlog_of (index_of d))

-- What such a step requires: the drive represents a map with nothing pending, and the numbers of roots suffice for it.
pub record MayEmpty (d : Parts) (board : BoardState) : Type 0 where
  pub may : MayStep d board
  pub none_pending : d.log.pending ≡ []
  pub number : roots board < last_count

-- A step of the merges was made, a read of it failed, or nothing was left to do. A pair may be half made then.
pub record MergesOnce (before after : Parts) (old new : BoardState) (result : Result Stepped Fault) : Type 0 where
  pub step : StepOrRead (λ (s : Stepped). KeepsAllBetween before after old new) (KeepsAll before after old new) (BreaksAll before old new) before.log.shape 1 old new result
  pub idle : result ≡ Ok Idle → (has_no_merge (index_of before) ≡ true) × (after ≡ before) × (new ≡ old)
  pub calls : AtMostOneCall old new
  pub some : OnErr result (1 ≤ merges_left before)
  pub less : result ≡ Ok Worked → merges_left after < merges_left before
  pub installs : roots new ≤ roots old + merges_due before
  pub due : OnOk result (roots new + merges_due after ≤ roots old + merges_due before)
  pub none_pending : after.log.pending ≡ []
  pub leaves : OnRunning (LeavesValues before after) result
  pub stays : OnRunning (Stays before after) result

-- The same with the second program of a root whose first one it made, by this many flash operations: no pair is half made.
pub record MergesWhole (before after : Parts) (old new : BoardState) (result : Result Stepped Fault) : Type 0 where
  pub made : ℕ
  pub some : 1 ≤ made
  pub step : KeepsOrReads before after 1 old new result
  pub idle : result ≡ Ok Idle → (has_no_merge (index_of before) ≡ true) × (after ≡ before) × (new ≡ old)
  pub calls : FewCalls made old new
  pub within : OnErr result (made ≤ merges_left before)
  pub less : result ≡ Ok Worked → made + merges_left after ≤ merges_left before
  pub installs : roots new ≤ roots old + merges_due before
  pub due : OnOk result (roots new + merges_due after ≤ roots old + merges_due before)
  pub none_pending : after.log.pending ≡ []
  pub leaves : OnRunning (LeavesValues before after) result
  pub stays : OnRunning (Stays before after) result

-- how many steps of a freeze remain
abbrev pub freeze_left_of : Parts → ℕ
freeze_left_of d = freeze_left d.schedule.freeze d.log.next

-- A step of a freeze was made; none but the first program of its root installs a root.
pub record FreezesOnce (before after : Parts) (old new : BoardState) (result : Result Unit Fault) : Type 0 where
  pub step : Step (λ (u : Unit). KeepsAllBetween before after old new) (BreaksAll before old new) before.log.shape 1 old new result
  pub calls : AtMostOneCall old new
  pub freezes : OnOk result (FreezeMoves (index_of before) (index_of after) ⊎ Freezes (index_of before) (index_of after))
  pub no_root : OnOk result (repeats_next after.log.next ≡ false → roots new ≡ roots old)
  pub none_pending : after.log.pending ≡ []
  pub leaves : OnOk result (LeavesValues before after)
  pub stays : OnOk result (Stays before after)

-- An empty epoch is the newest one, and what was frozen is the active buffer.
pub record BeginsEpoch (before after : Parts) : Type 0 where
  pub active : after.log.active ≡ before.log.frozen
  pub unused : after.log.epoch.used ≡ 0
  pub takes_more : after.log.epoch.takes_more ≡ true

-- A step of a freeze was made, with the second program of its root if it made the first, by this many flash operations; then it is over.
pub record FreezesWhole (before after : Parts) (old new : BoardState) (result : Result Bool Fault) : Type 0 where
  pub made : ℕ
  pub step : StepKeeps before after 1 old new result
  pub calls : FewCalls made old new
  pub within : made ≤ freeze_left_of before + 1
  pub goes_on : result ≡ Ok false → (made ≡ 1) × FreezeMoves (index_of before) (index_of after)
  pub begins : result ≡ Ok true → BeginsEpoch before after
  pub no_root : result ≡ Ok false → roots new ≡ roots old
  pub none_pending : after.log.pending ≡ []
  pub leaves : OnOk result (LeavesValues before after)
  pub stays : OnOk result (Stays before after)

-- Any key has room for a further entry, and so have the moves of a reclaim.
pub record HasRoom (d : Parts) : Type 0 where
  pub any : (key : Key) → needs_freeze d.log key ≡ false
  pub wide : is_tight_for d ≡ false
