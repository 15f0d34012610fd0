-- Space for a value: steps of reclaims until it has room, of which one may fail by a read.
use Rattle.std.specs.Prelude.{◌≡◌, ◌⊎◌, ℕ, ◌+◌, ◌-◌, ◌≤◌, ◌<◌, [], Bool, true, false, ◌&&◌, Result, Ok, OnOk}
use Rattle.pk_base.{specs.Shape.Shape, specs.Map.Map}
use Rattle.pk_nand.{specs.declared.types.Fault.Fault, specs.BoardState.BoardState, specs.Calls.last_count}
use Rattle.pk_law_work.{specs.Rest.whole_reclaim, specs.Calls.room_calls, specs.Calls.room_roots}
use Rattle.pk_model.{specs.Wear.roots, specs.Reading.reading, specs.Growth.Reaches, specs.Crashes.CrashFinds, specs.Crashes.commit}
use Rattle.pk_gc.{specs.declared.course.Phase.Phase, specs.State.steps_left, specs.Stepping.runs_in}
use Rattle.pk_gc.specs.declared.course.Phase.TheVariants.{Idle, Copies, Commits, GivesBack}
use Rattle.pk_values.specs.State.{needs_reclaim}
use Rattle.pk_background.{specs.Costs.Spends, specs.Emptying.StepOrRead, specs.Emptying.OnRunning, specs.Reclaiming.is_tight_for}
use Rattle.pk_parts.{specs.Parts.Parts, specs.Parts.frames_of, specs.Moves.StandsFor, specs.Moves.MayStep, specs.Moves.BreaksAll, specs.Staying.StaysFresh}

-- ---- steps that keep the map

-- The map with the pending entries is the same, though its values may be elsewhere. The flash holds what it held, or that map; and so at
-- every cut.
pub record SameMap (after : Parts) (shape : Shape) (m : Map) (old new : BoardState) : Type 0 where
  pub stands : StandsFor after shape new.pages m
  pub still : (reading shape new.pages [] ≡ reading shape old.pages []) ⊎ (reading shape new.pages [] ≡ Ok m)
  pub cuts : Reaches shape old new (CrashFinds shape commit old.pages m)

-- for every map that the drive represented
abbrev pub SameMapAll : Parts → Parts → BoardState → BoardState → Type 0
SameMapAll before after old new = (shape : Shape) (m : Map) → StandsFor before shape old.pages m → SameMap after shape m old new

-- steps that keep it, also if a read failed
abbrev pub MovesOrReads : {T : Type 0} → Parts → Parts → ℕ → BoardState → BoardState → Result T Fault → Type 0
MovesOrReads {T} before after most old new result =
    StepOrRead (λ (x : T). SameMapAll before after old new) (SameMapAll before after old new) (BreaksAll before old new) before.log.shape most old new result

-- What of a drive is unchanged apart from the map and the places of its values.
pub record StaysSame (before after : Parts) : Type 0 where
  pub frames : frames_of after ≡ frames_of before
  pub stopped : after.stopped ≡ before.stopped
  pub same_shape : after.log.shape ≡ before.log.shape
  pub fresh : StaysFresh before after

-- ---- what remains

-- this much if it is so
abbrev pub where_so : Bool → ℕ → ℕ
where_so true n = n
where_so false n = 0

-- a value of n pages has no room without a reclaim
abbrev pub needs : ℕ → Parts → Bool
needs count d = needs_reclaim d.log.shape d.values d.pool count

-- how many steps of reclaims remain at most until none runs and such a value has room; one that is to begin takes fewer than the whole
abbrev pub steps_for : Phase → ℕ → Parts → ℕ
steps_for Idle count d = where_so (needs count d) (whole_reclaim d.log.shape - 1)
steps_for (Copies c) count d = steps_left d.log.shape d.values.live.heads c
steps_for (Commits victim) count d = 2
steps_for (GivesBack victim) count d = 1 + where_so (needs count d) (whole_reclaim d.log.shape - 1)

-- moves are to be committed before that
abbrev pub has_moves : Phase → ℕ → Parts → Bool
has_moves Idle count d = needs count d
has_moves (Copies c) count d = true
has_moves (Commits victim) count d = false
has_moves (GivesBack victim) count d = needs count d

-- how many calls may remain at most: these steps, and if the moves may find no room, merges and a freeze
abbrev pub space_left : ℕ → Parts → ℕ
space_left count d =
    steps_for d.reclaim.phase count d + where_so (has_moves d.reclaim.phase count d && is_tight_for d) (room_calls d.log.shape)

-- and how many roots: those of the merges and the freeze
abbrev pub space_roots : ℕ → Parts → ℕ
space_roots count d = where_so (has_moves d.reclaim.phase count d && is_tight_for d) room_roots

-- a reclaim runs, or is to run
abbrev pub Awaits : ℕ → Parts → Type 0
Awaits count d = (runs_in d.reclaim.phase ≡ true) ⊎ (needs count d ≡ true)

-- what a step of these asks: nothing is pending, and the numbers of roots last
pub record MaySpace (count : ℕ) (d : Parts) (board : BoardState) : Type 0 where
  pub may : MayStep d board
  pub none_pending : d.log.pending ≡ []
  pub number : roots board + space_left count d < last_count

-- One was made by this many flash operations, and less remains; or one of them failed.
pub record SpacesOnce (count : ℕ) (before after : Parts) (old new : BoardState) (result : Result Unit Fault) : Type 0 where
  pub made : ℕ
  pub some : 1 ≤ made
  pub step : MovesOrReads before after made old new result
  pub spends : Spends made (space_roots count before) old new
  pub within : made ≤ space_left count before
  pub left : OnOk result (made + space_left count after ≤ space_left count before)
  pub roots_left : OnOk result (roots new + space_roots count after ≤ roots old + space_roots count before)
  pub none_pending : OnRunning (after.log.pending ≡ []) result
  pub stays : OnRunning (StaysSame before after) result
