-- One step of a merge or of a freeze, made by a Tick or by a command that needs room.
use Rattle.std.specs.Prelude.{◌≡◌, ◌⊎◌, ◌+◌, ◌<◌, ◌≤◌, true, false}
use Rattle.pk_base.{specs.Shape.Shape, specs.Map.Map}
use Rattle.pk_nand.{specs.declared.types.Fault.Fault, specs.declared.types.Fault.TheVariants.Reading, specs.declared.types.Fault.TheVariants.Stopped, specs.BoardState.BoardState, specs.Calls.Rose}
use Rattle.pk_nand.specs.Effects.{OnlyReading, Stops}
use Rattle.pk_model.specs.Growth.{Grows}
use Rattle.pk_root.specs.Installing.{repeats_next}
use Rattle.pk_schedule.{specs.declared.phase.Stepped.Stepped, specs.declared.phase.Stepped.TheVariants.Worked, specs.declared.phase.Stepped.TheVariants.Idle, specs.Steps.has_no_merge}
use Rattle.pk_parts.{specs.Parts.Parts, specs.Parts.index_of, specs.Parts.sight_of, specs.Moves.StandsFor}
use Rattle.pk_background.{specs.Reclaiming.HoldsAll, specs.Reclaiming.FailsAll, specs.Ticking.WantsFreeze}

-- The map is unchanged at every crash point, and less work remains.
pub record Merges (before after : Parts) (old new : BoardState) : Type 0 where
  pub holds : HoldsAll before after old new
  pub grows : Grows before.log.shape old.pages new.pages
  pub busy : has_no_merge (index_of before) ≡ false
  pub begins : (after.log.root ≡ before.log.root) ⊎ (repeats_next after.log.next ≡ true)
  pub number : after.log.root.number ≤ before.log.root.number + 1
  pub less : (sight_of after).work < (sight_of before).work

-- No merge was left to do, and nothing changed.
pub record NothingMerged (before after : Parts) (old new : BoardState) : Type 0 where
  pub none : has_no_merge (index_of before) ≡ true
  pub same : after ≡ before
  pub board : new ≡ old

-- what a step of the merges did
abbrev pub DoesMerge : Parts → Parts → BoardState → BoardState → Stepped → Type 0
DoesMerge before after old new Worked = Merges before after old new
DoesMerge before after old new Idle = NothingMerged before after old new

-- A read failed: only the job of the merge differs, and the step can be made again.
pub record CannotMerge (before after : Parts) (old new : BoardState) : Type 0 where
  pub busy : has_no_merge (index_of before) ≡ false
  pub rest : after ≡ record before { schedule = record before.schedule { job = after.schedule.job } }
  pub seen : sight_of after ≡ sight_of before
  pub stands : (shape : Shape) (m : Map) → StandsFor before shape old.pages m → StandsFor after shape old.pages m
  pub only : OnlyReading old new
  pub read : Rose old.read_faults new.read_faults
  pub flash : Rose old.flash_faults new.flash_faults

-- a flash operation failed: a read, or one that stops the drive
abbrev pub FailsMerge : Parts → Parts → BoardState → BoardState → Fault → Type 0
FailsMerge before after old new Reading = CannotMerge before after old new
FailsMerge before after old new Stopped = (has_no_merge (index_of before) ≡ false) × FailsAll before old new × Stops old new

-- A step of a freeze: the map is unchanged at every crash point, and less work remains if the freeze had begun or a reclaim needs it.
pub record FreezesOn (before after : Parts) (old new : BoardState) : Type 0 where
  pub holds : HoldsAll before after old new
  pub grows : Grows before.log.shape old.pages new.pages
  pub begins : (after.log.root ≡ before.log.root) ⊎ (repeats_next after.log.next ≡ true)
  pub number : after.log.root.number ≤ before.log.root.number + 1
  pub less : WantsFreeze before → (sight_of after).work < (sight_of before).work
