-- What a background step does, for every map that the drive may represent.
use Rattle.std.specs.Prelude.{◌≡◌, ◌≢◌, ◌⊎◌, ◌↔◌, ◌+◌, ◌-◌, ◌<◌, ◌≤◌, ◌==◌, ◌&&◌, not, [], true, false}
use Rattle.pk_base.{specs.Shape.Shape, specs.Shape.data_blocks, specs.Page.Flash, specs.Map.Map}
use Rattle.pk_nand.{specs.BoardState.BoardState, specs.BoardState.shape_of, specs.Calls.Rose, specs.Effects.OnlyReading, specs.Effects.NoFault, specs.Effects.AtMostOneCall, specs.Effects.OneProgram}
use Rattle.pk_model.{specs.Spaces.Terms, specs.Growth.Grows, specs.Wear.roots}
use Rattle.pk_call.{specs.Sight.Sight, specs.Sight.IsIdle, specs.Sight.has_open_room, specs.Half.MakesPair, specs.Call.KeepsMap, specs.Drive.HoldsMap, specs.Exec.IsNextMerge, specs.Moving.KeepsFresh, specs.Seen.stopped_by, specs.Steady.Steadies}
use Rattle.pk_call.{specs.declared.types.Ticked.Ticked, specs.declared.types.Ticked.TheVariants.Worked, specs.declared.types.Ticked.TheVariants.Idle, specs.declared.types.Ticked.TheVariants.Fault}

-- it answers that the drive is idle exactly if it is
abbrev pub TellsIdle : BoardState → Sight → Ticked → Type 0
TellsIdle board drive answer =
    (shape : Shape) (terms : Terms) (m : Map) → HoldsMap shape terms board drive m → (answer ≡ Idle) ↔ IsIdle shape board.pages drive

-- a step that worked leaves less to do
abbrev pub LowersWork : BoardState → Sight → Sight → Ticked → Type 0
LowersWork board before after answer =
    answer ≡ Worked → (shape : Shape) (terms : Terms) (m : Map) → HoldsMap shape terms board before m → after.work < before.work

-- What it answers and leaves: the same map, and the root that is on the flash. A step that is idle or reads in vain does not change the drive.
pub record AnswersStep (old new : BoardState) (before after : Sight) (answer : Ticked) : Type 0 where
  pub none : after.pending ≡ []
  pub stands : stopped_by answer ≡ false → KeepsMap old new before after
  pub grows : stopped_by answer ≡ false → Grows (shape_of old) old.pages new.pages
  pub idle : TellsIdle old before answer
  pub idle_rests : answer ≡ Idle → (new ≡ old) × (after ≡ before)
  pub unmade : answer ≡ Fault false → (after ≡ before) × OnlyReading old new

-- What is counted: calls, faults and roots.
pub record CountsStep (old new : BoardState) (answer : Ticked) : Type 0 where
  pub calls : AtMostOneCall old new
  pub unread : answer ≡ Fault false → Rose old.read_faults new.read_faults
  pub up : old.read_faults ≤ new.read_faults
  pub flash_up : old.flash_faults ≤ new.flash_faults
  pub worked : answer ≡ Worked → NoFault old new
  pub stop : stopped_by answer ≡ true → Rose old.stop_faults new.stop_faults
  pub no_stop : stopped_by answer ≡ false → new.stop_faults ≡ old.stop_faults
  pub installs : roots new ≤ roots old + 1

-- ---- the order of the steps

-- a merge runs, or the frozen buffer has entries
abbrev pub SeesMerge : Sight → Type 0
SeesMerge s = (s.counts.merge ≢ 0) ⊎ (s.counts.frozen ≢ 0)

-- a reclaim runs, or is due
abbrev pub SeesReclaim : Shape → Flash → Sight → Type 0
SeesReclaim shape flash s = (s.reclaims ≡ true) ⊎ ((s.counts.blocks == data_blocks shape - 1) && not (has_open_room shape flash s.open_block) ≡ true)

-- In a drive of which no pair is half made: while a merge runs or is due, no reclaim begins or ends; while none is, and a reclaim runs or is
-- due, no page is read into a spare frame.
pub record SeenOrder (shape : Shape) (flash : Flash) (before after : Sight) : Type 0 where
  pub merges : before.half ≡ false → SeesMerge before → after.reclaims ≡ before.reclaims
  pub reclaims : before.half ≡ false → before.counts.merge ≡ 0 → before.counts.frozen ≡ 0 → SeesReclaim shape flash before → after.counts.leased ≡ before.counts.leased

-- a step that did not stop the drive is in this order
abbrev pub KeepsOrder : BoardState → Sight → Sight → Ticked → Type 0
KeepsOrder board before after answer =
    stopped_by answer ≡ false → (shape : Shape) (terms : Terms) (m : Map) → HoldsMap shape terms board before m → SeenOrder shape board.pages before after

-- How the background settles. The second program of a pair that is half made comes before all other steps, and is of that pair. A root is
-- installed by the first program of its pair, which is half made then.
pub record SettlesStep (old new : BoardState) (before after : Sight) (answer : Ticked) : Type 0 where
  pub lowers : LowersWork old before after answer
  pub order : KeepsOrder old before after answer
  pub begins : stopped_by answer ≡ false → (roots new ≡ roots old) ⊎ (after.half ≡ true)
  pub repeats : before.half ≡ true → OneProgram old new
  pub pair : before.half ≡ true → stopped_by answer ≡ false → MakesPair (shape_of old) old.pages new.pages
  pub finishes : before.half ≡ true → stopped_by answer ≡ false → after.half ≡ false

-- What is seen of the drive: its numbers, the newest epoch, and the blocks for values.
pub record ShowsStep (old new : BoardState) (before after : Sight) (answer : Ticked) : Type 0 where
  pub steady : stopped_by answer ≡ false → Steadies old new before after
  pub merge : stopped_by answer ≡ false → IsNextMerge (shape_of new) after.counts
  pub fresh : stopped_by answer ≡ false → KeepsFresh (shape_of old) old.pages new.pages before after
  pub blocks : stopped_by answer ≡ false → after.counts.blocks ≤ before.counts.blocks
