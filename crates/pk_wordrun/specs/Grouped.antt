-- Commands that are committed in groups.
use Rattle.std.specs.Prelude.{◌≡◌, ℕ, ◌≤◌, List, [], ◌∷◌, ◌++◌, Some}
use Rattle.pk_base.{specs.Shape.Shape, specs.Map.Map}
use Rattle.pk_nvme.{specs.Command.Command, specs.Reply.Reply}
use Rattle.pk_nand.{specs.BoardState.BoardState, specs.Calls.Rose, specs.Effects.OnlyFlash}
use Rattle.pk_model.{specs.Growth.Reaches, specs.Growth.Goes, specs.Kept.AtMost, specs.Kept.rise, specs.Run.Exchange, specs.Run.commands, specs.Run.RunWithin, specs.Run.faults, specs.Spaces.Terms}
use Rattle.pk_call.{specs.Sight.Sight, specs.Drive.HoldsMap, specs.Meter.meter, specs.Meter.MeteredAll}
use Rattle.pk_port.specs.Asking.{KeptSilently}

-- a command, its reply and the pages that were read for it
abbrev pub exchange : Command → Reply → ℕ → Exchange
exchange c reply reads = record { command = c; reply = reply; reads = reads }

-- These were served from one state of a board to a later one, and the drive represents the map after them: what the flash holds, with the
-- pending entries. At every cut of the board the flash held the map after a prefix of the commands, and no byte was posted.
pub record Grouped (shape : Shape) (terms : Terms) (start : Map) (a b : BoardState) (drive : Sight) (all : List Exchange) : Type 0 where
  pub left : Map
  pub ran : RunWithin shape terms start all left
  pub few : AtMost (rise a.read_faults b.read_faults) (faults all)
  pub metered : MeteredAll (meter a) all (meter b)
  pub stands : HoldsMap shape terms b drive left
  pub shape_is : a.shape ≡ Some shape
  pub reached : Reaches shape a b (KeptSilently shape terms start (commands all) (rise a.read_faults b.read_faults))
  pub rose : a.read_faults ≤ b.read_faults
  pub no_stop : b.stop_faults ≡ a.stop_faults
  pub rest : OnlyFlash a b

-- The drive was stopped. Wherever the board was cut off, the flash held the map after a prefix of these commands.
pub record StoppedIn (shape : Shape) (terms : Terms) (start : Map) (a b : BoardState) (cs : List Command) : Type 0 where
  pub kept : Goes shape a b (KeptSilently shape terms start cs (rise a.read_faults b.read_faults))
  pub stop : Rose a.stop_faults b.stop_faults
  pub rest : OnlyFlash a b

-- A call keeps what was served.
abbrev pub KeepsGroup : BoardState → BoardState → Sight → Sight → Type 0
KeepsGroup old new before after =
    (shape : Shape) (terms : Terms) (start : Map) (a : BoardState) (all : List Exchange) → Grouped shape terms start a old before all → Grouped shape terms start a new after all

-- A call serves one more command.
abbrev pub AddsToGroup : BoardState → BoardState → Sight → Sight → Exchange → Type 0
AddsToGroup old new before after x =
    (shape : Shape) (terms : Terms) (start : Map) (a : BoardState) (all : List Exchange) → Grouped shape terms start a old before all
    → Grouped shape terms start a new after (all ++ x ∷ [])

-- A call stops the drive, in or before these commands after those that were served.
abbrev pub StopsGroup : BoardState → BoardState → Sight → List Command → Type 0
StopsGroup old new before more =
    (shape : Shape) (terms : Terms) (start : Map) (a : BoardState) (all : List Exchange) → Grouped shape terms start a old before all
    → StoppedIn shape terms start a new (commands all ++ more)
