-- What a call of a drive leaves, for every map that the drive may represent.
use Rattle.pk_base.{specs.Shape.Shape, specs.Map.Map}
use Rattle.pk_nand.specs.BoardState.{BoardState, shape_of}
use Rattle.pk_model.{specs.Spaces.Terms, specs.Spaces.limits_at, specs.Crashes.Moment, specs.Crashes.CrashFinds, specs.Crashes.command, specs.Growth.Reaches, specs.Growth.Goes}
use Rattle.pk_nvme.specs.Command.{Command}
use Rattle.pk_call.{specs.Sight.Sight, specs.Drive.HoldsMap}

-- it represents the same map after the call
abbrev pub KeepsMap : BoardState → BoardState → Sight → Sight → Type 0
KeepsMap old new before after =
    (shape : Shape) (terms : Terms) (m : Map) → HoldsMap shape terms old before m → HoldsMap shape terms new after m

-- the moment of a command on this board: the map becomes the one after it, within the limits that the flash has
abbrev pub command_on : BoardState → Command → Moment
command_on board c = command (limits_at (shape_of board) board.pages) c

-- Every crash within the call finds what its moment allows, and the tree goes from root to root by freezes and merges.
abbrev pub CallReaches : BoardState → BoardState → Sight → Moment → Type 0
CallReaches old new before moment =
    (shape : Shape) (terms : Terms) (m : Map) → HoldsMap shape terms old before m → Reaches shape old new (CrashFinds shape moment old.pages m)

-- the same of a call that stopped the drive
abbrev pub CallGoes : BoardState → BoardState → Sight → Moment → Type 0
CallGoes old new before moment =
    (shape : Shape) (terms : Terms) (m : Map) → HoldsMap shape terms old before m → Goes shape old new (CrashFinds shape moment old.pages m)
