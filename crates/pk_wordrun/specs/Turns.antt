-- One command of a word.
use Rattle.std.specs.Prelude.{◌≡◌, ◌<◌, List, [], ◌∷◌, ◌++◌, length, Result, Ok, Err}
use Rattle.pk_base.specs.Shape.{Shape}
use Rattle.pk_nvme.specs.Command.{Command}
use Rattle.pk_nand.specs.BoardState.{BoardState}
use Rattle.pk_model.specs.Run.{Exchange}
use Rattle.pk_call.specs.Sight.{Sight}
use Rattle.pk_port.{specs.Steps.Mounted, specs.Steps.Serves, specs.Steps.Fails, specs.declared.halt.Halt.Halt}
use Rattle.pk_wordrun.{specs.Grouped.AddsToGroup, specs.Grouped.StopsGroup, specs.Sums.Sums, specs.declared.summary.Summary.Summary}

-- it was served, or it was not answered, for this reason
abbrev pub Turns : {X : Type 0} → Shape → Mounted → Mounted → Command → Result X Halt → Type 0
Turns shape old new c (Ok answer) = (x : Exchange) × Serves shape old new c x
Turns shape old new c (Err halt) = Fails shape old new c halt

-- A command of a workload: it was served, and is counted; or the drive was stopped in it or before it.
abbrev pub Turn : {X E : Type 0} → BoardState → BoardState → Sight → Sight → Command → Summary → Summary → Result X E → Type 0
Turn old new drive after c counts counted (Ok answer) =
    (x : Exchange) × (x.command ≡ c) × AddsToGroup old new drive after x × ((all : List Exchange) → length all < 4294967295 → Sums counts all → Sums counted (all ++ x ∷ []))
Turn old new drive after c counts counted (Err fault) = StopsGroup old new drive (c ∷ [])
