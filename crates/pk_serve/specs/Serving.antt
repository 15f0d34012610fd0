-- What holds after some commands were served.
use Rattle.std.specs.Prelude.{◌≡◌, ℕ, ◌+◌, ◌≤◌, List, [], ◌∷◌, ◌++◌, length, Option, Some}
use Rattle.pk_base.{specs.Shape.Shape, specs.Page.Flash, specs.Mark.Mark, specs.Mark.all_posted, specs.Map.Map}
use Rattle.pk_nvme.{specs.Command.Command, specs.Opcode.op_of, specs.declared.opcode.Opcode.TheVariants.Retrieve}
use Rattle.pk_nand.{specs.BoardState.BoardState, specs.Crash.ReachedBy}
use Rattle.pk_model.{specs.Bounds.most_reads, specs.Run.Exchange, specs.Run.Step, specs.Run.RunWithin, specs.Run.commands, specs.Run.records, specs.Run.faults, specs.Spaces.Terms}
use Rattle.pk_model.{specs.Kept.Kept, specs.Kept.AtMost, specs.Kept.rise, specs.Growth.GrowsAlong, specs.Growth.Goes}
use Rattle.pk_call.{specs.Sight.Sight, specs.Drive.HoldsMap, specs.Meter.meter, specs.Meter.MeteredAll}
use Rattle.pk_serve.{specs.Ends.NoFaults, specs.Ends.HasCause, specs.Part.Faulted, specs.Calling.calls_of, specs.Calling.owed, specs.Calling.most_calls_of_all, specs.declared.end.End.End}
use Rattle.pk_serve.specs.Answered.{Answered}

-- what every cut keeps, of these commands
abbrev pub KeptAt : Shape → Terms → Map → List Command → Option ℕ → Flash → List ℕ → Type 0
KeptAt shape terms start cs n flash posted = Kept shape terms start cs n posted flash

-- These were served from one map to another, and their records were posted but for these bytes. Wherever it was cut, it was kept.
pub record Serving (shape : Shape) (terms : Terms) (start : Map) (a b : BoardState) (drive : Sight) (unposted : List ℕ) (all : List Exchange) (m : Map) : Type 0 where
  pub ran : RunWithin shape terms start all m
  pub stands : HoldsMap shape terms b drive m
  pub marks : List Mark
  pub run : ReachedBy marks a b (KeptAt shape terms start (commands all) (rise a.read_faults b.read_faults))
  pub grows : GrowsAlong shape a.pages marks
  pub shape_is : a.shape ≡ Some shape
  pub records_are : all_posted marks ++ unposted ≡ records 0 all
  pub few_faults : AtMost (rise a.read_faults b.read_faults) (faults all)
  pub rose : a.read_faults ≤ b.read_faults
  pub metered : MeteredAll (meter a) all (meter b)
  pub few_calls : calls_of b + owed drive.pending ≤ calls_of a + most_calls_of_all shape (commands all)
  pub no_faults : NoFaults a b

-- It ended in a fault, or may have. Wherever it was cut, it was kept.
pub record Cutoff (shape : Shape) (terms : Terms) (start : Map) (a b : BoardState) (cs : List Command) : Type 0 where
  pub went : Goes shape a b (KeptAt shape terms start cs (rise a.read_faults b.read_faults))
  pub answered : Answered shape terms start a b cs

-- A call posts these bytes: what was served is unchanged, and those after them remain.
abbrev pub Flushed : BoardState → BoardState → Sight → Sight → List ℕ → Type 0
Flushed old new before after bytes =
    (shape : Shape) (terms : Terms) (start : Map) (a : BoardState) (behind : List ℕ) (all : List Exchange) (m : Map)
    → Serving shape terms start a old before (bytes ++ behind) all m → Serving shape terms start a new after behind all m

-- A call ends the run while these bytes are held: what was served is kept.
abbrev pub ServingBroken : BoardState → BoardState → Sight → List ℕ → End → Type 0
ServingBroken old new before bytes end =
    (shape : Shape) (terms : Terms) (start : Map) (a : BoardState) (behind : List ℕ) (all : List Exchange) (m : Map)
    → Serving shape terms start a old before (bytes ++ behind) all m → Cutoff shape terms start a new (commands all) × HasCause a new end

-- The output or the flash failed while these bytes were held: its count of faults shows it, and what was served is kept.
pub record FailsHolding (old new : BoardState) (before : Sight) (held : List ℕ) (end : End) : Type 0 where
  pub fault : Faulted old new end
  pub breaks : ServingBroken old new before held end

-- A drive with nothing pending posts these bytes.
abbrev pub Posts : BoardState → BoardState → List ℕ → Type 0
Posts old new bytes = (drive : Sight) → drive.pending ≡ [] → Flushed old new drive drive bytes

abbrev pub PostBreaks : BoardState → BoardState → List ℕ → End → Type 0
PostBreaks old new bytes end = (drive : Sight) → drive.pending ≡ [] → ServingBroken old new drive bytes end

-- A call changes what is held from one to the other: what was served is unchanged.
abbrev pub Keeps : BoardState → BoardState → Sight → Sight → List ℕ → List ℕ → Type 0
Keeps old new before after held now_held =
    (shape : Shape) (terms : Terms) (start : Map) (a : BoardState) (all : List Exchange) (m : Map)
    → Serving shape terms start a old before held all m → Serving shape terms start a new after now_held all m

-- one command, with the bound of a Retrieve's reads
abbrev pub StepWithin : Shape → Terms → Map → Exchange → Map → Type 0
StepWithin shape terms m x m' = Step shape terms m x.command x.reply m' × (op_of x.command.opcode ≡ Some Retrieve → x.reads ≤ most_reads shape terms m x.command)

-- one more command was served
pub record Next (shape : Shape) (terms : Terms) (start : Map) (a b : BoardState) (drive : Sight) (unposted : List ℕ) (all : List Exchange) (before : Map) (c : Command) : Type 0 where
  pub x : Exchange
  pub is : x.command ≡ c
  pub m : Map
  pub step : StepWithin shape terms before x m
  pub serving : Serving shape terms start a b drive unposted (all ++ x ∷ []) m

-- A call serves a command after this many were taken.
abbrev pub CommandServed : BoardState → BoardState → Sight → Sight → List ℕ → List ℕ → ℕ → Command → Type 0
CommandServed old new before after held now_held taken c =
    (shape : Shape) (terms : Terms) (start : Map) (a : BoardState) (all : List Exchange) (m : Map)
    → taken ≡ length all → Serving shape terms start a old before held all m → Next shape terms start a new after now_held all m c

-- A call ends the run in a command after this many were taken.
abbrev pub CommandStops : BoardState → BoardState → Sight → List ℕ → ℕ → End → Command → Type 0
CommandStops old new before held taken end c =
    (shape : Shape) (terms : Terms) (start : Map) (a : BoardState) (all : List Exchange) (m : Map)
    → taken ≡ length all → Serving shape terms start a old before held all m → Cutoff shape terms start a new (commands all ++ c ∷ []) × HasCause a new end
