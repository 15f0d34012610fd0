-- One command on a drive with nothing pending.
use Rattle.std.specs.Prelude.{◌≡◌, ◌≢◌, ◌⊎◌, ◌+◌, ◌≤◌, ℕ, List, [], Some, Result, OnOk, OnErr, IfOk}
use Rattle.pk_base.{specs.Shape.Shape, specs.Page.Flash, specs.Map.Map}
use Rattle.pk_nvme.{specs.Command.Command, specs.Reply.Reply, specs.Opcode.op_of, specs.declared.opcode.Opcode.TheVariants.Retrieve, specs.declared.request.Request.Request}
use Rattle.pk_nvme.specs.declared.status.TheConstants.{UNRECOVERED_ERROR}
use Rattle.pk_nand.{specs.BoardState.BoardState, specs.Calls.Rose, specs.declared.types.NandFault.NandFault}
use Rattle.pk_model.{specs.Answer.map_after, specs.Run.Step, specs.Bounds.most_reads, specs.Reading.Holds, specs.Wear.roots, specs.Growth.Reaches, specs.Growth.Goes, specs.Spaces.Terms}
use Rattle.pk_call.{specs.Sight.Sight, specs.Drive.HoldsMap, specs.Exec.most_installs, specs.Exec.most_unheld_reads, specs.Meter.reads_after, specs.declared.types.Outcome.Outcome}

-- wherever it is cut the flash holds one of these two maps
abbrev pub HoldsEither : Shape → Map → Map → Flash → List ℕ → Type 0
HoldsEither shape m left flash posted = (posted ≡ []) × (Holds shape flash m ⊎ Holds shape flash left)

-- the map before the command or the one after it within these limits
abbrev pub StepCut : Shape → List ℕ → Map → Command → Flash → List ℕ → Type 0
StepCut shape limits m c flash posted = HoldsEither shape m (map_after shape limits m c) flash posted

-- A command that was answered, with this many pages read for it. Wherever it is cut the flash holds the map before it or the one that its reply says.
pub record Submitted (shape : Shape) (terms : Terms) (old new : BoardState) (before after : Sight) (m : Map) (c : Command) (reply : Reply) (reads : ℕ) : Type 0 where
  pub left : Map
  pub stepped : Step shape terms m c reply left
  pub bounded : op_of c.opcode ≡ Some Retrieve → reads ≤ most_reads shape terms m c
  pub held_bounded : op_of c.opcode ≡ Some Retrieve → reads ≤ most_unheld_reads shape terms before m c
  pub stands : HoldsMap shape terms new after left
  pub holds : Holds shape new.pages left
  pub reached : Reaches shape old new (HoldsEither shape m left)

abbrev pub Submits : BoardState → BoardState → Sight → Sight → Command → Reply → ℕ → Type 0
Submits old new before after c reply reads =
    (shape : Shape) (terms : Terms) (m : Map) → HoldsMap shape terms old before m → before.pending ≡ [] → Submitted shape terms old new before after m c reply reads

-- a command that stopped the drive
abbrev pub SubmitStops : BoardState → BoardState → Sight → Command → Type 0
SubmitStops old new before c = (shape : Shape) (terms : Terms) (m : Map) → HoldsMap shape terms old before m → before.pending ≡ [] → Goes shape old new (StepCut shape terms.limits m c)

-- What the command and its commit count: reads, faults and roots.
pub record CountsSubmit (old new : BoardState) (r : Request) (result : Result Outcome NandFault) : Type 0 where
  pub reads : IfOk result (λ o. new.reads ≡ reads_after old.reads o.reads)
  pub up : old.read_faults ≤ new.read_faults
  pub unread : IfOk result (λ o. o.status ≡ UNRECOVERED_ERROR → Rose old.read_faults new.read_faults)
  pub sound : IfOk result (λ o. o.status ≢ UNRECOVERED_ERROR → new.read_faults ≡ old.read_faults)
  pub no_stop : OnOk result (new.stop_faults ≡ old.stop_faults)
  pub stop : OnErr result (Rose old.stop_faults new.stop_faults)
  pub installs : roots new ≤ roots old + most_installs r.opcode r.size
