-- A drive with its board as a port: what each command does to both.
use Rattle.std.specs.Prelude.{◌≡◌, ◌⊎◌, ℕ, ◌≤◌, List, [], ◌∷◌, Bool, true, false, Option, Some, Result, Ok, Err}
use Rattle.std.{specs.Result.result_ok, specs.Option.option_map}
use Rattle.pk_base.{specs.Shape.Shape, specs.Map.Map}
use Rattle.pk_nvme.{specs.Command.Command, specs.declared.limits.TheConstants.NAMESPACE}
use Rattle.pk_nand.{specs.BoardState.BoardState, specs.BoardState.shape_of, specs.Calls.Rose, specs.Effects.OnlyFlash, specs.Effects.OnlyReading}
use Rattle.pk_model.{specs.Spaces.Terms, specs.Spaces.limits_at, specs.Spaces.terms_at, specs.Spaces.limit_of, specs.Spaces.in_space, specs.Growth.Reaches, specs.Growth.Goes, specs.Run.Exchange}
use Rattle.pk_model.{specs.Reading.reading, specs.Reading.Holds, specs.Wear.is_worn}
use Rattle.pk_call.{specs.Sight.Sight, specs.Calling.only_looks, specs.Meter.meter, specs.Meter.Metered, specs.Seen.reply_of, specs.declared.types.Outcome.Outcome}
use Rattle.pk_serve.{specs.Port.HoldsEither, specs.Port.StepCut, specs.Serving.StepWithin}
use Rattle.pk_host.specs.Port.{PortState, Took}
use Rattle.pk_port.{specs.declared.halt.Halt.Halt, specs.declared.halt.Halt.TheVariants.Stopped, specs.declared.halt.Halt.TheVariants.Worn}

-- What is known of a drive on its board: the board, whether the drive is stopped, and its frames and limits.
pub record Mounted : Type 0 where
  pub board : BoardState
  pub stopped : Bool
  pub terms : Terms

-- what is known of a drive that is seen so, on this board
abbrev pub mount : BoardState → Sight → Mounted
mount board drive = record { board = board; stopped = drive.stopped; terms = terms_at (shape_of board) board.pages drive.counts.frames }

-- What is known of a port: the drive on its board, the count of the port's faults, and why the last of them came.
pub record Standing : Type 0 where
  pub on : Mounted
  pub faults : ℕ
  pub halt : Option Halt

-- what is known of a port over a drive that is seen so, on this board
abbrev pub standing : BoardState → Sight → ℕ → Option Halt → Standing
standing board drive faults halt = record { on = mount board drive; faults = faults; halt = halt }

-- what a host sees of the first namespace of a drive on a board of this shape, after this many faults of the port
abbrev pub seen : Shape → Mounted → ℕ → PortState
seen shape on faults = record {
  map = option_map (in_space NAMESPACE) (result_ok (reading shape on.board.pages []));
  shape = shape;
  limit = limit_of on.terms.limits NAMESPACE;
  frames = Some on.terms.frames;
  port_faults = faults;
  read_faults = on.board.read_faults;
}

-- ---- one command

-- the drive is not stopped, and more roots may be installed
pub record Runs (on : Mounted) : Type 0 where
  pub going : on.stopped ≡ false
  pub unworn : is_worn on.board ≡ false

-- A command was served, from the map that the flash held, within its limits, to the one that it holds now. Wherever it is cut, the flash holds
-- one of both.
pub record Serves (shape : Shape) (old new : Mounted) (c : Command) (x : Exchange) : Type 0 where
  pub runs : Runs old
  pub is : x.command ≡ c
  pub map : Map
  pub held : Holds shape old.board.pages map
  pub its_limits : limits_at shape old.board.pages ≡ old.terms.limits
  pub left : Map
  pub step : StepWithin shape old.terms map x left
  pub holds : Holds shape new.board.pages left
  pub reached : Reaches shape old.board new.board (HoldsEither shape map left)
  pub metered : Metered (meter old.board) x (meter new.board)
  pub up : old.board.read_faults ≤ new.board.read_faults
  pub no_stop : new.board.stop_faults ≡ old.board.stop_faults
  pub looks : only_looks c.opcode ≡ true → OnlyReading old.board new.board
  pub rest : OnlyFlash old.board new.board
  pub new_is : new ≡ record old { board = new.board }

-- A command stopped the drive. Wherever it is cut, the flash holds the map before it or the one after it.
pub record Stops (shape : Shape) (old new : Mounted) (c : Command) : Type 0 where
  pub runs : Runs old
  pub map : Map
  pub held : Holds shape old.board.pages map
  pub its_limits : limits_at shape old.board.pages ≡ old.terms.limits
  pub went : Goes shape old.board new.board (StepCut shape old.terms.limits map c)
  pub stopped : new.stopped ≡ true
  pub same_limits : new.terms.limits ≡ old.terms.limits
  pub stop : Rose old.board.stop_faults new.board.stop_faults
  pub up : old.board.read_faults ≤ new.board.read_faults
  pub looks : only_looks c.opcode ≡ true → OnlyReading old.board new.board
  pub rest : OnlyFlash old.board new.board

-- why nothing is done
abbrev pub HasCause : Mounted → Halt → Type 0
HasCause on Stopped = on.stopped ≡ true
HasCause on Worn = is_worn on.board ≡ true

-- a command was not answered: it stopped the drive, or nothing was done
abbrev pub Fails : Shape → Mounted → Mounted → Command → Halt → Type 0
Fails shape old new c halt = ((halt ≡ Stopped) × Stops shape old new c) ⊎ (HasCause old halt × (new ≡ old))

-- what a drive makes of a command, with its data at the start of a buffer
abbrev pub Makes : Shape → Mounted → Mounted → Command → Result Outcome Halt → List ℕ → Type 0
Makes shape old new c (Ok o) into = Serves shape old new c (record { command = c; reply = reply_of o into; reads = o.reads })
Makes shape old new c (Err halt) into = Fails shape old new c halt

-- One command through the port: it was served, or the port failed and says why. A host sees what it took.
pub record Stepped (shape : Shape) (old new : Standing) (c : Command) : Type 0 where
  pub shape_is : old.on.board.shape ≡ Some shape
  pub up : old.faults ≤ new.faults
  pub ended :
      ((x : Exchange) × Serves shape old.on new.on c x × (new.faults ≡ old.faults) × (new.halt ≡ old.halt))
      ⊎ ((halt : Halt) × Fails shape old.on new.on c halt × Rose old.faults new.faults × (new.halt ≡ Some halt))
  pub took : Took (seen shape old.on old.faults) (seen shape new.on new.faults) (c ∷ [])

-- Commands one after another.
abbrev pub Chain : Shape → Standing → List Command → Standing → Type 0
Chain shape p [] q = q ≡ p
Chain shape p (c ∷ cs) q = (mid : Standing) × Stepped shape p mid c × Chain shape mid cs q
