-- What a call of a drive requires of the drive, its board and what is passed, and what each call leaves of the drive and the board.
use Rattle.std.specs.Prelude.{◌≡◌, ◌≢◌, ◌<◌, ◌≤◌, ℕ, List, [], length, Bool, true, false, Option}
use Rattle.pk_base.{specs.Shape.Shape, specs.Shape.greatest, specs.Page.Flash}
use Rattle.pk_nvme.{specs.declared.limits.TheConstants.MOST_LIST_BYTES, specs.declared.opcode.TheConstants.STORE, specs.declared.opcode.TheConstants.TICK}
use Rattle.pk_nand.{specs.BoardState.BoardState, specs.Effects.OnlyFlash}
use Rattle.pk_model.{specs.Crashes.Moment, specs.Wear.is_worn}
use Rattle.pk_call.{specs.Sight.Sight, specs.Call.CallReaches, specs.Call.CallGoes}

-- ---- before a call

-- the drive agrees with the board, and is not stopped
pub record DriveRuns (agreeing : Option Shape → Flash → Type 0) (drive : Sight) (board : BoardState) : Type 0 where
  pub agrees : agreeing board.shape board.pages
  pub runs : drive.stopped ≡ false

-- and is not worn
pub record CanServe (agreeing : Option Shape → Flash → Type 0) (drive : Sight) (board : BoardState) : Type 0 where
  pub running : DriveRuns agreeing drive board
  pub unworn : is_worn board ≡ false

-- It serves a command of this opcode: nothing is pending before a Tick.
pub record CanExecute (agreeing : Option Shape → Flash → Type 0) (drive : Sight) (board : BoardState) (opcode : ℕ) : Type 0 where
  pub serves : CanServe agreeing drive board
  pub tick : opcode ≡ TICK → drive.pending ≡ []

-- A Store's value is passed if it is not too large, and no other bytes are.
pub record PassesValue (shape : Shape) (opcode size : ℕ) (passed : List ℕ) : Type 0 where
  pub sized : opcode ≡ STORE → size ≤ greatest shape → length passed ≡ size
  pub empty : opcode ≢ STORE → passed ≡ []
  pub too_large : greatest shape < size → passed ≡ []

-- A buffer has room for the data of each command: those of a List, and a whole value.
pub record HasRoomForData (shape : Shape) (buffer : List ℕ) : Type 0 where
  pub for_list : MOST_LIST_BYTES ≤ length buffer
  pub for_value : greatest shape ≤ length buffer

-- ---- after each call

-- The drive is stopped or agrees with the board, of which only the flash and its counts differ.
pub record LeavesDrive (agreeing : Option Shape → Flash → Type 0) (drive : Sight) (old new : BoardState) (stopped : Bool) : Type 0 where
  pub stops : drive.stopped ≡ stopped
  pub agrees : stopped ≡ false → agreeing new.shape new.pages
  pub rest : OnlyFlash old new

-- Every crash within the call finds what its moment allows, whether it stopped the drive or not.
pub record FoundAfterCrash (old new : BoardState) (before : Sight) (moment : Moment) (stopped : Bool) : Type 0 where
  pub cuts : stopped ≡ false → CallReaches old new before moment
  pub cuts_stopped : stopped ≡ true → CallGoes old new before moment
