-- What a part of the serving loop asks of the drive, the board and the buffers, and what it leaves.
use Rattle.std.specs.Prelude.{◌≡◌, ℕ, ◌<◌, ◌≤◌, List, [], length, Option, Some}
use Rattle.pk_base.{specs.Shape.Shape, specs.Shape.greatest, specs.Page.Flash as Pages}
use Rattle.pk_nand.specs.BoardState.{BoardState}
use Rattle.pk_call.{specs.Sight.Sight, specs.Running.DriveRuns, specs.Running.HasRoomForData}
use Rattle.pk_model.specs.Wear.{roots}
use Rattle.pk_serve.{specs.Ends.NoFaults, specs.Ends.HasCause, specs.Ends.IsFault, specs.declared.end.End.End}

-- ---- what is asked

-- the board has this shape, and a buffer has room for the data of each command
pub record HasRoom (board : BoardState) (shape : Shape) (into : List ℕ) : Type 0 where
  pub shape_is : board.shape ≡ Some shape
  pub buffer : HasRoomForData shape into

-- and another one for the value after each entry
pub record HasBuffers (board : BoardState) (shape : Shape) (value into : List ℕ) : Type 0 where
  pub room : HasRoom board shape into
  pub fits : greatest shape ≤ length value
  pub some : 0 < length value

-- a run may begin: the drive runs, no record is held, and the buffers have room
pub record CanRun (agreeing : Option Shape → Pages → Type 0) (drive : Sight) (board : BoardState) (shape : Shape) (held : List (List ℕ)) (value into : List ℕ) : Type 0 where
  pub running : DriveRuns agreeing drive board
  pub none : held ≡ []
  pub buffers : HasBuffers board shape value into

-- ---- what remains

-- nothing failed: the drive agrees with the board and runs, and no fault was counted
pub record KeepsRunning (agreeing : Option Shape → Pages → Type 0) (drive : Sight) (old new : BoardState) : Type 0 where
  pub running : DriveRuns agreeing drive new
  pub quiet : NoFaults old new

-- the output or the flash failed, and its count of faults shows it
pub record Faulted (old new : BoardState) (end : End) : Type 0 where
  pub fault : IsFault end
  pub cause : HasCause old new end

-- bytes were posted, and nothing else was done
pub record OnlyGives (old new : BoardState) : Type 0 where
  pub flash : (new.shape ≡ old.shape) × (new.pages ≡ old.pages)
  pub input : new.input ≡ old.input
  pub in_faults : new.in_faults ≡ old.in_faults

-- nothing was taken of the input
pub record TakesNone (old new : BoardState) : Type 0 where
  pub shape : new.shape ≡ old.shape
  pub input : new.input ≡ old.input
  pub in_faults : new.in_faults ≡ old.in_faults

-- and no root was installed
pub record InstallsNone (old new : BoardState) : Type 0 where
  pub takes : TakesNone old new
  pub installs : roots new ≡ roots old

-- the room for records and the buffer of data keep their sizes
pub record SameRoom (room now_room : ℕ) (into now_into : List ℕ) : Type 0 where
  pub records : now_room ≡ room
  pub bytes : length now_into ≡ length into

-- the board keeps its shape, and all room its size
pub record SameSizes (old new : BoardState) (room now_room : ℕ) (value now_value into now_into : List ℕ) : Type 0 where
  pub shape : new.shape ≡ old.shape
  pub rooms : SameRoom room now_room into now_into
  pub values : length now_value ≡ length value
