-- A piece of a list: one command, and what it gives to the host.
use Rattle.std.specs.Prelude.{◌≡◌, ℕ, ◌≤◌, List, Option, true, false}
use Rattle.pk_base.{specs.Shape.Shape, specs.Map.Map}
use Rattle.pk_nand.{specs.BoardState.BoardState, specs.Calls.Rose, specs.Operations.after_post, specs.Operations.PostFailed, specs.Effects.OnlyReading}
use Rattle.pk_model.{specs.Reading.Holds, specs.Run.Exchange, specs.Wear.is_worn, specs.Spaces.Terms}
use Rattle.pk_call.specs.Meter.{meter, Metered}
use Rattle.pk_serve.specs.Serving.{StepWithin}
use Rattle.pk_port.specs.Steps.{Mounted, seen}
use Rattle.pk_words.{specs.Listing.Piece, specs.Listing.asked_at, specs.declared.listing.ListPosition.ListPosition}
use Rattle.pk_wordrun.specs.declared.end.WordEnd.{WordEnd}
use Rattle.pk_wordrun.specs.declared.end.WordEnd.TheVariants.{Done, Output, Flash, Worn}

-- a drive with these frames and limits that is not stopped, on this board
abbrev pub working_on : BoardState → Terms → Mounted
working_on board terms = record { board = board; stopped = false; terms = terms }

-- The command only read, its number of reads is exact, and this text is the piece.
pub record PieceAsked (shape : Shape) (terms : Terms) (a b : BoardState) (place : ListPosition) (next : Option ListPosition) (text : List ℕ) : Type 0 where
  pub piece : Piece (seen shape (working_on a terms) 0) (seen shape (working_on b terms) 0) place next text
  pub x : Exchange
  pub is : x.command ≡ asked_at place
  pub step : (m : Map) → Holds shape a.pages m → StepWithin shape terms m x m
  pub metered : Metered (meter a) x (meter b)
  pub reads : OnlyReading a b
  pub up : a.read_faults ≤ b.read_faults

-- and it went out
pub record PieceTold (shape : Shape) (terms : Terms) (a c : BoardState) (place : ListPosition) (next : Option ListPosition) : Type 0 where
  pub asked : BoardState
  pub text : List ℕ
  pub is : PieceAsked shape terms a asked place next text
  pub posted : c ≡ after_post asked text

-- or it did not
pub record PieceUnposted (shape : Shape) (terms : Terms) (a c : BoardState) (place : ListPosition) : Type 0 where
  pub asked : BoardState
  pub text : List ℕ
  pub next : Option ListPosition
  pub is : PieceAsked shape terms a asked place next text
  pub failed : PostFailed asked c text

-- Why no piece was posted: the output failed; or a flash operation that stops a drive, which no command that reads makes; or the numbers of
-- roots are used up, and nothing was done.
abbrev pub PieceEnds : Shape → Terms → BoardState → BoardState → ListPosition → WordEnd → Type 0
PieceEnds shape terms a c place Done = ⊥
PieceEnds shape terms a c place Output = PieceUnposted shape terms a c place
PieceEnds shape terms a c place Flash = OnlyReading a c × (a.read_faults ≤ c.read_faults) × Rose a.stop_faults c.stop_faults
PieceEnds shape terms a c place Worn = (c ≡ a) × (is_worn a ≡ true)
