-- Commands that only read.
use Rattle.std.specs.Prelude.{◌≡◌, ℕ, ◌≤◌, List, [], ◌∷◌, length, Some, None}
use Rattle.std.specs.FinMap.{get}
use Rattle.pk_base.{specs.Entry.Place, specs.Key.Key, specs.Shape.Shape, specs.Shape.greatest, specs.Shape.most_calls, specs.Page.Flash, specs.Map.Map}
use Rattle.pk_nvme.{specs.Seen.command_of, specs.declared.request.Request.Request}
use Rattle.pk_nand.{specs.BoardState.BoardState, specs.Calls.last_count, specs.Effects.OnlyReading}
use Rattle.pk_seg.specs.Stored.{IsFront}
use Rattle.pk_model.specs.Answer.{early}
use Rattle.pk_call.{specs.Calling.FewCalls, specs.Seen.reply_of, specs.declared.types.Outcome.Outcome}
use Rattle.pk_parts.{specs.Parts.Parts, specs.Parts.drive_limits, specs.Parts.sight_of, specs.Agreeing.DriveOnFlash}
use Rattle.pk_core.specs.Done.{Does}

-- A command changed nothing of the drive but the walk of a List, and made few calls, of which each was a read.
pub record OnlyLooks (before after : Parts) (old new : BoardState) : Type 0 where
  pub same : after ≡ record before { walk = after.walk }
  pub rest : OnlyReading old new
  pub few : FewCalls (most_calls before.log.shape) old new

-- the map has a value of this key, whose pages are at this place
pub record ValueThere (shape : Shape) (flash : Flash) (m : Map) (key : Key) (p : Place) : Type 0 where
  pub value : List ℕ
  pub is_there : get m key ≡ Some value
  pub size : length value ≡ p.len
  pub short : p.len ≤ greatest shape
  pub front : (n : ℕ) → n ≤ p.len → IsFront shape flash p.page n key value

-- With no flash operation, this command has this result if it passed the checks that read it alone.
abbrev pub DoneFor : Parts → Request → Outcome → List ℕ → Type 0
DoneFor d r o into =
    (board : BoardState) (v : List ℕ) → DriveOnFlash d board.shape board.pages → board.reads ≤ last_count → early (length (drive_limits d)) d.log.shape (command_of r []) ≡ None
    → Does board board (sight_of d) (sight_of d) (command_of r v) (reply_of o into) o.reads o.stopped

-- so has each command of this opcode
abbrev pub DoneWithout : Parts → ℕ → Outcome → List ℕ → Type 0
DoneWithout d opcode o into = (r : Request) → r.opcode ≡ opcode → DoneFor d r o into

-- eleven numbers
abbrev pub eleven : List ℕ
eleven = 0 ∷ 0 ∷ 0 ∷ 0 ∷ 0 ∷ 0 ∷ 0 ∷ 0 ∷ 0 ∷ 0 ∷ 0 ∷ []
