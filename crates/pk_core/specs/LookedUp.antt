-- A Store or a Delete after the lookup of its key.
use Rattle.std.specs.Prelude.{◌≡◌, ℕ, [], Option, false}
use Rattle.pk_base.{specs.Entry.Place, specs.Key.Key}
use Rattle.pk_nvme.{specs.Command.key, specs.Seen.command_of, specs.declared.status.TheConstants.SUCCESSFUL_COMPLETION, specs.declared.request.Request.Request}
use Rattle.pk_nand.specs.BoardState.{BoardState}
use Rattle.pk_call.specs.declared.types.Outcome.{Outcome}
use Rattle.pk_parts.{specs.Parts.Parts, specs.Parts.is_half, specs.Quiet.Looks, specs.Staying.Stays, specs.Staying.StaysOrOpens, specs.Staying.IsNoted}
use Rattle.pk_core.{specs.Serving.IsServable, specs.Serving.IsReadSince, specs.Programming.ReadsNone}
use Rattle.pk_changes.specs.Programming.{PutsQuietly, TakesQuietly, ReadsQuietly}

-- The drive serves the request, and its key has its value at this place, as was found since the board had this count of reads.
pub record IsLookedUp (d : Parts) (board : BoardState) (r : Request) (k : Key) (p : Option Place) (before : ℕ) : Type 0 where
  pub servable : IsServable d board r
  pub named : k ≡ key (command_of r [])
  pub looks : Looks d board.pages k p
  pub since : IsReadSince before board

-- What a Store of n pages leaves of the blocks for values, and its calls if it waits for nothing.
pub record StoresOver (before after : Parts) (old new : BoardState) (k : Key) (count : ℕ) (o : Outcome) : Type 0 where
  pub half : o.stopped ≡ false → is_half before ≡ false → is_half after ≡ false
  pub finishes : o.status ≡ SUCCESSFUL_COMPLETION → is_half after ≡ false
  pub opens : o.stopped ≡ false → StaysOrOpens before after count
  pub noted : o.status ≡ SUCCESSFUL_COMPLETION → IsNoted after k
  pub programs : o.status ≡ SUCCESSFUL_COMPLETION → is_half before ≡ false → PutsQuietly before k count old new
  pub quiet : o.status ≡ SUCCESSFUL_COMPLETION → is_half before ≡ false → ReadsNone before k count old new

-- the same of a Delete
pub record DeletesAt (before after : Parts) (old new : BoardState) (k : Key) (o : Outcome) : Type 0 where
  pub half : o.stopped ≡ false → is_half before ≡ false → is_half after ≡ false
  pub finishes : o.status ≡ SUCCESSFUL_COMPLETION → is_half after ≡ false
  pub moves : o.stopped ≡ false → Stays before after
  pub programs : o.status ≡ SUCCESSFUL_COMPLETION → is_half before ≡ false → TakesQuietly before k old new
  pub quiet : o.status ≡ SUCCESSFUL_COMPLETION → is_half before ≡ false → ReadsQuietly before k old new
