-- Parts of the serving loop, one after another.
use Rattle.std.proofs.Common.{◌≡◌, Option}
use Rattle.pk_base.{specs.Shape.Shape, specs.Page.Flash as Pages}
use Rattle.pk_nand.specs.BoardState.{BoardState}
use Rattle.pk_call.{specs.Sight.Sight, specs.Running.DriveRuns}
use Rattle.pk_serve.{specs.Ends.NoFaults, specs.Part.KeepsRunning, specs.Part.Faulted, specs.declared.end.End.End, proofs.Blaming.quiet-then, proofs.Blaming.cause-then}

-- the flash is unchanged
pub running-still : (agreeing : Option Shape → Pages → Type 0) (drive : Sight) (b c : BoardState) → (c.shape ≡ b.shape) × (c.pages ≡ b.pages) → DriveRuns agreeing drive b → DriveRuns agreeing drive c
running-still agreeing drive b c same h =
    record { agrees = rw (same.1, same.0) h.agrees; runs = h.runs }

pub faulted-then : (a b c : BoardState) (end : End) → NoFaults a b → Faulted b c end → Faulted a c end
faulted-then a b c end quiet h = record { fault = h.fault; cause = cause-then a b c end quiet h.cause }

pub runs_on-then : (agreeing : Option Shape → Pages → Type 0) (drive : Sight) (a b c : BoardState) → NoFaults a b → KeepsRunning agreeing drive b c → KeepsRunning agreeing drive a c
runs_on-then agreeing drive a b c quiet h = record { running = h.running; quiet = quiet-then a b c quiet h.quiet }
