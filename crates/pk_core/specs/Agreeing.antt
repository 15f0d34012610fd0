-- How a drive matches its flash between two commands.
use Rattle.std.specs.Prelude.{◌<◌, length, Option}
use Rattle.pk_base.{specs.Shape.Shape, specs.Shape.page_entries, specs.Page.Flash}
use Rattle.pk_parts.{specs.Parts.Parts, specs.Agreeing.DriveOnFlash}

-- what a drive keeps to between two commands: it agrees with the board, and fewer entries are pending than a page of the journal takes
abbrev pub DriveOnFlashBetween : Parts → Option Shape → Flash → Type 0
DriveOnFlashBetween d told flash = DriveOnFlash d told flash × (length d.log.pending < page_entries d.log.shape)
