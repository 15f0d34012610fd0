-- The status of a script that was served to an end, and of a drive that was not opened.
use Rattle.std.specs.Prelude.{ℕ}
use Rattle.pk_serve.specs.declared.end.End.{End}
use Rattle.pk_serve.specs.declared.end.End.TheVariants.{Done, Truncated, Input, Output, Flash, Worn}
use Rattle.pk_scan.specs.declared.errors.OpenError.{OpenError}
use Rattle.pk_scan.specs.declared.errors.OpenError.TheVariants.{NotFormatted, Damaged, Fault, Memory}
use Rattle.pk_top.specs.declared.status.TheConstants.Status.{DONE, TRUNCATED, INPUT, OUTPUT, FLASH, MEMORY, NO_DRIVE, WORN}

abbrev pub end_status : End → ℕ
end_status Done = DONE.0
end_status Truncated = TRUNCATED.0
end_status Input = INPUT.0
end_status Output = OUTPUT.0
end_status Flash = FLASH.0
end_status Worn = WORN.0

abbrev pub open_status : OpenError → ℕ
open_status NotFormatted = NO_DRIVE.0
open_status (Damaged page) = NO_DRIVE.0
open_status Fault = FLASH.0
open_status Memory = MEMORY.0
