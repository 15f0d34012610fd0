-- When a drive is stopped.
use Rattle.std.specs.Prelude.{◌≡◌, true, Result, Ok, Err}
use Rattle.pk_nand.{specs.declared.types.Fault.Fault, specs.declared.types.Fault.TheVariants.Reading, specs.declared.types.Fault.TheVariants.Stopped}
use Rattle.pk_parts.specs.Parts.{Parts}

-- the drive after a flash operation that failed with this fault: one that is not a read stops it
abbrev pub failed_by : Parts → Fault → Parts
failed_by d Reading = d
failed_by d Stopped = record d { stopped = true }

-- the drive is stopped if a flash operation failed that was not a read
abbrev pub StoppedOn : {T : Type 0} → Parts → Result T Fault → Type 0
StoppedOn d (Ok x) = Unit {0}
StoppedOn d (Err Reading) = Unit {0}
StoppedOn d (Err Stopped) = d.stopped ≡ true
