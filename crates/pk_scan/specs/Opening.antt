-- Opening, part by part: what the reading of a flash finds, and why it refuses.
use Rattle.std.specs.Prelude.{◌≡◌, ℕ, [], Err}
use Rattle.pk_base.{specs.Shape.Shape, specs.Refusal.not_formatted, specs.Refusal.damaged}
use Rattle.pk_nand.{specs.BoardState.BoardState, specs.Calls.Rose, specs.Counts.after_reads}
use Rattle.pk_model.specs.Reading.{reading}
use Rattle.pk_scan.specs.declared.errors.OpenError.{OpenError}
use Rattle.pk_scan.specs.declared.errors.OpenError.TheVariants.{NotFormatted, Damaged, Fault, Memory}

-- nothing was done but reads, of which none failed
abbrev pub OnlyReads : BoardState → BoardState → Type 0
OnlyReads old new = (n : ℕ) × (new ≡ after_reads n old)

-- a read failed, and both counts of faults record it
abbrev pub FaultCounted : BoardState → BoardState → Type 0
FaultCounted old new = Rose old.flash_faults new.flash_faults × Rose old.read_faults new.read_faults

-- ---- refusals

-- Why the whole was not read: the reading of the flash refuses in the same way and no read failed, or a read failed, or memory was
-- wanting and no read failed.
abbrev pub NotOpened : Shape → BoardState → BoardState → OpenError → Type 0
NotOpened shape old new NotFormatted = (reading shape old.pages [] ≡ Err not_formatted) × OnlyReads old new
NotOpened shape old new (Damaged page) = (reading shape old.pages [] ≡ Err (damaged page)) × OnlyReads old new
NotOpened shape old new Fault = FaultCounted old new
NotOpened shape old new Memory = OnlyReads old new

-- ---- epochs

-- ---- runs

-- ---- all lists

-- ---- values
