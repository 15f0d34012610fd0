-- What a part of a run did to a board: what of it may differ, which calls were made, and whether one failed.
use Rattle.std.specs.Prelude.{◌≡◌, ◌⊎◌}
use Rattle.pk_nand.{specs.BoardState.BoardState, specs.Calls.counted, specs.Calls.Rose}

-- The same board but for its flash, and the counts of its calls and of their faults.
abbrev pub OnlyFlash : BoardState → BoardState → Type 0
OnlyFlash old new = new ≡ record old {
  pages = new.pages;
  trail = new.trail;
  reads = new.reads;
  programs = new.programs;
  erases = new.erases;
  flash_faults = new.flash_faults;
  read_faults = new.read_faults;
  stop_faults = new.stop_faults;
  failed_at = new.failed_at;
}

-- Nothing was done but reads, of which one may have failed.
abbrev pub OnlyReading : BoardState → BoardState → Type 0
OnlyReading old new = new ≡ record old { reads = new.reads; flash_faults = new.flash_faults; read_faults = new.read_faults; failed_at = new.failed_at }

-- no flash operation failed
abbrev pub NoFault : BoardState → BoardState → Type 0
NoFault old new =
    (new.flash_faults ≡ old.flash_faults) × (new.read_faults ≡ old.read_faults) × (new.stop_faults ≡ old.stop_faults) × (new.failed_at ≡ old.failed_at)

-- at most one flash operation was made
pub data AtMostOneCall (old new : BoardState) : Type 0 where
  made_no_call : (new.reads ≡ old.reads) × (new.programs ≡ old.programs) × (new.erases ≡ old.erases) → AtMostOneCall old new
  made_read : (new.reads ≡ counted old.reads) × (new.programs ≡ old.programs) × (new.erases ≡ old.erases) → AtMostOneCall old new
  made_program : (new.reads ≡ old.reads) × (new.programs ≡ counted old.programs) × (new.erases ≡ old.erases) → AtMostOneCall old new
  made_erase : (new.reads ≡ old.reads) × (new.programs ≡ old.programs) × (new.erases ≡ counted old.erases) → AtMostOneCall old new

-- one program was made, and no other call
pub record OneProgram (old new : BoardState) : Type 0 where
  pub programs : new.programs ≡ counted old.programs
  pub erases : new.erases ≡ old.erases
  pub reads : new.reads ≡ old.reads

-- no page was read, and no call failed
pub record Works (old new : BoardState) : Type 0 where
  pub no_fault : NoFault old new
  pub reads : new.reads ≡ old.reads
  pub rest : OnlyFlash old new

-- no page was read, and a call failed that stops the drive
pub record Stops (old new : BoardState) : Type 0 where
  pub flash : Rose old.flash_faults new.flash_faults
  pub stop : Rose old.stop_faults new.stop_faults
  pub read : new.read_faults ≡ old.read_faults
  pub reads : new.reads ≡ old.reads
  pub rest : OnlyFlash old new
