-- Consecutive reads.
use Rattle.std.specs.Prelude.{ℕ, ◌+◌, ◌<◌}
use Rattle.pk_nand.{specs.BoardState.BoardState, specs.Calls.Rose, specs.Operations.ReadFailed, specs.Counts.after_reads}

-- of n reads from this page on one failed, after others that did not
pub record ReadsFailed (old new : BoardState) (page n : ℕ) : Type 0 where
  pub made : ℕ
  pub within : made < n
  pub failed : ReadFailed (after_reads made old) new (page + made)
  pub flash : Rose old.flash_faults new.flash_faults
  pub read : Rose old.read_faults new.read_faults
