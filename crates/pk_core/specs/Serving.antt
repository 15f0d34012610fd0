-- Commands that change the map: what a drive needs to serve one.
use Rattle.std.specs.Prelude.{◌≡◌, ◌≤◌, ◌<◌, ℕ, [], length, ◌+◌, true, false, None, Result, Ok, Err}
use Rattle.pk_base.{specs.declared.sizes.TheConstants.MOST_SPACES, specs.Shape.page_entries}
use Rattle.pk_nvme.{specs.Seen.command_of, specs.declared.status.TheConstants.SUCCESSFUL_COMPLETION, specs.declared.status.TheConstants.UNRECOVERED_ERROR, specs.declared.request.Request.Request}
use Rattle.pk_nand.{specs.declared.types.Fault.Fault, specs.declared.types.Fault.TheVariants.Reading, specs.declared.types.Fault.TheVariants.Stopped, specs.BoardState.BoardState}
use Rattle.pk_nand.specs.Calls.{last_count}
use Rattle.pk_model.{specs.Answer.early, specs.Wear.is_worn}
use Rattle.pk_call.specs.declared.types.Outcome.{Outcome}
use Rattle.pk_parts.{specs.Parts.Parts, specs.Parts.drive_limits, specs.Agreeing.DriveOnFlash}

-- The drive matches its board, runs and is not worn out, and the request passed the checks that read it alone.
pub record IsServable (d : Parts) (board : BoardState) (r : Request) : Type 0 where
  pub agrees : DriveOnFlash d board.shape board.pages
  pub runs : d.stopped ≡ false
  pub unworn : is_worn board ≡ false
  pub passed : early (length (drive_limits d)) d.log.shape (command_of r []) ≡ None
  pub few_spaces : length (drive_limits d) ≤ MOST_SPACES
  pub few : length d.log.pending < page_entries d.log.shape
  pub counted : board.reads ≤ last_count

-- ---- how many pages were read

-- at most four pages were read since the board had this count
pub record IsReadSince (before : ℕ) (board : BoardState) : Type 0 where
  pub up : before ≤ board.reads
  pub few : board.reads ≤ before + 4

-- the count of reads went up, or stayed, within 64 bits
pub record IsCounted (old new : BoardState) : Type 0 where
  pub up : old.reads ≤ new.reads
  pub few : new.reads ≤ last_count

-- ---- the result of a change of the map

-- its outcome, after this many reads
abbrev pub outcome_for : Result Unit Fault → ℕ → Outcome
outcome_for (Ok u) reads = record { status = SUCCESSFUL_COMPLETION; result = 0; data_len = 0; reads = reads; stopped = false }
outcome_for (Err Reading) reads = record { status = UNRECOVERED_ERROR; result = 0; data_len = 0; reads = reads; stopped = false }
outcome_for (Err Stopped) reads = record { status = UNRECOVERED_ERROR; result = 0; data_len = 0; reads = reads; stopped = true }
