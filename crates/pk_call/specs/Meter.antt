-- What each command does to the counts of a board.
use Rattle.std.{specs.Prelude.◌≡◌, specs.Prelude.◌≢◌, specs.Prelude.ℕ, specs.Prelude.◌+◌, specs.Prelude.◌≤◌, specs.Prelude.◌<◌, specs.Prelude.min, specs.Prelude.List, specs.List.FoldsTo}
use Rattle.pk_nvme.specs.declared.status.TheConstants.{UNRECOVERED_ERROR}
use Rattle.pk_nand.{specs.BoardState.BoardState, specs.Calls.Rose, specs.Calls.last_count}
use Rattle.pk_model.{specs.Run.Exchange, specs.Wear.roots, specs.declared.wear.TheConstants.WORN_FROM}
use Rattle.pk_call.specs.Exec.{most_installs}

-- how many pages were read, the count of reads that failed, and the number of the newest root
pub record Meter : Type 0 where
  pub reads : ℕ
  pub read_faults : ℕ
  pub roots : ℕ

abbrev pub meter : BoardState → Meter
meter board = record { reads = board.reads; read_faults = board.read_faults; roots = roots board }

-- this many more reads, up to the last value
abbrev pub reads_after : ℕ → ℕ → ℕ
reads_after before more = min (before + more) last_count

-- Around one command: its number of reads is exact, a read failed only if it is answered so, and the numbers of roots were not used up when it
-- began.
pub record Metered (before : Meter) (x : Exchange) (after : Meter) : Type 0 where
  pub reads : after.reads ≡ reads_after before.reads x.reads
  pub failed : x.reply.status ≡ UNRECOVERED_ERROR → Rose before.read_faults after.read_faults
  pub sound : x.reply.status ≢ UNRECOVERED_ERROR → after.read_faults ≡ before.read_faults
  pub unworn : before.roots < WORN_FROM
  pub installs : after.roots ≤ before.roots + most_installs x.command.opcode x.command.size

-- each command begins if the one before it ended
abbrev pub MeteredAll : Meter → List Exchange → Meter → Type 0
MeteredAll = FoldsTo Metered
