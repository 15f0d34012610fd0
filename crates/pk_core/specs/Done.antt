-- What a command did to a drive and its board: the clauses of the drive's contract, as one record.
use Rattle.std.specs.Prelude.{◌≡◌, ◌≢◌, ℕ, ◌+◌, ◌≤◌, Bool, true, false, List}
use Rattle.pk_nvme.{specs.declared.status.TheConstants.UNRECOVERED_ERROR, specs.Command.Command, specs.Reply.Reply}
use Rattle.pk_nand.{specs.BoardState.BoardState, specs.Calls.Rose, specs.Calls.last_count, specs.Effects.OnlyFlash, specs.Effects.NoFault}
use Rattle.pk_call.{specs.Sight.Sight, specs.Call.CallGoes, specs.Call.command_on, specs.Meter.reads_after, specs.Seen.reply_of, specs.declared.types.Outcome.Outcome, specs.Exec.ExecStands, specs.Exec.most_installs}
use Rattle.pk_model.specs.Wear.{roots}
use Rattle.pk_parts.specs.Parts.{Parts, sight_of}
use Rattle.pk_core.specs.Agreeing.{DriveOnFlashBetween}

-- A command gave this reply after this many reads, or stopped the drive; drive and board are then what the contract of a drive requires.
pub record Does (old new : BoardState) (before after : Sight) (c : Command) (reply : Reply) (reads : ℕ) (stopped : Bool) : Type 0 where
  pub stands : stopped ≡ false → ExecStands old new before after c reply reads
  pub cuts_stopped : stopped ≡ true → CallGoes old new before (command_on old c)
  pub rest : OnlyFlash old new
  pub reads_are : new.reads ≡ reads_after old.reads reads
  pub up : old.read_faults ≤ new.read_faults
  pub flash_up : old.flash_faults ≤ last_count → old.flash_faults ≤ new.flash_faults
  pub unread : reply.status ≡ UNRECOVERED_ERROR → stopped ≡ false → Rose old.read_faults new.read_faults
  pub sound : reply.status ≢ UNRECOVERED_ERROR → NoFault old new
  pub stop : stopped ≡ true → Rose old.stop_faults new.stop_faults
  pub stop_status : stopped ≡ true → reply.status ≡ UNRECOVERED_ERROR
  pub no_stop : stopped ≡ false → new.stop_faults ≡ old.stop_faults
  pub installs : roots new ≤ roots old + most_installs c.opcode c.size

-- The result of a command. The drive is stopped, or represents the map of its board with fewer entries pending than a journal
-- page takes; it answered as the contract of a drive requires, after this many reads.
pub record Executes (before after : Parts) (old new : BoardState) (c : Command) (o : Outcome) (into : List ℕ) (reads : ℕ) : Type 0 where
  pub stops : after.stopped ≡ o.stopped
  pub agrees : o.stopped ≡ false → DriveOnFlashBetween after new.shape new.pages
  pub does : Does old new (sight_of before) (sight_of after) c (reply_of o into) reads o.stopped
