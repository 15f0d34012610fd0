-- What a command answers and does: the contract of a drive, in the words of a caller.
use Rattle.std.specs.Prelude.{◌≡◌, ◌≢◌, ◌+◌, ◌≤◌, ℕ, List, length, take, true, false, IsSome}
use Rattle.pk_base.specs.Shape.{charge}
use Rattle.pk_nvme.{specs.Command.key, specs.Seen.command_of, specs.declared.request.Request.Request}
use Rattle.pk_nvme.specs.declared.opcode.TheConstants.{STORE, DELETE, TICK, REPORT}
use Rattle.pk_nvme.specs.declared.status.TheConstants.{SUCCESSFUL_COMPLETION, UNRECOVERED_ERROR}
use Rattle.pk_nand.{specs.BoardState.BoardState, specs.BoardState.shape_of, specs.Calls.Rose, specs.Effects.OnlyReading, specs.Effects.NoFault}
use Rattle.pk_model.{specs.Spaces.limits_at, specs.Answer.early, specs.Wear.roots}
use Rattle.pk_call.{specs.Sight.Sight, specs.Sight.in_space_at, specs.Calling.FewCalls, specs.Calling.most_calls_of, specs.Calling.only_looks, specs.Meter.reads_after, specs.Seen.reply_of}
use Rattle.pk_call.{specs.Exec.ExecStands, specs.Exec.IsNextMerge, specs.Exec.most_installs, specs.Exec.report_of, specs.Settling.may_raise, specs.Settling.Settles, specs.Settling.RestsAfter}
use Rattle.pk_call.specs.Moving.{KeepsFresh, BlocksGrow, Stores, IsQuiet, HasOpenRoom, Quietly, commits_for}
use Rattle.pk_call.{specs.Steady.Steadies, specs.declared.types.Outcome.Outcome}

-- What is answered: the reply and the map after it. A command that is refused or only looks does not change the drive.
pub record AnswersCommand (old new : BoardState) (before after : Sight) (r : Request) (value : List ℕ) (o : Outcome) (buffer into : List ℕ) : Type 0 where
  pub stands : o.stopped ≡ false → ExecStands old new before after (command_of r value) (reply_of o into) o.reads
  pub stop_status : o.stopped ≡ true → o.status ≡ UNRECOVERED_ERROR
  pub early : IsSome (early (length (limits_at (shape_of old) old.pages)) (shape_of old) (command_of r value)) → (o.stopped ≡ false) × (new ≡ old) × (after ≡ before)
  pub looks : only_looks r.opcode ≡ true → (after ≡ before) × OnlyReading old new
  pub report : r.opcode ≡ REPORT → (o.status ≢ UNRECOVERED_ERROR) × (new ≡ old)
  pub report_data : r.opcode ≡ REPORT → o.status ≡ SUCCESSFUL_COMPLETION → take o.data_len into ≡ report_of (in_space_at after.spaces r.namespace) after.counts
  -- its data
  pub fits : o.data_len ≤ length into
  pub room : length into ≡ length buffer

-- What is counted: reads, faults, roots and calls.
pub record CountsCalls (old new : BoardState) (r : Request) (o : Outcome) : Type 0 where
  pub reads : new.reads ≡ reads_after old.reads o.reads
  pub up : old.read_faults ≤ new.read_faults
  pub unread : o.status ≡ UNRECOVERED_ERROR → o.stopped ≡ false → Rose old.read_faults new.read_faults
  pub sound : o.status ≢ UNRECOVERED_ERROR → NoFault old new
  pub stop : o.stopped ≡ true → Rose old.stop_faults new.stop_faults
  pub no_stop : o.stopped ≡ false → new.stop_faults ≡ old.stop_faults
  pub flash_up : old.flash_faults ≤ new.flash_faults
  pub installs : roots new ≤ roots old + most_installs r.opcode r.size
  pub calls : FewCalls (most_calls_of (shape_of old) r.opcode r.size) old new

-- How the background settles: a Store or a Delete alone may raise what remains to be done, and a Tick lowers it. A pair becomes half made
-- in a Tick alone, and a Store or a Delete that ended has made it whole.
pub record SettlesBackground (old new : BoardState) (before after : Sight) (r : Request) (o : Outcome) : Type 0 where
  pub no_more : o.stopped ≡ false → may_raise r.opcode ≡ false → after.work ≤ before.work
  pub settles : r.opcode ≡ TICK → o.status ≡ SUCCESSFUL_COMPLETION → Settles old new before after r.size
  pub rests : r.opcode ≡ TICK → o.status ≡ SUCCESSFUL_COMPLETION → RestsAfter old new before after r.size
  pub half : o.stopped ≡ false → r.opcode ≢ TICK → before.half ≡ false → after.half ≡ false
  pub finishes : may_raise r.opcode ≡ true → o.status ≡ SUCCESSFUL_COMPLETION → after.half ≡ false

-- What is seen of the drive: its numbers, the newest epoch, and the blocks for values.
pub record ShowsItself (old new : BoardState) (before after : Sight) (r : Request) (value : List ℕ) (o : Outcome) : Type 0 where
  pub steady : o.stopped ≡ false → Steadies old new before after
  pub merge : o.stopped ≡ false → IsNextMerge (shape_of new) after.counts
  pub fresh : o.stopped ≡ false → KeepsFresh (shape_of old) old.pages new.pages before after
  pub blocks : o.stopped ≡ false → BlocksGrow r.opcode before after
  pub stores : r.opcode ≡ STORE → o.status ≡ SUCCESSFUL_COMPLETION → Stores old new before after (command_of r value)
  pub open_block : r.opcode ≢ STORE → r.opcode ≢ TICK → o.stopped ≡ false → after.open_block ≡ before.open_block

-- A Store or a Delete that waits for nothing.
pub record WaitsForNothing (old new : BoardState) (before : Sight) (r : Request) (value : List ℕ) (o : Outcome) : Type 0 where
  pub quiet_store : r.opcode ≡ STORE → o.status ≡ SUCCESSFUL_COMPLETION
      → IsQuiet (shape_of old) old.pages before (key (command_of r value))
      → HasOpenRoom (shape_of old) old.pages before (charge (shape_of old) r.size)
      → Quietly (shape_of old) old new before.counts.frames o.reads (charge (shape_of old) r.size + commits_for (shape_of old) before)
  pub quiet_delete : r.opcode ≡ DELETE → o.status ≡ SUCCESSFUL_COMPLETION
      → IsQuiet (shape_of old) old.pages before (key (command_of r value))
      → Quietly (shape_of old) old new before.counts.frames o.reads (commits_for (shape_of old) before)
