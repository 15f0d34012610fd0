-- What a command leaves of epochs, blocks and background work, which pages it programs, and how many flash operations it makes.
use Rattle.std.specs.Prelude.{◌≡◌, ◌≢◌, ◌≤◌, ℕ, List, take, true, false}
use Rattle.pk_nvme.{specs.declared.opcode.TheConstants.STORE, specs.declared.opcode.TheConstants.DELETE, specs.declared.opcode.TheConstants.TICK, specs.Command.key, specs.Seen.command_of}
use Rattle.pk_nvme.{specs.declared.status.TheConstants.SUCCESSFUL_COMPLETION, specs.declared.status.TheConstants.UNRECOVERED_ERROR, specs.declared.request.Request.Request}
use Rattle.pk_base.specs.Shape.{charge}
use Rattle.pk_nand.{specs.BoardState.BoardState, specs.Effects.OnlyReading}
use Rattle.pk_call.{specs.Exec.report_of, specs.Calling.FewCalls, specs.Calling.most_calls_of, specs.Calling.only_looks, specs.Settling.may_raise, specs.declared.types.Outcome.Outcome}
use Rattle.pk_call.specs.Sight.{in_space_at}
use Rattle.pk_parts.specs.Parts.{Parts, counts_of, spaces_of, sight_of, is_half}
use Rattle.pk_parts.specs.Staying.{StaysFresh, Stays, StaysOrOpens, IsNoted}
use Rattle.pk_core.{specs.Programming.QuietStore, specs.Programming.QuietDelete, specs.Stepping.Lessens}

-- A command came to this outcome. A Store alone may take a block more, beside it a Tick another open block; what only looks changes nothing.
-- A Store or a Delete alone may raise the background work, and makes a pair whole that was half made; a Tick lowers the work.
pub record Performs (before after : Parts) (old new : BoardState) (r : Request) (value : List ℕ) (o : Outcome) : Type 0 where
  pub half : o.stopped ≡ false → r.opcode ≢ TICK → is_half before ≡ false → is_half after ≡ false
  pub finishes : may_raise r.opcode ≡ true → o.status ≡ SUCCESSFUL_COMPLETION → is_half after ≡ false
  pub fresh : o.stopped ≡ false → StaysFresh before after
  pub opens : r.opcode ≡ STORE → o.stopped ≡ false → StaysOrOpens before after (charge before.log.shape r.size)
  pub no_more : r.opcode ≢ STORE → o.stopped ≡ false → (counts_of after).blocks ≤ (counts_of before).blocks
  pub moves : r.opcode ≢ STORE → r.opcode ≢ TICK → o.stopped ≡ false → Stays before after
  pub noted : r.opcode ≡ STORE → o.status ≡ SUCCESSFUL_COMPLETION → IsNoted after (key (command_of r value))
  pub quiet_store : r.opcode ≡ STORE → QuietStore before old new r value o
  pub quiet_delete : r.opcode ≡ DELETE → QuietDelete before old new r o
  pub calls : FewCalls (most_calls_of before.log.shape r.opcode r.size) old new
  pub looks : only_looks r.opcode ≡ true → (sight_of after ≡ sight_of before) × OnlyReading old new
  pub no_more_work : may_raise r.opcode ≡ false → o.stopped ≡ false → (sight_of after).work ≤ (sight_of before).work
  pub lessens : r.opcode ≡ TICK → o.status ≡ SUCCESSFUL_COMPLETION → Lessens before after r.size

-- A Report gives the numbers of its namespace and of the drive, and makes no call.
pub record Reports (d : Parts) (old new : BoardState) (r : Request) (o : Outcome) (into : List ℕ) : Type 0 where
  pub fine : o.status ≢ UNRECOVERED_ERROR
  pub rests : new ≡ old
  pub bytes : take o.data_len into ≡ report_of (in_space_at (spaces_of d) r.namespace) (counts_of d)
