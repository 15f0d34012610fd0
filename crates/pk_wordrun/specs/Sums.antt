-- The counters of a workload.
use Rattle.std.specs.Prelude.{◌≡◌, List, length}
use Rattle.pk_nvme.specs.declared.request.Request.{Request}
use Rattle.pk_nvme.specs.declared.status.TheConstants.{SUCCESSFUL_COMPLETION, KEY_DOES_NOT_EXIST, INVALID_VALUE_SIZE, CAPACITY_EXCEEDED, UNRECOVERED_ERROR}
use Rattle.pk_call.specs.declared.types.Outcome.{Outcome}
use Rattle.pk_model.specs.Run.{Exchange}
use Rattle.pk_wordrun.{specs.Summary.answered, specs.Summary.most_read, specs.declared.summary.Summary.Summary}

-- they are those of these exchanges
pub record Sums (s : Summary) (all : List Exchange) : Type 0 where
  pub commands : s.commands ≡ length all
  pub ok : s.ok ≡ answered SUCCESSFUL_COMPLETION all
  pub missing : s.missing ≡ answered KEY_DOES_NOT_EXIST all
  pub large : s.large ≡ answered INVALID_VALUE_SIZE all
  pub full : s.full ≡ answered CAPACITY_EXCEEDED all
  pub failed : s.failed ≡ answered UNRECOVERED_ERROR all
  pub most : s.most ≡ most_read all

-- the exchange of a request with this outcome
pub record IsOf (request : Request) (o : Outcome) (x : Exchange) : Type 0 where
  pub opcode : x.command.opcode ≡ request.opcode
  pub status : x.reply.status ≡ o.status
  pub reads : x.reads ≡ o.reads
