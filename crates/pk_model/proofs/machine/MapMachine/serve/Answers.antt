use Rattle.std.{proofs.Common.rules, proofs.Common.◌≡◌, proofs.Common.ap, proofs.Common.None, proofs.lemmas.Result.IfOk-weaker}
use Rattle.pk_nvme.{specs.Seen.command_of, specs.Reply.refusal, specs.Opcode.op_of}
use Rattle.pk_model.{specs.Answer.fault_of, specs.Machine.replied, proofs.Machines.early_answer}
use Rattle.pk_model.proofs.machine.MapMachine.serve.Goals as goal

pub returns-in_default-clause-ok : goal.returns-in_default-clause-ok
returns-in_default-clause-ok c =
    let unknown : op_of c.args.request.now.opcode ≡ None = search rules in
    IfOk-weaker c.of_status.result (λ a. replied a ≡ refusal 0x01) _
    (λ a answer. early_answer c.args.self.now (command_of c.args.request.now c.args.value.now) 0x01
    (ap (fault_of 1 c.args.self.now.shape (command_of c.args.request.now c.args.value.now)) unknown) a answer) c.of_status.ensures
