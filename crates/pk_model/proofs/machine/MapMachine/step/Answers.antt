use Rattle.std.{proofs.Common.◌≡◌, proofs.Common.◌∙◌, proofs.Common.sym, proofs.Common.ap, proofs.Common.subst, proofs.Common.Some, proofs.Common.IfOk, proofs.lemmas.Result.IfOk-weaker}
use Rattle.pk_nvme.{specs.Seen.command_of, specs.Command.Command, specs.Command.command, specs.Command.IsWhole, specs.Reply.refusal}
use Rattle.pk_model.{specs.Answer.early, specs.Machine.Machine, specs.Machine.replied, specs.Machine.Answers, proofs.Machines.early_answer}
use Rattle.pk_model.proofs.machine.MapMachine.step.Goals as goal

pub serve-requires-clause-passed : goal.serve-requires-clause-passed
serve-requires-clause-passed c = λ v. ap (λ (m : Machine). early 1 m.shape (command_of c.of-request.result v)) (sym c.self.view_is) ∙ sym (c.early_fault.ensures v) ∙ c.in-None.is

pub serve-requires-clause-whole : goal.serve-requires-clause-whole
serve-requires-clause-whole c = subst IsWhole (sym (c.of-request.ensures c.args.value.now)) c.requires

pub returns-in-Some-clause-ok : goal.returns-in-Some-clause-ok
returns-in-Some-clause-ok c =
    let early_is : early 1 c.args.self.now.shape (command c.args.entry.now c.args.value.now) ≡ Some c.in-Some.status =
    ap (early 1 c.args.self.now.shape) (sym (c.of-request.ensures c.args.value.now))
    ∙ ap (λ (m : Machine). early 1 m.shape (command_of c.of-request.result c.args.value.now)) (sym c.self.view_is) ∙ sym (c.early_fault.ensures c.args.value.now) ∙ c.in-Some.is in
    IfOk-weaker c.of_status.result (λ a. replied a ≡ refusal c.in-Some.status) _
    (λ a answer. early_answer c.args.self.now (command c.args.entry.now c.args.value.now) c.in-Some.status early_is a answer) c.of_status.ensures

pub returns-in-None-clause-ok : goal.returns-in-None-clause-ok
returns-in-None-clause-ok c = subst (λ (x : Command). IfOk c.serve.result (λ a. Answers c.args.self.now c.serve.new.self x a)) (c.of-request.ensures c.args.value.now) c.serve.ensures.ok
