use Rattle.std.proofs.Common.{◌≡◌, ap, refl, List, [], ℕ, inl, inr, subst}
use Rattle.std.proofs.lemmas.Result.{IfOk-weaker}
use Rattle.pk_nvme.{specs.Seen.command_of, specs.Opcode.op_of, specs.declared.opcode.Opcode.TheVariants.Flush, specs.declared.opcode.Opcode.TheVariants.Tick}
use Rattle.pk_model.{specs.Answer.success, specs.Machine.replied, specs.Machine.Answers, proofs.Machines.served_here}
use Rattle.pk_model.proofs.machine.MapMachine.done.Goals as goal

pub returns : goal.returns
returns c =
    IfOk-weaker c.of_parts.result (λ a. replied a ≡ success 0 []) (λ a. (v : List ℕ) → Answers c.args.self.now c.args.self.now (command_of c.args.request.now v) a)
    (λ a answer v. elim c.requires.opcode as (λ _. Answers c.args.self.now c.args.self.now (command_of c.args.request.now v) a) [
      | inl is ↦ served_here c.args.self.now c.args.self.now c.args.request.now Flush (ap op_of is) c.requires.passed a v refl answer refl
      | inr is ↦ served_here c.args.self.now c.args.self.now c.args.request.now Tick (ap op_of is) c.requires.passed a v refl answer refl
    ]) c.of_parts.ensures
