use Rattle.std.proofs.Common.{◌≡◌, ◌∙◌, ap, refl, List, ℕ, ◌++◌, replicate, arith, subst}
use Rattle.std.{proofs.lemmas.Result.IfOk-weaker, specs.FinMap.len}
use Rattle.pk_base.{specs.Map.live, specs.Shape.limit}
use Rattle.pk_nvme.{specs.Seen.command_of, specs.Opcode.op_of, specs.declared.opcode.Opcode.TheVariants.Report}
use Rattle.pk_model.{specs.Answer.success, specs.Machine.Machine, specs.Machine.replied, specs.Machine.Answers, proofs.Machines.served_answer, proofs.Machines.reported, proofs.Machines.len-live}
use Rattle.pk_model.specs.Spaces.{in_space}
use Rattle.pk_model.proofs.machine.MapMachine.report.Goals as goal

pub overflow_cast-len : goal.overflow_cast-len
overflow_cast-len c =
    let pages = len-live c.self.inside.shape c.self.inside.map in
    omega (arith, pages, c.len.ensures, c.self.invariant.0, c.self.invariant.1, c.limit-limit.ensures.value, c.limit-limit.type_inv)

pub returns : goal.returns
returns c =
    IfOk-weaker c.of_parts.result (λ a. replied a ≡ success 0 (c.report_front-front.result ++ replicate 52 0))
    (λ a. (v : List ℕ) → Answers c.args.self.now c.args.self.now (command_of c.args.request.now v) a)
    (λ a answer v. served_answer c.args.self.now (subst (λ (m : Machine). in_space 1 m.map ≡ m.map) c.self.view_is c.self.invariant.2) c.args.request.now Report c.args.self.now (ap op_of c.requires.opcode) c.requires.passed a v refl
    (answer ∙ ap (λ (x : List ℕ). success 0 (x ++ replicate 52 0)) c.report_front-front.ensures
    ∙ ap (success 0) (reported c.args.self.now.shape c.args.self.now.map c.self.inside.live c.limit-limit.result c.len.result
    (c.self.invariant.0 ∙ ap (λ (m : Machine). live m.shape m.map) c.self.view_is) (c.limit-limit.ensures.value ∙ ap (λ (m : Machine). limit m.shape) c.self.view_is)
    (c.len.ensures ∙ ap (λ (m : Machine). len m.map) c.self.view_is))) refl) c.of_parts.ensures
