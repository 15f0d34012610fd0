use Rattle.std.proofs.Common.{◌≡◌, ◌∙◌, sym, ap, refl, List, [], ℕ, true, false, subst, arith}
use Rattle.std.{proofs.lemmas.Result.IfOk-weaker, specs.Option.option_copied, specs.FinMap.get, specs.FinMap.contains_key}
use Rattle.pk_base.specs.Map.{Map}
use Rattle.pk_nvme.{specs.Seen.command_of, specs.Reply.refusal, specs.Opcode.op_of, specs.declared.opcode.Opcode.TheVariants.Exist}
use Rattle.pk_model.{specs.Answer.check, specs.Answer.success, specs.Machine.replied, specs.Machine.Answers, specs.Machine.Machine, proofs.Answering.key_sized, proofs.Answering.key_spaced}
use Rattle.pk_model.{proofs.Machines.refused_answer, proofs.Machines.served_answer, proofs.Machines.found_some, proofs.Machines.found_none, specs.Spaces.in_space}
use Rattle.pk_model.proofs.machine.MapMachine.exist.Goals as goal

pub key-requires-clause-some : goal.key-requires-clause-some
key-requires-clause-some c = (key_sized 1 c.args.self.now.shape (command_of c.args.request.now []) Exist (λ n. refl) (ap op_of c.requires.opcode) (c.requires.passed [])).some

pub key-requires-clause-most : goal.key-requires-clause-most
key-requires-clause-most c = (key_sized 1 c.args.self.now.shape (command_of c.args.request.now []) Exist (λ n. refl) (ap op_of c.requires.opcode) (c.requires.passed [])).most

pub key-requires-clause-space : goal.key-requires-clause-space
key-requires-clause-space c =
    let spaced = key_spaced 1 c.args.self.now.shape (command_of c.args.request.now []) Exist (λ n k. refl) (ap op_of c.requires.opcode) (c.requires.passed []) in
    (spaced.some, omega (arith, spaced.most))

pub returns-in-Some : goal.returns-in-Some
returns-in-Some c =
    let got : option_copied c.get.result ≡ get c.args.self.now.map c.key.result = c.get.ensures ∙ ap (λ (m : Map). get m c.key.result) (ap (λ m. m.map) c.self.view_is) in
    let there : contains_key c.args.self.now.map c.key.result ≡ true = found_some c.args.self.now.map c.key.result
    (option_copied c.get.result) c.in-Some.field-0.now got (ap option_copied c.in-Some.is) in
    IfOk-weaker c.of_parts.result (λ a. replied a ≡ success 0 []) (λ a. (v : List ℕ) → Answers c.args.self.now c.args.self.now (command_of c.args.request.now v) a)
    (λ a answer v. served_answer c.args.self.now (subst (λ (m : Machine). in_space 1 m.map ≡ m.map) c.self.view_is c.self.invariant.2) c.args.request.now Exist c.args.self.now (ap op_of c.requires.opcode) c.requires.passed a v
    (ap (λ q. check (contains_key c.args.self.now.map q) 0x87) (sym c.key.ensures) ∙ ap (λ b. check b 0x87) there) answer refl) c.of_parts.ensures

pub returns-in-None : goal.returns-in-None
returns-in-None c =
    let got : option_copied c.get.result ≡ get c.args.self.now.map c.key.result = c.get.ensures ∙ ap (λ (m : Map). get m c.key.result) (ap (λ m. m.map) c.self.view_is) in
    let gone : contains_key c.args.self.now.map c.key.result ≡ false = found_none c.args.self.now.map c.key.result (option_copied c.get.result) got (ap option_copied c.in-None.is) in
    IfOk-weaker c.of_status.result (λ a. replied a ≡ refusal 0x87) (λ a. (v : List ℕ) → Answers c.args.self.now c.args.self.now (command_of c.args.request.now v) a)
    (λ a answer v. refused_answer c.args.self.now (subst (λ (m : Machine). in_space 1 m.map ≡ m.map) c.self.view_is c.self.invariant.2) c.args.request.now Exist 0x87 (ap op_of c.requires.opcode) c.requires.passed
    (λ v. ap (λ q. check (contains_key c.args.self.now.map q) 0x87) (sym c.key.ensures) ∙ ap (λ b. check b 0x87) gone) a answer v) c.of_status.ensures
