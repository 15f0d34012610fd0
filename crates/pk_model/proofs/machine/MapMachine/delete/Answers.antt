use Rattle.std.proofs.Common.{◌≡◌, ◌∙◌, sym, ap, refl, List, [], ℕ, true, false, arith, subst}
use Rattle.std.{proofs.lemmas.Result.IfOk-weaker, specs.FinMap.get, specs.FinMap.contains_key, specs.FinMap.remove}
use Rattle.pk_base.{specs.Map.Map, specs.Map.live, specs.Map.pages_if_some, specs.Key.space_of}
use Rattle.pk_model.{proofs.SpaceLemmas.in_space-remove, specs.Answer.check, specs.Machine.Machine, specs.Machine.replied, specs.Machine.Answers, specs.Spaces.in_space}
use Rattle.pk_model.{proofs.Answering.key_sized, proofs.Answering.key_spaced, proofs.Machines.refused_answer, proofs.Machines.served_answer, proofs.Machines.live_removed, proofs.Machines.turned}
use Rattle.pk_nvme.{specs.Seen.command_of, specs.Command.key, specs.Reply.refusal, specs.Opcode.op_of, specs.declared.opcode.Opcode.TheVariants.Delete}
use Rattle.pk_model.proofs.machine.MapMachine.delete.Goals as goal

pub key-key-requires-clause-some : goal.key-key-requires-clause-some
key-key-requires-clause-some c = (key_sized 1 c.args.self.now.shape (command_of c.args.request.now []) Delete (λ n. refl) (ap op_of c.requires.opcode) (c.requires.passed [])).some

pub key-key-requires-clause-most : goal.key-key-requires-clause-most
key-key-requires-clause-most c = (key_sized 1 c.args.self.now.shape (command_of c.args.request.now []) Delete (λ n. refl) (ap op_of c.requires.opcode) (c.requires.passed [])).most

pub key-key-requires-clause-space : goal.key-key-requires-clause-space
key-key-requires-clause-space c =
    let spaced = key_spaced 1 c.args.self.now.shape (command_of c.args.request.now []) Delete (λ n k. refl) (ap op_of c.requires.opcode) (c.requires.passed []) in
    (spaced.some, omega (arith, spaced.most))

pub returns-then-not-held-clause-ok : goal.returns-then-not-held-clause-ok
returns-then-not-held-clause-ok c =
    let gone : contains_key c.args.self.now.map (key (command_of c.args.request.now [])) ≡ false = ap (contains_key c.args.self.now.map) (sym c.key-key.ensures)
    ∙ sym c.held-held.ensures.there ∙ turned c.held-held.result.is_there true c.if-not-held.true in
    IfOk-weaker c.of_status.result (λ a. replied a ≡ refusal 0x87) (λ a. (v : List ℕ) → Answers c.args.self.now c.args.self.now (command_of c.args.request.now v) a)
    (λ a answer v. refused_answer c.args.self.now (subst (λ (m : Machine). in_space 1 m.map ≡ m.map) c.self.view_is c.self.invariant.2) c.args.request.now Delete 0x87 (ap op_of c.requires.opcode) c.requires.passed (λ v. ap (λ b. check b 0x87) gone) a answer v) c.of_status.ensures

pub invariant_of-self : goal.invariant_of-self
invariant_of-self c =
    let spaced = key_spaced 1 c.args.self.now.shape (command_of c.args.request.now []) Delete (λ n k. refl) (ap op_of c.requires.opcode) (c.requires.passed []) in
    let first : space_of c.key-key.result ≡ 1 = ap space_of c.key-key.ensures ∙ omega (arith, spaced.some, spaced.most) in
    let held : c.held-held.result.pages ≡ _ = c.held-held.ensures.pages ∙ sym (ap (λ (m : Machine). pages_if_some m.shape (get m.map c.key-key.result)) c.self.view_is) in (
      live_removed c.self.inside.shape c.self.inside.map c.key-key.result c.self.inside.live c.held-held.result.pages c.self.invariant.0 held
          ∙ ap (live c.self.inside.shape) (sym c.remove.ensures),
      omega (arith, c.self.invariant.1),
      subst (λ (m : Map). in_space 1 m ≡ m) (sym c.remove.ensures)
          (in_space-remove 1 c.self.inside.map c.key-key.result first ∙ ap (λ (m : Map). remove m c.key-key.result) c.self.invariant.2),
    )

pub returns-in-Ok-clause-ok : goal.returns-in-Ok-clause-ok
returns-in-Ok-clause-ok c = λ v.
    let there : contains_key c.args.self.now.map (key (command_of c.args.request.now [])) ≡ true = ap (contains_key c.args.self.now.map) (sym c.key-key.ensures)
    ∙ sym c.held-held.ensures.there ∙ turned c.held-held.result.is_there false c.if-not-held.false in
    let left : c.remove.new.self ≡ remove c.args.self.now.map (key (command_of c.args.request.now [])) = c.remove.ensures ∙ (λ i. remove (c.self.view_is i).map (c.key-key.ensures i)) in
    served_answer c.args.self.now (subst (λ (m : Machine). in_space 1 m.map ≡ m.map) c.self.view_is c.self.invariant.2) c.args.request.now Delete _ (ap op_of c.requires.opcode) c.requires.passed c.in-Ok.answer v
    (ap (λ b. check b 0x87) there) c.in-Ok.ensures (λ i. record { shape = (c.self.view_is i).shape; map = left i })
