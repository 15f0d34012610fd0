use Rattle.std.proofs.Common.{◌≡◌, ◌≤◌, ◌∙◌, sym, ap, subst, refl, arith, Some, None, List, [], ℕ}
use Rattle.std.{proofs.lemmas.Result.IfOk-weaker, specs.FinMap.get, specs.FinMap.contains_key, specs.FinMap.insert}
use Rattle.pk_base.{specs.Map.live, specs.Map.pages_if_some, specs.Key.space_of, specs.Shape.limit, specs.Shape.greatest, specs.Shape.charge}
use Rattle.pk_nvme.{specs.Seen.command_of, specs.Reply.refusal, specs.Opcode.op_of, specs.declared.opcode.Opcode.TheVariants.Store}
use Rattle.pk_model.{specs.Answer.late_of, specs.Machine.Machine, specs.Machine.replied, proofs.Answering.key_sized, proofs.Answering.store_sized, proofs.Answering.key_spaced, specs.Spaces.in_space}
use Rattle.pk_model.proofs.Machines.{refused_answer, served_answer, store_late, live_stored, both_ok}
use Rattle.pk_model.proofs.machine.MapMachine.store.Goals as goal

pub key-key-requires-clause-some : goal.key-key-requires-clause-some
key-key-requires-clause-some c = (key_sized 1 c.args.self.now.shape (command_of c.args.request.now []) Store (λ n. refl) (ap op_of c.requires.opcode) (c.requires.passed [])).some

pub key-key-requires-clause-most : goal.key-key-requires-clause-most
key-key-requires-clause-most c = (key_sized 1 c.args.self.now.shape (command_of c.args.request.now []) Store (λ n. refl) (ap op_of c.requires.opcode) (c.requires.passed [])).most

pub key-key-requires-clause-space : goal.key-key-requires-clause-space
key-key-requires-clause-space c =
    let spaced = key_spaced 1 c.args.self.now.shape (command_of c.args.request.now []) Store (λ n k. refl) (ap op_of c.requires.opcode) (c.requires.passed []) in
    (spaced.some, omega (arith, spaced.most))

pub charge-requires : goal.charge-requires
charge-requires c =
    let small = store_sized 1 c.args.self.now.shape (command_of c.args.request.now []) (ap op_of c.requires.opcode) (c.requires.passed []) in
    subst (λ (m : Machine). c.args.request.now.size ≤ greatest m.shape) (sym c.self.view_is) small

pub put-requires-clause-space : goal.put-requires-clause-space
put-requires-clause-space c =
    let spaced = key_spaced 1 c.args.self.now.shape (command_of c.args.request.now []) Store (λ n k. refl) (ap op_of c.requires.opcode) (c.requires.passed []) in
    ap space_of c.key-key.ensures ∙ omega (arith, spaced.some, spaced.most)

pub put-requires-clause-live : goal.put-requires-clause-live
put-requires-clause-live c =
    live_stored c.args.self.now.shape c.args.self.now.map c.key-key.result c.args.value.now c.self.inside.live c.held-held.result.pages c.charge.result
    (c.self.invariant.0 ∙ ap (λ (m : Machine). live m.shape m.map) c.self.view_is) c.held-held.ensures.pages
    (c.charge.ensures.value ∙ (λ i. charge (c.self.view_is i).shape (sym c.requires.whole i)))

pub returns-in-Some-clause-ok : goal.returns-in-Some-clause-ok
returns-in-Some-clause-ok c =
    let late : (v : List ℕ) → late_of c.args.self.now.shape (limit c.args.self.now.shape) c.args.self.now.map (command_of c.args.request.now v) (Some Store) ≡ Some c.in-Some.status = λ v.
    sym (store_late c.args.self.now.shape c.args.self.now.map c.args.request.now v c.held-held.result.is_there c.self.inside.live c.held-held.result.pages c.charge.result c.limit-limit.result
    (c.held-held.ensures.there ∙ ap (contains_key c.args.self.now.map) c.key-key.ensures) (c.self.invariant.0 ∙ ap (λ (m : Machine). live m.shape m.map) c.self.view_is)
    (c.held-held.ensures.pages ∙ ap (λ (q : List ℕ). pages_if_some c.args.self.now.shape (get c.args.self.now.map q)) c.key-key.ensures)
    (c.charge.ensures.value ∙ ap (λ (m : Machine). charge m.shape c.args.request.now.size) c.self.view_is) (c.limit-limit.ensures.value ∙ ap (λ (m : Machine). limit m.shape) c.self.view_is))
    ∙ sym c.store_fault.ensures ∙ c.in-Some.is in
    IfOk-weaker c.of_status.result (λ a. replied a ≡ refusal c.in-Some.status) _
    (λ a answer. refused_answer c.args.self.now (subst (λ (m : Machine). in_space 1 m.map ≡ m.map) c.self.view_is c.self.invariant.2) c.args.request.now Store c.in-Some.status (ap op_of c.requires.opcode) c.requires.passed late a answer c.args.value.now) c.of_status.ensures

pub returns-in-None-clause-ok : goal.returns-in-None-clause-ok
returns-in-None-clause-ok c =
    let late : late_of c.args.self.now.shape (limit c.args.self.now.shape) c.args.self.now.map (command_of c.args.request.now c.args.value.now) (Some Store) ≡ None =
    sym (store_late c.args.self.now.shape c.args.self.now.map c.args.request.now c.args.value.now
    c.held-held.result.is_there c.self.inside.live c.held-held.result.pages c.charge.result c.limit-limit.result
    (c.held-held.ensures.there ∙ ap (contains_key c.args.self.now.map) c.key-key.ensures) (c.self.invariant.0 ∙ ap (λ (m : Machine). live m.shape m.map) c.self.view_is)
    (c.held-held.ensures.pages ∙ ap (λ (q : List ℕ). pages_if_some c.args.self.now.shape (get c.args.self.now.map q)) c.key-key.ensures)
    (c.charge.ensures.value ∙ ap (λ (m : Machine). charge m.shape c.args.request.now.size) c.self.view_is) (c.limit-limit.ensures.value ∙ ap (λ (m : Machine). limit m.shape) c.self.view_is))
    ∙ sym c.store_fault.ensures ∙ c.in-None.is in
    both_ok c.put.result _ _ _ c.put.ensures.ok c.put.ensures.left
    (λ a answer left. served_answer c.args.self.now (subst (λ (m : Machine). in_space 1 m.map ≡ m.map) c.self.view_is c.self.invariant.2) c.args.request.now Store _ (ap op_of c.requires.opcode) c.requires.passed a c.args.value.now late answer
    (left ∙ ap (λ (q : List ℕ). record c.args.self.now { map = insert c.args.self.now.map q c.args.value.now }) c.key-key.ensures))
