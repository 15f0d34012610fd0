use Rattle.std.proofs.Common.{◌≡◌, ◌∙◌, ap, refl, List, [], ℕ, ◌-◌, min, false, arith}
use Rattle.std.{proofs.lemmas.Result.IfOk-weaker, specs.FinMap.keys}
use Rattle.pk_base.specs.Key.{Key}
use Rattle.pk_nvme.{specs.Seen.command_of, specs.Command.key, specs.Opcode.op_of, specs.declared.opcode.Opcode.TheVariants.List as ListKeys}
use Rattle.pk_model.{specs.Answer.success, specs.Machine.Answers, specs.Listing.offered_all, proofs.Answering.list_sized, proofs.Answering.key_spaced, proofs.Listings.listed_answer}
use Rattle.pk_model.{proofs.Machines.served_here, specs.Spaces.in_space}
use Rattle.pk_model.proofs.machine.MapMachine.list.Goals as goal

pub overflow_sub-min : goal.overflow_sub-min
overflow_sub-min c = let sized = list_sized 1 c.args.self.now.shape (command_of c.args.request.now []) (ap op_of c.requires.opcode) (c.requires.passed []) in omega (arith, sized.least, c.min.ensures)

pub list_into-requires-clause-len : goal.list_into-requires-clause-len
list_into-requires-clause-len c = (list_sized 1 c.args.self.now.shape (command_of c.args.request.now []) (ap op_of c.requires.opcode) (c.requires.passed [])).key_most

pub list_into-requires-clause-space : goal.list_into-requires-clause-space
list_into-requires-clause-space c =
    let spaced = key_spaced 1 c.args.self.now.shape (command_of c.args.request.now []) ListKeys (λ n k. refl) (ap op_of c.requires.opcode) (c.requires.passed []) in
    omega (arith, spaced.some, spaced.most)

pub returns : goal.returns
returns c =
    let there : List Key = keys (in_space c.args.request.now.namespace c.args.self.now.map) in
    let page : c.list_into.new.page ≡ offered_all (key (command_of c.args.request.now [])) (record { bytes = []; count = 0; left = min c.args.request.now.size 65536 - 4; full = false }) there =
    c.list_into.ensures ∙ (λ i. offered_all (key (command_of c.args.request.now [])) (c.in_ok-page.ensures i) there)
    ∙ ap (λ n. offered_all (key (command_of c.args.request.now [])) (record { bytes = []; count = 0; left = n - 4; full = false }) there) c.min.ensures in
    IfOk-weaker c.answer_of.result _ (λ a. (v : List ℕ) → Answers c.args.self.now c.args.self.now (command_of c.args.request.now v) a)
    (λ a answer v. served_here c.args.self.now c.args.self.now c.args.request.now ListKeys (ap op_of c.requires.opcode) c.requires.passed a v refl
    (answer ∙ ap (success 0) (listed_answer (key (command_of c.args.request.now [])) (min c.args.request.now.size 65536 - 4) there c.list_into.new.page page)) refl)
    c.answer_of.ensures
