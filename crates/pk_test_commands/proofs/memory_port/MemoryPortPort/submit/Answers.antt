use Rattle.std.proofs.Common.{arith, sym, subst, ◌∷◌, []}
use Rattle.pk_nvme.{specs.Opcode.op_of, specs.Command.command}
use Rattle.pk_model.specs.Machine.{Machine}
use Rattle.pk_host.{specs.Port.Took, proofs.HandedLemmas.room_small}
use Rattle.pk_test_commands.{specs.Memory.seen, proofs.PortLemmas.answer_fits, proofs.PortLemmas.replies_so, proofs.PortLemmas.took_one, proofs.PortLemmas.took_fault}
use Rattle.pk_test_commands.proofs.memory_port.MemoryPortPort.submit.Goals as goal

pub completed-requires-clause-room : goal.completed-requires-clause-room
completed-requires-clause-room c =
    let fits = answer_fits c.args.self.now.machine c.step.new.self 0 _ c.in-Ok.answer c.in-Ok.ensures.ok in
    let room = c.requires.room in
    omega (arith, fits, room)

pub completed-requires-clause-short : goal.completed-requires-clause-short
completed-requires-clause-short c =
    let fits = answer_fits c.args.self.now.machine c.step.new.self 0 _ c.in-Ok.answer c.in-Ok.ensures.ok in
    let small = room_small (command c.args.entry.now c.args.value.now).size (op_of (command c.args.entry.now c.args.value.now).opcode) (c.is_handed.ensures.size) in
    omega (arith, fits, small)

pub returns-in-Ok-clause-completes : goal.returns-in-Ok-clause-completes
returns-in-Ok-clause-completes c = c.completed.ensures _ _ c.args.value.now
    (replies_so c.args.self.now.machine c.step.new.self c.args.self.now.faults _ c.in-Ok.answer c.in-Ok.ensures.ok c.step.ensures.good c.are_fields.ensures.status c.are_fields.ensures.number)

pub returns-in-Ok-clause-took : goal.returns-in-Ok-clause-took
returns-in-Ok-clause-took c = took_one c.args.self.now.machine c.step.new.self c.args.self.now.faults _ c.in-Ok.answer c.in-Ok.ensures.ok

pub returns-in-Err-clause-took : goal.returns-in-Err-clause-took
returns-in-Err-clause-took c =
    let up = c.saturating_add-self.ensures in
    subst (λ (m : Machine). Took (seen c.args.self.now.machine c.args.self.now.faults) (seen m c.saturating_add-self.result) (command c.args.entry.now c.args.value.now ∷ []))
    (sym c.in-Err.ensures.err)
    (took_fault c.args.self.now.machine c.args.self.now.faults c.saturating_add-self.result _ (omega (arith, up)))
