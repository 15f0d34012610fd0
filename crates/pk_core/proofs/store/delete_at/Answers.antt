use Rattle.std.{proofs.Common.[], proofs.Common.refl, proofs.Common.arith, proofs.Common.false, specs.FinMap.remove}
use Rattle.pk_core.{proofs.LookedUp.deletes_none, proofs.LookedUp.deletes_came, proofs.Amounts.room_few, proofs.Amounts.room_last}
use Rattle.pk_core.{proofs.Served.can_take, proofs.Served.delete_missing, proofs.Served.delete_came, specs.Whole.MayTakeBetween, proofs.Whole.makes_whole, proofs.Statuses.told_refused}
use Rattle.pk_background.proofs.Callings.{spends_same}
use Rattle.pk_core.proofs.store.delete_at.Goals as goal

pub take_whole-answer-requires-clause-can : goal.take_whole-answer-requires-clause-can
take_whole-answer-requires-clause-can g c = can_take [] (rw c.in-Some.is at c.requires.looked_up) c.requires.opcode c.known.ensures.key c.known.ensures.bytes

pub take_whole-answer-requires-clause-number : goal.take_whole-answer-requires-clause-number
take_whole-answer-requires-clause-number g c =
    let s = c.requires.looked_up.servable in
    let few = room_few c.args.parts.now.log.shape s.agrees.with.index.logs.is_shape in
    room_last (g.B.Nand.state c.args.board.now) c.args.parts.now.log.shape s.unworn few

pub reads_since-requires-in-Some-clause-few : goal.reads_since-requires-in-Some-clause-few
reads_since-requires-in-Some-clause-few g c =
    let few = room_few c.args.parts.now.log.shape c.requires.looked_up.servable.agrees.with.index.logs.is_shape in
    let step = c.take_whole-answer.ensures.step.reads.few in
    let found = c.requires.looked_up.since.few in
    omega (arith, few, step, found)

pub returns-in-None-clause-executes : goal.returns-in-None-clause-executes
returns-in-None-clause-executes g c = λ v into. delete_missing v (rw c.in-None.is at c.requires.looked_up) c.requires.opcode into c.refusal.result _ c.refusal.ensures

pub returns-in-None-clause-deletes : goal.returns-in-None-clause-deletes
returns-in-None-clause-deletes g c = deletes_none (told_refused c.refusal.result 0x87 0 0 _ false c.refusal.ensures (λ e. omega (arith, e)))

pub returns-in-Some-clause-executes : goal.returns-in-Some-clause-executes
returns-in-Some-clause-executes g c = λ v into.
    let e = c.take_whole-answer.ensures in
    delete_came v (rw c.in-Some.is at c.requires.looked_up) c.requires.opcode c.known.ensures.key c.known.ensures.bytes
    c.take_whole-answer.result c.take_whole-answer.new.parts (g.B.Nand.state c.take_whole-answer.new.board) _ into c.changed.result _ e.step (let few = e.spends.installs in omega (arith, few))
    (record { up = e.step.reads.up; few = c.reads_since-in-Some.ensures.count }) e.stays e.stops c.changed.ensures

pub returns-in-Some-clause-deletes : goal.returns-in-Some-clause-deletes
returns-in-Some-clause-deletes g c =
    let e = c.take_whole-answer.ensures in
    let can = can_take [] (rw c.in-Some.is at c.requires.looked_up) c.requires.opcode c.known.ensures.key c.known.ensures.bytes in
    let whole = makes_whole c.take_whole-answer.result (λ shape m. MayTakeBetween c.args.parts.now shape (g.B.Nand.state c.args.board.now).pages m c.args.key c.in-Some.place)
    (λ m. remove m c.args.key) _ _ _ _ _ can.may.0 can.may.1 can.may.1.stands e.step in
    deletes_came c.take_whole-answer.result _ c.changed.ensures whole e.moves e.programs e.quiet

pub returns-in-None-clause-spends : goal.returns-in-None-clause-spends
returns-in-None-clause-spends g c = spends_same _ _ _ _ refl
