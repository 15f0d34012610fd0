use Rattle.std.{proofs.Common.ap, proofs.Common.refl, proofs.Common.sym, proofs.Common.◌∙◌, proofs.Common.length, proofs.Common.is_some, proofs.Common.arith, proofs.Common.false, specs.FinMap.insert}
use Rattle.pk_base.{specs.Shape.charge}
use Rattle.pk_core.{proofs.LookedUp.stores_none, proofs.LookedUp.stores_came, proofs.Amounts.store_few, specs.Whole.MayStore, proofs.Whole.makes_whole}
use Rattle.pk_core.proofs.Served.{short_place, key_within, can_put, store_refused, store_came}
use Rattle.pk_core.{proofs.Statuses.told_refused, proofs.Statuses.store_refuses, proofs.StoreCalls.spends_stored}
use Rattle.pk_background.proofs.Callings.{spends_same}
use Rattle.pk_core.proofs.store.store_over.Goals as goal

pub fault_of_store-requires-clause-old_short : goal.fault_of_store-requires-clause-old_short
fault_of_store-requires-clause-old_short g c = let r = c.requires.looked_up in short_place c.args.parts.now
    (g.B.Nand.state c.args.board.now) r.servable.agrees c.args.key c.args.old c.known.ensures.key r.looks

pub fault_of_store-requires-clause-space : goal.fault_of_store-requires-clause-space
fault_of_store-requires-clause-space g c = key_within c.args.value.now c.requires.looked_up c.requires.opcode c.requires.whole c.known.ensures.key c.known.ensures.bytes

pub put_whole-answer-requires-clause-can : goal.put_whole-answer-requires-clause-can
put_whole-answer-requires-clause-can g c = (
  can_put c.args.value.now c.requires.looked_up c.requires.opcode c.requires.whole c.known.ensures.key c.known.ensures.bytes (sym c.fault_of_store.ensures ∙ c.in-None.is),
  c.charge-count.ensures.value ∙ (λ i. charge (c.shape.ensures i) (sym c.requires.whole i)),
)

pub reads_since-requires-in-None-clause-few : goal.reads_since-requires-in-None-clause-few
reads_since-requires-in-None-clause-few g c =
    let few = store_few c.args.parts.now.log.shape c.requires.looked_up.servable.agrees.with.index.logs.is_shape in
    let step = c.put_whole-answer.ensures.stores.step.reads.few in
    let found = c.requires.looked_up.since.few in
    omega (arith, few, step, found)

pub returns-in-Some-clause-executes : goal.returns-in-Some-clause-executes
returns-in-Some-clause-executes g c = λ into. store_refused c.args.value.now c.requires.looked_up c.requires.opcode c.requires.whole c.known.ensures.key c.known.ensures.bytes
    c.in-Some.status into c.refusal.result _ (sym c.fault_of_store.ensures ∙ c.in-Some.is) c.refusal.ensures

pub returns-in-Some-clause-stores : goal.returns-in-Some-clause-stores
returns-in-Some-clause-stores g c =
    stores_none (told_refused c.refusal.result c.in-Some.status 0 0 _ false c.refusal.ensures
    (store_refuses c.args.request.now.options _ _ c.in-Some.status (is_some c.args.old) (sym c.fault_of_store.ensures ∙ c.in-Some.is)).0)

pub returns-in-None-clause-executes : goal.returns-in-None-clause-executes
returns-in-None-clause-executes g c = λ into.
    let e = c.put_whole-answer.ensures.stores in
    store_came c.args.value.now c.requires.looked_up c.requires.opcode c.requires.whole c.known.ensures.key c.known.ensures.bytes (sym c.fault_of_store.ensures ∙ c.in-None.is)
    c.put_whole-answer.result c.put_whole-answer.new.parts (g.B.Nand.state c.put_whole-answer.new.board) _ into c.changed.result _ e.step e.spends.installs
    (record { up = e.step.reads.up; few = c.reads_since-in-None.ensures.count }) e.leaves.stays e.leaves.stops c.changed.ensures

pub returns-in-None-clause-stores : goal.returns-in-None-clause-stores
returns-in-None-clause-stores g c =
    let e = c.put_whole-answer.ensures in
    let can = (can_put c.args.value.now c.requires.looked_up c.requires.opcode c.requires.whole c.known.ensures.key c.known.ensures.bytes (sym c.fault_of_store.ensures ∙ c.in-None.is)).can in
    let whole = makes_whole c.put_whole-answer.result (λ shape m. MayStore c.args.parts.now shape (g.B.Nand.state c.args.board.now).pages m c.args.key c.args.value.now)
    (λ m. insert m c.args.key c.args.value.now) _ _ _ _ _ can.may.0 can.may.1 can.may.1.stands e.stores.step in
    stores_came c.put_whole-answer.result _ c.changed.ensures c.requires.whole whole e.stores.leaves.opens e.stores.leaves.noted e.programs e.quiet

pub returns-in-Some-clause-spends : goal.returns-in-Some-clause-spends
returns-in-Some-clause-spends g c = spends_same _ _ _ _ refl

pub returns-in-None-clause-spends : goal.returns-in-None-clause-spends
returns-in-None-clause-spends g c =
    let can = (can_put c.args.value.now c.requires.looked_up c.requires.opcode c.requires.whole c.known.ensures.key c.known.ensures.bytes (sym c.fault_of_store.ensures ∙ c.in-None.is)).can in
    spends_stored c.args.parts.now.log.shape (length c.args.value.now) _ _ c.requires.looked_up.servable.agrees.with.index.logs.is_shape can.short c.put_whole-answer.ensures.stores.spends

pub fault_of_store-requires-clause-counted : goal.fault_of_store-requires-clause-counted
fault_of_store-requires-clause-counted g c = c.charge-count.ensures.value ∙ ap (λ s. charge s c.args.request.now.size) c.shape.ensures
