use Rattle.std.proofs.Common.{◌≡◌, ℕ, List, true, false, take, drop, sym, subst}
use Rattle.pk_redo.specs.Record.{RecordedAs}
use Rattle.pk_redo.specs.Steps.{step_marks}
use Rattle.pk_redo.proofs.replay.belongs.Goals as goal

pub returns-clause-record : goal.returns-clause-record
returns-clause-record c is batches holds =
    let shape = c.args.shape.now in
    let head = c.args.head.now in
    let marks = step_marks shape c.args.log.now c.args.steps.now in
    let is_true : c.is_of.result ≡ true = cc in
    let own = c.is_of.ensures.yes is_true batches marks holds (λ k low. rw c.deref.ensures.value (c.in-Ok.ensures.set c.args.log.now k low)) in
    subst (λ (states : List ℕ). RecordedAs shape batches (take 32 head) states marks) c.states_of-states.ensures.value
    (subst (λ (header : List ℕ). RecordedAs shape batches header c.states_of-states.result.now marks) c.header_of-own.ensures.value own)

pub returns-clause-refused : goal.returns-clause-refused
returns-clause-refused c is batches holds header recorded =
    let shape = c.args.shape.now in
    let head = c.args.head.now in
    let marks = step_marks shape c.args.log.now c.args.steps.now in
    let is_false : c.is_of.result ≡ false = cc in
    c.is_of.ensures.no is_false batches marks holds (λ k low. rw c.deref.ensures.value (c.in-Ok.ensures.set c.args.log.now k low))
    (subst (λ (states : List ℕ). RecordedAs shape batches c.header_of-own.result.now states marks) (sym c.states_of-states.ensures.value)
    (subst (λ (header : List ℕ). RecordedAs shape batches header (drop 32 head) marks) (sym c.header_of-own.ensures.value) recorded))
