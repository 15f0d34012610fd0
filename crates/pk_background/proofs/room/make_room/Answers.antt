use Rattle.std.proofs.Common.{ap, sym, ◌∙◌, ◌≡◌, ◌≤◌, arith, refl, false, length, List, []}
use Rattle.pk_base.specs.Entry.{Entry}
use Rattle.pk_log.specs.State.{needs_freeze}
use Rattle.pk_law_work.specs.Calls.{commit_calls, room_calls, room_roots}
use Rattle.pk_background.{specs.Emptying.HasRoom, proofs.Results.on_ok, proofs.Results.not_wanted_ok, proofs.ReadSteps.running_says, proofs.ReadSteps.running_stopped, proofs.Rooming.still_numbers}
use Rattle.pk_background.proofs.Steps.{leaves_none, leaves_twice, leaves_committed, shape_committed, may_after}
use Rattle.pk_background.proofs.Emptied.{none_reads, room_committed, committed_spends, not_committed}
use Rattle.pk_background.proofs.Callings.{few_within, few_commit, spends_same, spends_still}
use Rattle.pk_parts.{proofs.Staying.stays_same, proofs.Staying.stays_then, proofs.Halves.may_commit}
use Rattle.pk_background.proofs.room.make_room.Goals as goal

pub commit_pending-requires : goal.commit_pending-requires
commit_pending-requires g c = record { may = may_commit c.args.parts.now (g.B.Nand.state c.args.board.now) c.requires.may }

pub returns-then-not-needs_freeze-clause-step : goal.returns-then-not-needs_freeze-clause-step
returns-then-not-needs_freeze-clause-step g c = none_reads c.args.parts.now _ (g.B.Nand.state c.args.board.now) c.requires.may.ready

pub returns-then-not-needs_freeze-clause-leaves : goal.returns-then-not-needs_freeze-clause-leaves
returns-then-not-needs_freeze-clause-leaves g c = leaves_none c.args.parts.now

pub returns-then-not-needs_freeze-clause-moves : goal.returns-then-not-needs_freeze-clause-moves
returns-then-not-needs_freeze-clause-moves g c = stays_same _ _ refl

pub returns-then-not-needs_freeze-clause-idle : goal.returns-then-not-needs_freeze-clause-idle
returns-then-not-needs_freeze-clause-idle g c = λ _. (refl, refl)

pub empty_active-requires-clause-may : goal.empty_active-requires-clause-may
empty_active-requires-clause-may g c = let e = c.in-Ok.ensures in may_after _ _ _ _ _ tt c.requires.may (shape_committed c.args.parts.now _ e.rest) e.step

pub empty_active-requires-clause-number : goal.empty_active-requires-clause-number
empty_active-requires-clause-number g c =
    let e = c.in-Ok.ensures in
    still_numbers c.args.parts.now c.commit_pending.new.self (g.B.Nand.state c.args.board.now) (g.B.Nand.state c.commit_pending.new.board)
    (shape_committed c.args.parts.now _ e.rest) e.step.roots_few c.requires.number

pub returns-in-Ok-clause-step : goal.returns-in-Ok-clause-step
returns-in-Ok-clause-step g c =
    let e = c.in-Ok.ensures in room_committed _ _ _ _ _ _ _ c.requires.may.ready (shape_committed c.args.parts.now _ e.rest) e.step c.empty_active.ensures.step

pub returns-in-Ok-clause-room : goal.returns-in-Ok-clause-room
returns-in-Ok-clause-room g c =
    let log = c.empty_active.new.parts.log in
    on_ok (λ (u : Unit). HasRoom c.empty_active.new.parts) (needs_freeze log c.args.key.now ≡ false) c.empty_active.result (λ u room. room.any c.args.key.now) c.empty_active.ensures.room

pub returns-in-Ok-clause-pending : goal.returns-in-Ok-clause-pending
returns-in-Ok-clause-pending g c =
    let after = c.empty_active.new.parts.log.pending in
    running_says (after ≡ []) (length after ≤ _) c.empty_active.result (λ none. let same = ap (λ (es : List Entry). length es) none in omega (arith, same)) c.empty_active.ensures.none

pub returns-in-Ok-clause-leaves : goal.returns-in-Ok-clause-leaves
returns-in-Ok-clause-leaves g c =
    running_says _ _ c.empty_active.result (leaves_twice _ _ c.empty_active.new.parts (leaves_committed c.args.parts.now _ c.in-Ok.ensures.rest)) c.empty_active.ensures.leaves

pub returns-in-Ok-clause-moves : goal.returns-in-Ok-clause-moves
returns-in-Ok-clause-moves g c = running_says _ _ c.empty_active.result (stays_then _ _ c.empty_active.new.parts c.in-Ok.ensures.moves) c.empty_active.ensures.moves

pub returns-in-Ok-clause-idle : goal.returns-in-Ok-clause-idle
returns-in-Ok-clause-idle g c = rw (← c.parts.view_is) (not_wanted_ok _ c.empty_active.result _ (sym c.needs_freeze.ensures ∙ c.if-not-needs_freeze.false))

pub returns-in-Err-clause-step : goal.returns-in-Err-clause-step
returns-in-Err-clause-step g c = not_committed _ _ _ _ _ c.in-Err.ensures.step

pub returns-in-Err-clause-pending : goal.returns-in-Err-clause-pending
returns-in-Err-clause-pending g c = running_stopped Unit _ c.in-Err.fault c.in-Err.ensures.step.stopped

pub returns-in-Err-clause-leaves : goal.returns-in-Err-clause-leaves
returns-in-Err-clause-leaves g c = running_stopped Unit _ c.in-Err.fault c.in-Err.ensures.step.stopped

pub returns-in-Err-clause-moves : goal.returns-in-Err-clause-moves
returns-in-Err-clause-moves g c = running_stopped Unit _ c.in-Err.fault c.in-Err.ensures.step.stopped

pub returns-then-not-needs_freeze-clause-spends : goal.returns-then-not-needs_freeze-clause-spends
returns-then-not-needs_freeze-clause-spends g c = spends_same _ _ (g.B.Nand.state c.args.board.now) _ refl

pub returns-in-Ok-clause-spends : goal.returns-in-Ok-clause-spends
returns-in-Ok-clause-spends g c =
    let a = c.args.parts.now in
    let e = c.commit_pending.ensures in
    committed_spends a c.commit_pending.new.self _ _ _ (shape_committed a c.commit_pending.new.self c.in-Ok.ensures.rest)
    (spends_still commit_calls 0 _ _ (few_commit a.log.pending _ _ e.program e.idle) e.step.roots_few) c.empty_active.ensures.spends

pub returns-in-Err-clause-spends : goal.returns-in-Err-clause-spends
returns-in-Err-clause-spends g c =
    let a = c.args.parts.now in
    let e = c.commit_pending.ensures in
    spends_still (room_calls a.log.shape) room_roots _ _ (few_within commit_calls (room_calls a.log.shape) _ _ (omega arith) (few_commit a.log.pending _ _ e.program e.idle)) e.step.roots_few
