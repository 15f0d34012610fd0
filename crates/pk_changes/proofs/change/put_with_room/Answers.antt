use Rattle.std.{proofs.Common.refl, proofs.Common.ap, proofs.Common.sym, proofs.Common.subst, proofs.Common.◌∙◌, proofs.Common.arith, proofs.Common.length, specs.FinMap.insert}
use Rattle.pk_base.{specs.Shape.Shape, specs.Shape.charge, specs.Map.Map}
use Rattle.pk_nand.specs.Calls.{IsReady}
use Rattle.pk_model.proofs.Steps.{Step-broken}
use Rattle.pk_parts.{specs.Parts.Parts, specs.Parts.frames_of, specs.Moves.KeepsAll, specs.Moves.BreaksAll, proofs.Stopping.breaks_step, proofs.Stopping.fails_stopped}
use Rattle.pk_parts.proofs.Staying.{opens_then, opens_then_ok}
use Rattle.pk_changes.{specs.Noting.IsPlaced, specs.Changes.MayPut, specs.Changes.ChangesAll, specs.Changes.FailsToChange}
use Rattle.pk_changes.{proofs.Following.stays_committed, proofs.Noted.noted_after_ok, proofs.Programming.put_programs}
use Rattle.pk_changes.proofs.Putting.{some_puts, put_noted_so, some_changed, change_made, change_failed, change_broken}
use Rattle.pk_background.{proofs.Steps.later, proofs.Callings.few_within, proofs.Callings.few_then}
use Rattle.pk_changes.proofs.change.put_with_room.Goals as goal

pub place_value-requires-clause-may : goal.place_value-requires-clause-may
place_value-requires-clause-may g c = record { ready = c.requires.can.0.ready; stands = (c.requires.can.0.may.0, c.requires.can.0.may.1.stands) }

pub note_put-requires-clause-puts : goal.note_put-requires-clause-puts
note_put-requires-clause-puts g c =
    let e = c.in-Ok.ensures.step.ended in
    some_puts c.args.parts.now c.place_value.new.parts (g.B.Nand.state c.args.board.now) (g.B.Nand.state c.place_value.new.board) c.args.key c.args.value.now c.in-Ok.page c.args.old
    c.requires.can.0.ready e.keeps e.written e.place e.in_open c.requires.can.0.may (ap (λ (d : Parts). d.log.shape) c.place_value.ensures.rest)

pub commit_if_full-requires : goal.commit_if_full-requires
commit_if_full-requires g c =
    let step = c.in-Ok.ensures.step in
    let e = step.ended in
    let one = ap (λ (d : Parts). d.log.shape) c.place_value.ensures.rest in
    let two = ap (λ (d : Parts). d.log.shape) c.note_put.ensures.rest in
    let noted = put_noted_so c.args.parts.now c.place_value.new.parts (g.B.Nand.state c.args.board.now) (g.B.Nand.state c.place_value.new.board) c.args.key c.args.value.now c.in-Ok.page c.args.old
    c.requires.can.0.ready e.keeps e.written e.place e.in_open c.note_put.new.parts (λ shape flash m p. c.note_put.ensures.stands shape flash m c.args.value.now refl p) in
    record {
      may = record {
        ready = subst (λ (s : Shape). IsReady (g.B.Nand.state c.place_value.new.board) s) (sym (two ∙ one)) step.ready;
        stands = some_changed c.args.parts.now c.note_put.new.parts (g.B.Nand.state c.args.board.now) (g.B.Nand.state c.place_value.new.board).pages (λ m. insert m c.args.key c.args.value.now)
            (λ shape m. MayPut c.args.parts.now shape (g.B.Nand.state c.args.board.now).pages m c.args.key c.args.value.now c.args.old) (two ∙ one) c.requires.can.0.may noted;
      };
    }

pub returns-in-Ok-clause-step : goal.returns-in-Ok-clause-step
returns-in-Ok-clause-step g c =
    let step = c.in-Ok.ensures.step in
    let e = step.ended in
    let s0 = (g.B.Nand.state c.args.board.now) in
    let s1 = (g.B.Nand.state c.place_value.new.board) in
    let s2 = (g.B.Nand.state c.commit_if_full.new.board) in
    let a = c.args.parts.now in
    let b = c.place_value.new.parts in
    let n = c.note_put.new.parts in
    let d = c.commit_if_full.new.parts in
    let same = ap (λ (d : Parts). d.log.shape) c.note_put.ensures.rest ∙ ap (λ (d : Parts). d.log.shape) c.place_value.ensures.rest in
    let noted = put_noted_so c.args.parts.now c.place_value.new.parts (g.B.Nand.state c.args.board.now) (g.B.Nand.state c.place_value.new.board) c.args.key c.args.value.now c.in-Ok.page c.args.old
    c.requires.can.0.ready e.keeps e.written e.place e.in_open c.note_put.new.parts (λ shape flash m p. c.note_put.ensures.stands shape flash m c.args.value.now refl p) in
    let may : Shape → Map → Type 0 = λ shape m. MayPut a shape s0.pages m c.args.key c.args.value.now c.args.old in
    let put : Map → Map = λ m. insert m c.args.key c.args.value.now in
    later c.commit_if_full.result (λ (u : Unit). KeepsAll n d s1 s2) (λ (u : Unit). ChangesAll may put d s0 s2) (BreaksAll n s1 s2) (FailsToChange may put s0 s2)
    a.log.shape n.log.shape 0 0 0 s0 s1 s2 same (omega arith) step.works step.roots_few
    (λ u. change_made a b s0 s1 c.requires.can.0.ready put may (λ shape m x. x.stands) n s2 e.keeps noted d)
    (change_failed a b s0 s1 c.requires.can.0.ready put may (λ shape m x. x.stands) n s2 e.keeps noted)
    c.commit_if_full.ensures.step

pub returns-in-Ok-clause-stays : goal.returns-in-Ok-clause-stays
returns-in-Ok-clause-stays g c =
    let one = c.place_value.ensures.rest in
    let two = c.note_put.ensures.rest in
    stays_committed c.commit_if_full.result c.args.parts.now c.note_put.new.parts c.commit_if_full.new.parts (ap (λ (d : Parts). frames_of d) two ∙ ap (λ (d : Parts). frames_of d) one)
    (ap (λ (d : Parts). d.stopped) two ∙ ap (λ (d : Parts). d.stopped) one)
    (ap (λ (d : Parts). d.log.shape) two ∙ ap (λ (d : Parts). d.log.shape) one) c.commit_if_full.ensures.rest c.commit_if_full.ensures.few

pub returns-in-Err-clause-step : goal.returns-in-Err-clause-step
returns-in-Err-clause-step g c =
    let s0 = (g.B.Nand.state c.args.board.now) in
    let s1 = (g.B.Nand.state c.place_value.new.board) in
    let a = c.args.parts.now in
    let may : Shape → Map → Type 0 = λ shape m. MayPut a shape s0.pages m c.args.key c.args.value.now c.args.old in
    let put : Map → Map = λ m. insert m c.args.key c.args.value.now in
    breaks_step c.in-Err.fault c.fail.result c.place_value.new.parts c.fail.new.self c.fail.ensures.same c.fail.ensures.rest
    (λ (u : Unit). ChangesAll may put c.place_value.new.parts s0 s1) _ _ _ _ _ _
    (Step-broken _ (λ page. IsPlaced a c.place_value.new.parts s0 s1 c.args.key c.args.value.now page) (λ (u : Unit). ChangesAll may put c.place_value.new.parts s0 s1)
    (BreaksAll a s0 s1) (FailsToChange may put s0 s1) a.log.shape 0 0 s0 s1 (omega arith)
    (change_broken a c.place_value.new.parts s0 s1 c.requires.can.0.ready put may (λ shape m x. x.stands)) c.in-Err.ensures.step)

pub returns-in-Ok-clause-opens : goal.returns-in-Ok-clause-opens
returns-in-Ok-clause-opens g c =
    opens_then_ok c.commit_if_full.result _ _ _ _ (opens_then _ _ _ _ c.in-Ok.ensures.opens c.note_put.ensures.moves) c.commit_if_full.ensures.moves

pub returns-in-Ok-clause-noted : goal.returns-in-Ok-clause-noted
returns-in-Ok-clause-noted g c =
    let e = c.commit_if_full.ensures in
    noted_after_ok c.commit_if_full.result c.note_put.new.parts c.commit_if_full.new.parts c.args.key c.note_put.ensures.noted e.rest

pub returns-in-Ok-clause-programs : goal.returns-in-Ok-clause-programs
returns-in-Ok-clause-programs g c =
    let e = c.in-Ok.ensures in
    put_programs c.commit_if_full.result c.args.parts.now c.place_value.new.parts c.note_put.new.parts c.commit_if_full.new.parts
    (g.B.Nand.state c.args.board.now) (g.B.Nand.state c.place_value.new.board) (g.B.Nand.state c.commit_if_full.new.board) (length c.args.value.now)
    c.requires.can.0.few e.programs (ap (λ (d : Parts). d.log) c.place_value.ensures.rest) c.note_put.ensures.more
    (ap (λ (d : Parts). d.log.shape) c.note_put.ensures.rest) c.commit_if_full.ensures.idle c.commit_if_full.ensures.full

pub returns-in-Ok-clause-calls : goal.returns-in-Ok-clause-calls
returns-in-Ok-clause-calls g c = few_then _ _ _ _ _ c.place_value.ensures.calls c.commit_if_full.ensures.calls

pub returns-in-Err-clause-calls : goal.returns-in-Err-clause-calls
returns-in-Err-clause-calls g c = few_within _ _ _ _ (omega arith) c.place_value.ensures.calls

pub returns-in-Err-clause-stops : goal.returns-in-Err-clause-stops
returns-in-Err-clause-stops g c = fails_stopped c.in-Err.fault c.fail.result c.place_value.new.parts c.fail.new.self c.fail.ensures.same c.fail.ensures.rest

pub note_put-requires-clause-counted : goal.note_put-requires-clause-counted
note_put-requires-clause-counted g c = c.requires.can.1 ∙ ap (λ (d : Parts). charge d.log.shape (length c.args.value.now)) (sym c.place_value.ensures.rest)
