use Rattle.std.{proofs.Common.refl, proofs.Common.ap, proofs.Common.sym, proofs.Common.subst, proofs.Common.arith, specs.FinMap.remove}
use Rattle.pk_base.specs.Map.{Map}
use Rattle.pk_base.specs.Shape.{Shape}
use Rattle.pk_nand.{specs.Calls.IsReady}
use Rattle.pk_model.{specs.Steps.Step, proofs.Steps.Step-says}
use Rattle.pk_parts.{specs.Parts.Parts, specs.Parts.frames_of, specs.Moves.StandsFor, specs.Moves.KeepsAll, specs.Moves.BreaksAll, proofs.Keeping.KeepsAll-none, proofs.Staying.stays_then_ok}
use Rattle.pk_changes.{specs.Changes.MayTake, specs.Changes.ChangesAll, specs.Changes.FailsToChange, proofs.Putting.change_made, proofs.Putting.change_failed, proofs.Putting.some_changed}
use Rattle.pk_changes.{proofs.Following.stays_committed, proofs.Programming.take_programs}
use Rattle.pk_changes.proofs.change.take_with_room.Goals as goal

pub note_gone-requires-clause-drops : goal.note_gone-requires-clause-drops
note_gone-requires-clause-drops g c = ((g.B.Nand.state c.args.board.now).pages, c.requires.can.may.0, c.requires.can.may.1)

pub commit_if_full-requires : goal.commit_if_full-requires
commit_if_full-requires g c =
    let same = ap (λ (d : Parts). d.log.shape) c.note_gone.ensures.rest in
    record {
      may = record {
        ready = subst (λ (s : Shape). IsReady (g.B.Nand.state c.args.board.now) s) (sym same) c.requires.can.ready;
        stands = some_changed c.args.parts.now c.note_gone.new.parts (g.B.Nand.state c.args.board.now) (g.B.Nand.state c.args.board.now).pages (λ m. remove m c.args.key)
            (λ shape m. MayTake c.args.parts.now shape (g.B.Nand.state c.args.board.now).pages m c.args.key c.args.old) same c.requires.can.may
            (λ shape m. c.note_gone.ensures.stands shape (g.B.Nand.state c.args.board.now).pages m);
      };
    }

pub returns-clause-step : goal.returns-clause-step
returns-clause-step g c =
    let s0 = (g.B.Nand.state c.args.board.now) in
    let s1 = (g.B.Nand.state c.commit_if_full.new.board) in
    let a = c.args.parts.now in
    let n = c.note_gone.new.parts in
    let d = c.commit_if_full.new.parts in
    let same = ap (λ (d : Parts). d.log.shape) c.note_gone.ensures.rest in
    let may : Shape → Map → Type 0 = λ shape m. MayTake a shape s0.pages m c.args.key c.args.old in
    let gone : Map → Map = λ m. remove m c.args.key in
    let kept = KeepsAll-none a a s0 s0 refl refl in
    let noted : (shape : Shape) (m : Map) → may shape m → StandsFor n shape s0.pages (gone m) = λ shape m. c.note_gone.ensures.stands shape s0.pages m in
    Step-says c.commit_if_full.result (λ (u : Unit). KeepsAll n d s0 s1) (λ (u : Unit). ChangesAll may gone d s0 s1)
    (BreaksAll n s0 s1) (FailsToChange may gone s0 s1) a.log.shape 0 0 s0 s1 (omega arith)
    (λ u. change_made a a s0 s0 c.requires.can.ready gone may (λ shape m x. x.stands) n s1 kept noted d)
    (change_failed a a s0 s0 c.requires.can.ready gone may (λ shape m x. x.stands) n s1 kept noted)
    (subst (λ (s : Shape). Step (λ (u : Unit). KeepsAll n d s0 s1) (BreaksAll n s0 s1) s 0 s0 s1 c.commit_if_full.result) same c.commit_if_full.ensures.step)

pub returns-clause-stays : goal.returns-clause-stays
returns-clause-stays g c =
    let rest = c.note_gone.ensures.rest in
    stays_committed c.commit_if_full.result c.args.parts.now c.note_gone.new.parts c.commit_if_full.new.parts
    (ap (λ (d : Parts). frames_of d) rest) (ap (λ (d : Parts). d.stopped) rest) (ap (λ (d : Parts). d.log.shape) rest)
    c.commit_if_full.ensures.rest c.commit_if_full.ensures.few

pub returns-clause-moves : goal.returns-clause-moves
returns-clause-moves g c = stays_then_ok c.commit_if_full.result _ _ _ c.note_gone.ensures.moves c.commit_if_full.ensures.moves

pub returns-clause-programs : goal.returns-clause-programs
returns-clause-programs g c =
    take_programs c.commit_if_full.result c.args.parts.now c.note_gone.new.parts c.commit_if_full.new.parts (g.B.Nand.state c.args.board.now)
    (g.B.Nand.state c.commit_if_full.new.board) c.requires.can.few c.note_gone.ensures.more
    (ap (λ (d : Parts). d.log.shape) c.note_gone.ensures.rest) c.commit_if_full.ensures.idle c.commit_if_full.ensures.full
