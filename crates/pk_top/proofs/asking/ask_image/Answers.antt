use Rattle.std.proofs.Common.{refl, subst}
use Rattle.pk_base.{specs.Map.Map, specs.Shape.Shape}
use Rattle.pk_model.specs.Reading.{Holds}
use Rattle.pk_scan.specs.declared.errors.OpenError.TheVariants.{Memory}
use Rattle.pk_parts.specs.Parts.{sight_of}
use Rattle.pk_wordrun.{specs.Seen.seen, specs.Told.Told}
use Rattle.pk_port.specs.Steps.{mount}
use Rattle.pk_top.proofs.Asked.{Asks-not, Asks-opened, own_frames, ready_behind}
use Rattle.pk_top.proofs.asking.ask_image.Goals as goal

pub returns-in_default : goal.returns-in_default
returns-in_default g c =
    let board = g.B.Nand.state c.args.board.now in
    Asks-not (seen c.args.task) c.args.shape board board 7 Memory refl (0, refl) refl

pub run-requires-clause-stands : goal.run-requires-clause-stands
run-requires-clause-stands g c =
    own_frames c.args.shape c.in-Ok.speaker 36 (g.B.Nand.state c.open.new.board) (sight_of c.in-Ok-open.drive) c.in-Ok.ensures c.in-Ok-open.ensures.stands

pub run-requires-clause-ready : goal.run-requires-clause-ready
run-requires-clause-ready g c = ready_behind c.args.shape c.in-Ok.speaker (g.B.Nand.state c.args.board.now) (g.B.Nand.state c.open.new.board) c.in-Ok.ensures c.requires.ready c.open.ensures.rest

pub returns-in-Err : goal.returns-in-Err
returns-in-Err g c =
    Asks-not (seen c.args.task) c.args.shape (g.B.Nand.state c.args.board.now) (g.B.Nand.state c.open.new.board) c.of_open_error.result.0
    c.in-Err.error c.of_open_error.ensures c.in-Err.ensures.err c.open.ensures.rest

pub returns-in-Ok-open : goal.returns-in-Ok-open
returns-in-Ok-open g c =
    let opened = g.B.Nand.state c.open.new.board in
    let d = sight_of c.in-Ok-open.drive in
    let T : Shape → Type 0 = λ s. (start : Map) → Holds s opened.pages start → Told (seen c.args.task) s (mount opened d).terms start opened (g.B.Nand.state c.run.new.board) c.run.result in
    Asks-opened (seen c.args.task) c.args.shape (g.B.Nand.state c.args.board.now) (g.B.Nand.state c.run.new.board) opened d c.of_word_end.result.0 c.run.result
    c.in-Ok-open.ensures.reads c.in-Ok-open.ensures.stands c.in-Ok-open.ensures.none c.of_word_end.ensures (subst T c.in-Ok.ensures c.run.ensures)
