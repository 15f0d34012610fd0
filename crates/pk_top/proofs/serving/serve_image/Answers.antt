use Rattle.std.proofs.Common.{refl}
use Rattle.pk_scan.specs.declared.errors.OpenError.TheVariants.{Memory}
use Rattle.pk_parts.specs.Parts.{sight_of}
use Rattle.pk_top.proofs.Sessions.{RunServes-not, RunServes-opened}
use Rattle.pk_top.proofs.serving.serve_image.Goals as goal

pub returns-in_default : goal.returns-in_default
returns-in_default g c =
    let board = g.B.Nand.state c.args.board.now in
    RunServes-not c.args.shape c.args.frames board board 7 Memory refl (0, refl) refl

pub returns-in-Ok-open : goal.returns-in-Ok-open
returns-in-Ok-open g c =
    RunServes-opened c.args.shape c.args.frames (g.B.Nand.state c.args.board.now) (g.B.Nand.state c.open.new.board) (g.B.Nand.state c.serve.new.board)
    (sight_of c.in-Ok-open.drive) c.of_end.result.0 c.serve.result
    c.in-Ok-open.ensures.reads c.in-Ok-open.ensures.stands c.in-Ok-open.ensures.none c.of_end.ensures
    (c.serve.ensures.blames, c.serve.ensures.says, c.serve.ensures.kept, c.serve.ensures.kept_untold, c.serve.ensures.served, c.serve.ensures.causes, c.serve.ensures.complete)

pub returns : goal.returns
returns g c =
    RunServes-not c.args.shape c.args.frames (g.B.Nand.state c.args.board.now) (g.B.Nand.state c.open.new.board) c.of_open_error.result.0
    c.in-Err.error c.of_open_error.ensures c.in-Err.ensures.err c.open.ensures.rest
