use Rattle.std.proofs.Common.{Option, subst}
use Rattle.pk_base.specs.Shape.{Shape}
use Rattle.pk_nand.specs.Calls.{Loaded}
use Rattle.pk_top.{specs.Loads.has_image, proofs.Telling.tells_serve}
use Rattle.pk_top.proofs.serving.serve.Goals as goal

pub returns-in-Ok-Some-clause-tells : goal.returns-in-Ok-Some-clause-tells
returns-in-Ok-Some-clause-tells g c =
    let before = g.B.Nand.state c.args.board.now in
    let loaded = g.B.Nand.state c.load.new.self in
    let T : Option Shape → Type 0 = λ o. Loaded before loaded o in
    tells_serve c.args.frames before (g.B.Nand.state c.serve_image.new.board) c.serve_image.result.0
    (has_image (record { shape = c.in-Ok-Some.shape; loaded = loaded; found = subst T c.in-Ok-Some.field-0-is c.in-Ok-Some.ensures.ok; serves = c.serve_image.ensures }))
