use Rattle.std.proofs.Common.{◌≡◌, ◌∙◌, sym, subst}
use Rattle.pk_base.specs.Shape.{Shape}
use Rattle.pk_nand.specs.Calls.{IsReady}
use Rattle.pk_remap.{specs.Places.inner_shape, proofs.Opening.with_spares}
use Rattle.pinkdump.proofs.tell_table.Goals as goal

pub newest-requires-clause-ready : goal.newest-requires-clause-ready
newest-requires-clause-ready g c =
    let same : inner_shape c.in-Ok.shape c.args.spares ≡ c.args.found.now =
    with_spares c.args.found.now c.in-Ok.shape c.args.spares (sym c.in-Ok.is ∙ c.outer_shape.ensures) c.known.ensures in
    let P : Shape → Type 0 = λ s. IsReady (g.B.Nand.state c.args.board.now) s in
    subst P (sym same) c.requires.ready
