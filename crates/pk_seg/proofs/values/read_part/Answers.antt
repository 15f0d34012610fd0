use Rattle.std.proofs.Common.{◌∙◌, ◌+◌, ◌-◌, ap, arith, drop, length, take}
use Rattle.pk_base.specs.Page.{Page}
use Rattle.pk_nand.specs.Operations.{filled}
use Rattle.pk_seg.proofs.Readings.{length-part, straight_piece}
use Rattle.pk_seg.proofs.values.read_part.Goals as goal

pub returns-in-Ok-clause-piece : goal.returns-in-Ok-clause-piece
returns-in-Ok-clause-piece g c bytes here =
    let at = c.saturating_sub-at.result in
    let size = length c.args.buf.now in
    let into = c.args.into.now in
    let part = take (at + size - at) (drop at into) in
    straight_piece c.args.shape.now c.args.i at size into c.read.new.into bytes c.known.ensures
    c.requires.room c.if-i-gt0.true (omega (arith, c.saturating_sub-at.ensures)) c.if-at-size.true
    (c.read.auto.into ∙ length-part at size into c.if-at-size.true)
    (c.in-Ok.ensures.bytes ∙ ap (λ (page : Page). filled page part) here)
