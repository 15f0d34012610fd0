use Rattle.std.proofs.lemmas.Option.{slice_get-get_or}
use Rattle.pk_scan.proofs.Adopting.{Adopting-next}
use Rattle.pk_scan.proofs.adopt.adopt_all.Goals as goal

pub loop-block-preserved : goal.loop-block-preserved
loop-block-preserved g c =
    Adopting-next _ _ _ _ _ c.loop-block.invariant _ c.adopt.new.self
    (slice_get-get_or c.args.blocks.now c.loop-block.block-index 0 c.loop-block-test.true) c.adopt.ensures.adopted c.adopt.ensures.counted c.adopt.ensures.fits
