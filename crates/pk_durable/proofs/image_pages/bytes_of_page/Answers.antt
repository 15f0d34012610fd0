use Rattle.std.proofs.Common.{arith}
use Rattle.pk_redo.proofs.Replaying.{page_fits}
use Rattle.pk_durable.proofs.image_pages.bytes_of_page.Goals as goal

pub slice_bounds-result-end : goal.slice_bounds-result-end
slice_bounds-result-end c = let fits = (page_fits c.args.shape.now c.args.page c.requires.exists).1 in omega (arith, fits, c.requires.fits, c.page_at-at.ensures, c.page_bytes.ensures.value)
