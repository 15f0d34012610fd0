use Rattle.std.proofs.Common.{arith}
use Rattle.pk_segfmt.proofs.HeadLemmas.{size_fits, space_fits, key_slice}
use Rattle.pk_segfmt.proofs.heads.read.Goals as goal

pub slice_bounds-of-end : goal.slice_bounds-of-end
slice_bounds-of-end c = let h = size_fits c.args.shape.now c.args.bytes.now c.requires.sized c.requires.good in omega arith

pub overflow_add-bytes : goal.overflow_add-bytes
overflow_add-bytes c = let h = space_fits c.args.shape.now c.args.bytes.now c.requires.sized c.requires.good in omega arith

pub of-requires : goal.of-requires
of-requires c = key_slice c.args.shape.now c.args.bytes.now c.requires.sized c.requires.good
