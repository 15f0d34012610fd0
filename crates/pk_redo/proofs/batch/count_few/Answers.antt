use Rattle.std.proofs.Common.{◌+◌, slice_index, arith, sym, inl, inr}
use Rattle.pk_redo.proofs.Zeros.{zeros-none, zeros-more, bit_of}
use Rattle.pk_redo.proofs.batch.count_few.Goals as goal
use Rattle.pk_redo.proofs.batch.count_few.Goals.{then-bytes-at-eq0, else-bytes-at-eq0}

pub loop-i-init : goal.loop-i-init
loop-i-init c = (sym (zeros-none _ _), omega arith)

pub loop-i-preserved : goal.loop-i-preserved
loop-i-preserved c =
    let more = zeros-more c.args.bytes.now c.args.at c.loop-i.i in
    let byte = slice_index c.args.bytes.now (c.args.at + c.loop-i.i) in
    elim c.if-bytes-at-eq0.branch [
      | then-bytes-at-eq0 w ↦ elim (bit_of byte) [ inl x ↦ (omega (arith, more, x.1, w.count-is), omega (arith, w.count-is)) | inr x ↦ absurd (x.0 w.if-bytes-at-eq0.true) ]
      | else-bytes-at-eq0 w ↦ elim (bit_of byte) [ inl x ↦ absurd (w.if-bytes-at-eq0.false x.0) | inr x ↦ (omega (arith, more, x.1, w.count-is), omega (arith, w.count-is)) ]
    ]
