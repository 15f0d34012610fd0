use Rattle.std.proofs.Common.{arith, refl}
use Rattle.pk_pin.proofs.Cuts.{piece_end, chunks-put_mid, written_piece}
use Rattle.pk_pin.proofs.put_piece.Goals as goal

pub overflow_mul-start : goal.overflow_mul-start
overflow_mul-start c = omega (arith, piece_end c.args.i c.args.n c.args.page c.requires.inside)

pub returns-clause-pieces : goal.returns-clause-pieces
returns-clause-pieces c =
    let a = c.args in
    rw c.copy_from_slice.ensures.after (chunks-put_mid a.page a.n a.bytes.now a.from.now a.i _ _ c.requires.inside (omega arith) c.requires.page refl (omega arith))

pub returns-clause-written : goal.returns-clause-written
returns-clause-written c =
    let a = c.args in
    rw c.copy_from_slice.ensures.after (written_piece a.page a.n a.bytes.now a.from.now a.i _ _ c.requires.inside (omega arith) c.requires.page refl (omega arith))
