use Rattle.std.proofs.Common.{◌≡◌, take, drop, arith}
use Rattle.pk_redo.proofs.Stepping.{steps_sealed, written_back}
use Rattle.pk_redo.proofs.pending.Pending.seal.Goals as goal

pub returns-clause-steps : goal.returns-clause-steps
returns-clause-steps c shape marks steps =
    let self = c.args.self.now in
    let body : drop 9 (take self.filled c.seal_front.new.bytes) ≡ drop 9 (take self.filled self.bytes.items) = rw c.as_mut_slice.ensures.value at c.seal_front.ensures.body in
    rw (written_back self.bytes.len c.seal_front.new.bytes self.bytes.items (search (arith, c.seal_front.ensures.len, c.as_mut_slice.ensures.value)) (search arith))
    (steps_sealed shape self.bytes.items c.seal_front.new.bytes self.filled marks self.head self.within body steps)
