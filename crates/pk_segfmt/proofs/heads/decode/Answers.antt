use Rattle.std.proofs.Common.{arith}
use Rattle.pk_segfmt.proofs.HeadLemmas.{found, only}
use Rattle.pk_segfmt.proofs.heads.decode.Goals as goal

pub returns-clause-found : goal.returns-clause-found
returns-clause-found c =
    found c.args.shape.now c.args.bytes.now c.head_of.result (λ i. omega (arith, c.type_inv.bytes i)) c.requires c.head_of.ensures.exact

pub returns-clause-only : goal.returns-clause-only
returns-clause-only c key len is same =
    only c.args.shape.now c.args.bytes.now c.head_of.result c.head_of.ensures.shape c.head_of.ensures.exact key len is same
