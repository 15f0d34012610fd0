use Rattle.std.proofs.Common.{arith, refl}
use Rattle.pk_dump.proofs.Commits.{other_commit, no_commit}
use Rattle.pk_dump.proofs.journal.commit_of.Goals as goal

pub returns-else-is_of : goal.returns-else-is_of
returns-else-is_of c = (
  _,
  refl,
  other_commit c.args.shape.now c.args.number c.args.index c.args.bytes.now c.decode.result c.in-Ok.head (omega (arith, c.ranges.number)) c.requires.index c.decode.ensures.read c.in-Ok.is
      c.if-is_of.ensures,
)

pub returns-in-Err : goal.returns-in-Err
returns-in-Err c = (
  _,
  refl,
  no_commit c.args.shape.now c.args.number c.args.index c.args.bytes.now c.decode.result c.in-Err.field-0
      (omega (arith, c.ranges.number)) c.requires.index c.decode.ensures.read c.in-Err.is,
)
