use Rattle.pk_test_engine.proofs.Keys.{first_space}
use Rattle.pk_test_engine.proofs.parts.delete.Goals as goal

pub push-requires-clause-spaced : goal.push-requires-clause-spaced
push-requires-clause-spaced g c = rw c.of-key.ensures (first_space _ _)
