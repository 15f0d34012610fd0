use Rattle.pk_test_engine.proofs.Keys.{in_first_space}
use Rattle.pk_test_engine.proofs.parts.known.Goals as goal

pub returns : goal.returns
returns c = in_first_space c.args.bytes.now c.are_bytes.ensures
