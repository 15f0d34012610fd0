use Rattle.std.proofs.lemmas.List.{get_or-replicate}
use Rattle.pk_test_redo.proofs.log.zeros.Goals as goal

pub returns : goal.returns
returns c = λ i low. get_or-replicate 64 i 0 0 low
