use Rattle.std.{proofs.Common.true, proofs.Common.false, proofs.Common.arith, proofs.lemmas.Bool.Decides.nat_tests}
use Rattle.pk_show.proofs.Fronts.{length-front}
use Rattle.pk_show.proofs.head.Head.len.Goals as goal

pub returns-then-self-eq0 : goal.returns-then-self-eq0
returns-then-self-eq0 c = omega (arith, length-front c.args.self.now true (grind (arith, nat_tests)))

pub returns-else-self-eq0 : goal.returns-else-self-eq0
returns-else-self-eq0 c = omega (arith, length-front c.args.self.now false (grind (arith, nat_tests)))
