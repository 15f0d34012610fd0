use Rattle.std.proofs.Common.{arith}
use Rattle.pk_nvme.proofs.TextLemmas.{number_text_short}
use Rattle.pk_show.proofs.head.digits.Goals as goal

pub returns-clause-few : goal.returns-clause-few
returns-clause-few c = omega (arith, number_text_short c.args.number (omega arith))
