use Rattle.pk_nvme.proofs.TextLemmas.{hex_text-append}
use Rattle.pk_show.proofs.Fronts.{front_and_digits}
use Rattle.pk_show.proofs.laws.line.Goals as goal

pub returns-clause-parts : goal.returns-clause-parts
returns-clause-parts c = front_and_digits

pub returns-clause-pieces : goal.returns-clause-pieces
returns-clause-pieces c = hex_text-append
