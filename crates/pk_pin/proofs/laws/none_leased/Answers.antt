use Rattle.pk_pin.proofs.Leases.{leases_none}
use Rattle.pk_pin.proofs.laws.none_leased.Goals as goal

pub returns : goal.returns
returns c = leases_none
