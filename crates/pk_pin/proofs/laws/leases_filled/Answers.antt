use Rattle.pk_pin.proofs.Leases.{leases_filled}
use Rattle.pk_pin.proofs.laws.leases_filled.Goals as goal

pub returns : goal.returns
returns c = leases_filled
