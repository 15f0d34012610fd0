use Rattle.pk_pin.proofs.Leases.{leases_counted}
use Rattle.pk_pin.proofs.laws.leases_counted.Goals as goal

pub returns : goal.returns
returns c = leases_counted
