use Rattle.pk_pin.proofs.Leases.{leases_taken}
use Rattle.pk_pin.proofs.laws.lease_taken.Goals as goal

pub returns : goal.returns
returns c = leases_taken
