use Rattle.pk_pin.proofs.Leases.{leases_given}
use Rattle.pk_pin.proofs.laws.lease_given.Goals as goal

pub returns : goal.returns
returns c = leases_given
