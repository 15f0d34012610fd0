use Rattle.pk_pin.proofs.Leases.{frames_counted}
use Rattle.pk_pin.proofs.laws.free_and_leased.Goals as goal

pub returns : goal.returns
returns c = frames_counted
