use Rattle.pk_jrn.proofs.Places.{EpochOnFlash-same}
use Rattle.pk_jrn.proofs.laws.fits_elsewhere.Goals as goal

pub returns : goal.returns
returns c = EpochOnFlash-same
