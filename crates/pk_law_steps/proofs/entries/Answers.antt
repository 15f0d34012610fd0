use Rattle.pk_law_steps.{proofs.Storing.stores, proofs.Storing.deletes, proofs.Places.fits_more}
use Rattle.pk_law_steps.proofs.entries.Goals as goal

pub returns-clause-stores : goal.returns-clause-stores
returns-clause-stores c = stores

pub returns-clause-deletes : goal.returns-clause-deletes
returns-clause-deletes c = deletes

pub returns-clause-fits : goal.returns-clause-fits
returns-clause-fits c = fits_more
