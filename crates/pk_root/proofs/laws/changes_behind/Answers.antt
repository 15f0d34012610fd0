use Rattle.pk_root.proofs.Places.{newest_by_same, InstallerOnFlash-by_same}
use Rattle.pk_root.proofs.laws.changes_behind.Goals as goal

pub returns-clause-newest : goal.returns-clause-newest
returns-clause-newest c = newest_by_same

pub returns-clause-fits : goal.returns-clause-fits
returns-clause-fits c = InstallerOnFlash-by_same
