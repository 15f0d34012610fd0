use Rattle.pk_root.proofs.Places.{InstallerOnFlash-after}
use Rattle.pk_root.proofs.installer.Installer.after.Goals as goal

pub returns-clause-fits : goal.returns-clause-fits
returns-clause-fits c = λ shape flash root newest. InstallerOnFlash-after shape flash c.args.page root newest
