use Rattle.pk_redo.proofs.Keeping.{still_read}
use Rattle.pk_redo.proofs.laws.kept_is_read.Goals as goal

pub returns : goal.returns
returns g c kept now still = still_read g.D.Disk c.args.redo.now kept now still
