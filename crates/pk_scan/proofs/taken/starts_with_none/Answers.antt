use Rattle.pk_live.proofs.Nothing.{Lives-none}
use Rattle.pk_scan.proofs.taken.starts_with_none.Goals as goal

pub returns : goal.returns
returns c = Lives-none
