use Rattle.pk_remap.proofs.Composing.{cuts_show_cuts}
use Rattle.pk_remap.proofs.laws.in_turn.Goals as goal

pub returns : goal.returns
returns c = cuts_show_cuts
