use Rattle.std.proofs.Common.{refl}
use Rattle.pk_wordrun.proofs.Grouping.{keeps_commit, stops_commit}
use Rattle.pk_wordrun.proofs.group.commit_group.Goals as goal

pub returns-in-Ok-clause-keeps : goal.returns-in-Ok-clause-keeps
returns-in-Ok-clause-keeps g c = let e = c.in-Ok.ensures in keeps_commit _ _ _ e.leaves.rest _ (e.found.cuts refl)
    (e.answers.stands refl) e.counts.read_faults (e.counts.sound refl).2 e.counts.reads e.counts.installs

pub returns-in-Err-clause-stops : goal.returns-in-Err-clause-stops
returns-in-Err-clause-stops g c = let e = c.in-Err.ensures in stops_commit _ _ _ e.leaves.rest (e.found.cuts_stopped refl) e.counts.read_faults (e.counts.stop refl)
