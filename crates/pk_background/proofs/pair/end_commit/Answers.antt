use Rattle.std.proofs.Common.{sym, ◌∙◌}
use Rattle.pk_background.proofs.Pairs.{committed_half, committed_whole}
use Rattle.pk_background.proofs.pair.end_commit.Goals as goal

pub returns-then-commits : goal.returns-then-commits
returns-then-commits g c = committed_half _ _ _ _ _ (sym c.commits.ensures ∙ c.if-commits.true) c.finish_commit.ensures

pub returns-else-commits : goal.returns-else-commits
returns-else-commits g c = committed_whole _ _ (sym c.commits.ensures ∙ c.if-commits.false)
