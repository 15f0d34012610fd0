use Rattle.std.proofs.Common.{◌≡◌, ◌<◌, ◌≤◌, ◌+◌, ◌*◌, ◌/◌, ◌%◌, ℕ, suc, arith, ap, ◌∙◌, sym}
use Rattle.pk_base.{proofs.CommitPages.within}
use Rattle.pk_pair.proofs.PairLemmas.{pair_exists}
use Rattle.pk_pair.proofs.pages.commit_page.Goals as goal

pub returns-clause-exists : goal.returns-clause-exists
returns-clause-exists c = λ all. rw c.block_pages-pages.ensures.value (pair_exists c.args.shape.now c.args.blocks c.args.index c.known.ensures c.requires.within all)
