use Rattle.pk_law_work.proofs.Paging.{few_pages, few_blocks}
use Rattle.pk_law_work.proofs.pages.Goals as goal

pub returns-clause-few : goal.returns-clause-few
returns-clause-few c = few_pages

pub returns-clause-few_blocks : goal.returns-clause-few_blocks
returns-clause-few_blocks c = few_blocks
