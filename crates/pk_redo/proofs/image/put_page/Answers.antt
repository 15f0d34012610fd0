use Rattle.pk_redo.proofs.Writes.{torn_page}
use Rattle.pk_redo.proofs.image.put_page.Goals as goal

pub returns-clause-crash : goal.returns-clause-crash
returns-clause-crash g c marks base sets within left may =
    let (before, was, torn) = c.write_at.ensures.crash left may in
    torn_page c.args.shape.now marks base before left _ _ c.requires.exists c.requires.short sets (within before was) (rw c.page_at.ensures at torn)

pub returns-clause-seen : goal.returns-clause-seen
returns-clause-seen g c marks base sets same = torn_page c.args.shape.now marks base _ _ _ _ c.requires.exists c.requires.short sets same (rw c.page_at.ensures at c.write_at.ensures.others)
