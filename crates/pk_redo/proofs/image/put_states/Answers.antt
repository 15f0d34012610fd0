use Rattle.pk_redo.proofs.Writes.{torn_states}
use Rattle.pk_redo.proofs.image.put_states.Goals as goal

pub returns-clause-crash : goal.returns-clause-crash
returns-clause-crash g c marks base all within left may =
    let (before, was, torn) = c.write_at.ensures.crash left may in
    torn_states c.args.shape.now marks base before left _ _ c.requires.row all (within before was) (rw c.state_at.ensures at torn)

pub returns-clause-seen : goal.returns-clause-seen
returns-clause-seen g c marks base all same = torn_states c.args.shape.now marks base _ _ _ _ c.requires.row all same (rw c.state_at.ensures at c.write_at.ensures.others)
