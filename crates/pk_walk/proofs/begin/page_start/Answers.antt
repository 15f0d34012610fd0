use Rattle.pk_walk.proofs.Following.{page_begins}
use Rattle.pk_walk.proofs.begin.page_start.Goals as goal

pub returns-in-Some : goal.returns-in-Some
returns-in-Some g c is_one from flash arena es s =
    rw (c.entries.ensures.value, c.shape.ensures) (page_begins c.args.run.now flash arena es is_one c.args.key.now c.in-Some.p c.known.ensures.shape from c.in-Some.ensures s)
