use Rattle.pk_walk.proofs.Following.{Follows-begun}
use Rattle.pk_walk.proofs.cursor.Cursor.begin.Goals as goal

pub returns-then-self-eq0-clause-follows : goal.returns-then-self-eq0-clause-follows
returns-then-self-eq0-clause-follows g c flash arena es s f =
    Follows-begun flash c.args.run.now es c.args.position.now _ c.known.ensures.shape (rw (← c.self.view_is) at f) c.begins_at-self-inside.result c.if-self-eq0.true
    (rw (← c.self.view_is) at c.requires) (c.begins_at-self-inside.ensures.begins flash arena es s)
