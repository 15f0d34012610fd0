use Rattle.pk_walk.{specs.Heads.seen_head, specs.Steps.bytes_in, specs.Walking.Cursor, proofs.Moving.moves_to}
use Rattle.pk_walk.proofs.cursor.Cursor.skip.Goals as goal

pub returns : goal.returns
returns g c =
    let cursor : Cursor = record {
      shape = c.self.inside.shape;
      place = c.self.inside.place;
      loaded = c.self.inside.loaded;
      bytes = c.self.inside.page.items;
      head = seen_head c.self.inside.head;
      has_found = c.self.inside.has_found;
    } in
    let first = rw (← c.self.view_is) at c.wanted_here-to.ensures in
    let count = rw (← c.self.view_is) at c.entries_here-end.ensures in
    rw (← c.self.view_is) (moves_to c.args.position.now
    (bytes_in c.args.run.now c.args.arena.now cursor) cursor c.entries.result c.wanted_here-to.result c.entries_here-end.result c.entries.ensures.value first count)
