use Rattle.std.{proofs.Common.◌-◌, proofs.Common.◌∙◌, proofs.Common.ap, proofs.Common.sym, proofs.lemmas.Option.slice_get_past}
use Rattle.pk_walk.specs.Steps.{seen_bytes}
use Rattle.pk_walk.proofs.cursor.Cursor.bytes.Goals as goal

pub bytes-requires : goal.bytes-requires
bytes-requires g c = let has = rw (← c.self.view_is) at c.requires in has.leased c.in-Some.lease.now c.in-Some.ensures

pub returns-in-Some : goal.returns-in-Some
returns-in-Some g c = rw (← c.self.view_is) (c.bytes.ensures.contents ∙ ap (seen_bytes c.self.inside.page.items c.args.arena.now) (sym c.in-Some.ensures))

pub returns-in-None : goal.returns-in-None
returns-in-None g c = rw (← c.self.view_is)
    (c.deref.ensures.value ∙ ap (seen_bytes c.self.inside.page.items c.args.arena.now) (sym (slice_get_past c.args.run.now.leases (c.self.inside.loaded - 1) c.in-None.ensures)))
