use Rattle.std.proofs.Common.{◌≡◌, ◌∙◌, length, refl}
use Rattle.pk_pin.proofs.Indexes.{number_in}
use Rattle.pk_pin.proofs.PinArena.number_of.Goals as goal

pub returns : goal.returns
returns g c =
    let a = c.self.inside in
    let table = c.table_of-table.result.now in
    let f = c.lease.inside.frame in
    let count : c.len-frames.result ≡ length a.used.items = c.len-frames.ensures ∙ a.used.ok.0 in
    let contents = rw (c.deref.ensures.value, count) at c.table_of-table.ensures.contents in
    rw (← c.self.view_is, ← c.lease.view_is)
    (number_in a.page_bytes a.homes (length a.used.items) f c.args.hash c.home.result _ a.bytes.items a.tables.items table c.self.invariant.indexed contents c.home.ensures.place refl)
