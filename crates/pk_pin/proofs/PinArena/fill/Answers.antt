use Rattle.std.proofs.Common.{◌≡◌, ◌∙◌, ℕ, ◌++◌, take, drop, length, sym, ap}
use Rattle.std.{proofs.Math.Seq.take-append_seam, proofs.lemmas.Option.slice_get_within, specs.Prelude.slice_get, specs.Prelude.Some, specs.Prelude.true}
use Rattle.pk_pin.proofs.Indexes.{filled_arena}
use Rattle.pk_pin.proofs.PinArena.fill.Goals as goal

pub invariant_of-self : goal.invariant_of-self
invariant_of-self g c =
    let a = c.self.inside in
    let bs = c.put_piece.new.bytes in
    let ts = c.index_frame.new.tables in
    let bytes_long : a.bytes.len ≡ length bs = sym (c.put_piece.auto.bytes ∙ c.deref_mut.ensures.len) in
    let tables_long : a.tables.len ≡ length ts = sym (c.index_frame.auto.tables ∙ c.deref_mut-2.ensures.len) in
    let bytes_are : take a.bytes.len (bs ++ drop (length bs) a.bytes.items) ≡ bs = ap (λ (n : ℕ). take n (bs ++ drop (length bs) a.bytes.items)) bytes_long ∙ take-append_seam _ _ in
    let tables_are : take a.tables.len (ts ++ drop (length ts) a.tables.items) ≡ ts = ap (λ (n : ℕ). take n (ts ++ drop (length ts) a.tables.items)) tables_long ∙ take-append_seam _ _ in
    let inside : slice_get a.used.items c.lease.inside.frame ≡ Some true = cc in
    let count : c.len-frames.result ≡ length a.used.items = c.len-frames.ensures ∙ a.used.ok.0 in
    let pieces = rw (c.deref_mut.ensures.value, count) at c.put_piece.ensures.pieces in
    let made = rw (c.deref_mut-2.ensures.value, count) at c.index_frame.ensures.tables in
    rw (bytes_are, tables_are)
    (filled_arena a.page_bytes a.homes a.free c.lease.inside.frame a.used.items a.bytes.items a.tables.items bs ts c.args.bytes.now c.self.invariant
    (slice_get_within a.used.items c.lease.inside.frame true inside) (c.put_piece.auto.bytes ∙ ap length c.deref_mut.ensures.value) pieces
    (c.index_frame.auto.tables ∙ ap length c.deref_mut-2.ensures.value) made)
