use Rattle.std.{proofs.Common.arith, proofs.Common.◌≡◌, proofs.Common.◌<◌, proofs.Common.length, proofs.Common.length-set, proofs.Common.get_or}
use Rattle.std.{proofs.Common.set, proofs.Common.◌∙◌, proofs.Common.ap, proofs.Common.sym, specs.List.refill, specs.FinMap.Entries.is_sorted-put}
use Rattle.std.proofs.lemmas.Cmp.{nat_list_cmp_total}
use Rattle.pk_base.{specs.Key.key_cmp, specs.Entry.key_of, specs.Seen.entry}
use Rattle.pk_buf.{specs.declared.slot.Slot.Slot, specs.Table.sorted, proofs.Places.written, proofs.Places.same_table, proofs.Lookups.put_over, proofs.Lookups.slots_over}
use Rattle.pk_buf.proofs.Buffer.put.Goals as goal

pub invariant_of-self : goal.invariant_of-self
invariant_of-self g c =
    let f = rw (c.as_slice.ensures, c.key.ensures) at c.in-Some.ensures in
    let inv = c.self.invariant in
    let ss = c.self.inside.slots.items in
    let xs = c.self.inside.order.items in
    let i = c.in-Some.number in
    let s : Slot = record { entry = c.args.new } in
    let w : refill (length ss) ss (set c.deref_mut.result.now i s) ≡ set ss i s = written c.self.inside.slots i s _ c.deref_mut.ensures.value in (
      rw (w, put_over ss xs i s inv.0 inv.8 f.0 f.1) (is_sorted-put key_cmp nat_list_cmp_total (key_of (entry c.args.new)) (entry c.args.new).1 (sorted ss xs) inv.0),
      rw (w, length-set ss i s) inv.1,
      rw (w, length-set ss i s) inv.2,
      rw (w, length-set ss i s) inv.3,
      inv.4,
      inv.5,
      inv.6,
      rw w (slots_over ss c.self.inside.table.items i s inv.7 f.0 f.1),
      rw (w, length-set ss i s) inv.8,
    )

pub returns-in-Some : goal.returns-in-Some
returns-in-Some g c =
    let f = rw (c.as_slice.ensures, c.key.ensures) at c.in-Some.ensures in
    let inv = c.self.invariant in
    let ss = c.self.inside.slots.items in
    let xs = c.self.inside.order.items in
    let i = c.in-Some.number in
    let s : Slot = record { entry = c.args.new } in
    let w : refill (length ss) ss (set c.deref_mut.result.now i s) ≡ set ss i s = written c.self.inside.slots i s _ c.deref_mut.ensures.value in
    rw (← c.self.view_is) (same_table c.self.inside.capacity _ _ (ap (λ zs. sorted zs xs) w ∙ put_over ss xs i s inv.0 inv.8 f.0 f.1))
