use Rattle.std.{proofs.Common.arith, proofs.Common.◌≡◌, proofs.Common.◌+◌, proofs.Common.◌≤◌, proofs.Common.◌<◌, proofs.Common.length, proofs.Common.get_or}
use Rattle.std.{proofs.Common.◌++◌, proofs.Common.◌∷◌, proofs.Common.[], proofs.Common.◌∙◌, proofs.Common.ap, proofs.Common.sym, specs.List.insert}
use Rattle.std.{specs.FinMap.Entries.is_sorted-put, specs.FinMap.Entries.find}
use Rattle.std.proofs.Common.{false, None, suc, ℕ, take, drop}
use Rattle.std.proofs.Math.Seq.{take-append_seam}
use Rattle.std.proofs.lemmas.Cmp.{nat_list_cmp_total}
use Rattle.pk_base.{specs.Key.key_cmp, specs.Entry.key_of, specs.Seen.entry}
use Rattle.pk_homes.{specs.Hash.hash_of, specs.Homes.home_of, specs.Homes.IsAdded}
use Rattle.pk_buf.{specs.declared.slot.Slot.Slot, specs.Table.sorted, specs.Table.has_at, specs.Table.place_of, proofs.Places.put_absent}
use Rattle.pk_buf.{proofs.Places.length-sorted, proofs.Places.same_table, proofs.Places.within_insert, proofs.Lookups.not_at, proofs.Lookups.slots_added}
use Rattle.pk_buf.{proofs.Lookups.all_numbered}
use mathlib.Core.Bool.{false≢true}
use Rattle.pk_buf.proofs.Buffer.insert.Goals as goal

pub unreachable-requires : goal.unreachable-requires
unreachable-requires g c =
    let xs = c.self.inside.order.items in
    let room : length xs < c.self.inside.capacity = rw (← c.self.view_is, length-sorted c.self.inside.slots.items xs) at c.requires.room in
    false≢true (c.in-Err.ensures.succeeds (omega (arith, c.self.invariant.2, c.self.invariant.4)))

pub unreachable-requires-in-Err-insert : goal.unreachable-requires-in-Err-insert
unreachable-requires-in-Err-insert g c =
    let xs = c.self.inside.order.items in
    let room : length xs < c.self.inside.capacity = rw (← c.self.view_is, length-sorted c.self.inside.slots.items xs) at c.requires.room in
    false≢true (c.in-Err-insert.ensures.succeeds (omega (arith, c.self.invariant.5)))

pub invariant_of-self : goal.invariant_of-self
invariant_of-self g c =
    let inv = c.self.invariant in
    let ss = c.self.inside.slots.items in
    let xs = c.self.inside.order.items in
    let t = c.self.inside.table.items in
    let s : Slot = record { entry = c.args.new } in
    let room : length xs < c.self.inside.capacity = rw (← c.self.view_is, length-sorted ss xs) at c.requires.room in
    let place = rw (c.as_slice.ensures, c.as_slice-2.ensures, c.key.ensures) at c.place-at.ensures in
    let none : find key_cmp (key_of (entry c.args.new)) (sorted ss xs) ≡ None = rw (← c.self.view_is) at c.requires.absent in
    let absent : has_at (key_of (entry c.args.new)) (sorted ss xs) c.place-at.result ≡ false = rw place.place (not_at (key_of (entry c.args.new)) (sorted ss xs) none) in
    let pushed : c.push.new.self.items ≡ ss ++ s ∷ [] = c.in-Ok.ensures.ok in
    let made : c.insert.new.self.items ≡ insert xs c.place-at.result (length ss) = c.in-Ok-insert.ensures.ok ∙ ap (λ n. insert xs c.place-at.result n) c.len-number.ensures.value in
    let len : length c.push.new.self.items ≡ length ss + 1 = c.in-Ok.ensures.len in
    let long : length c.push.new.self.items ≡ suc (length ss) = omega (arith, len) in
    let here : c.home-here.result ≡ home_of (hash_of (key_of (entry c.args.new))) (length t) = cc in
    let u = c.add.new.table in
    let size : c.self.inside.table.len ≡ length u = sym (c.add.auto.table ∙ c.deref_mut.ensures.len) in
    let whole : take c.self.inside.table.len (u ++ drop (length u) t) ≡ u = ap (λ (n : ℕ). take n (u ++ drop (length u) t)) size ∙ take-append_seam _ _ in
    let added : IsAdded t c.add.new.table (home_of (hash_of (key_of (entry c.args.new))) (length t)) (length ss)
    = rw (c.deref_mut.ensures.value, here, c.len-number.ensures.value) at c.add.ensures in (
      rw (pushed, made, put_absent ss xs s c.place-at.result inv.1 place.place absent) (is_sorted-put key_cmp nat_list_cmp_total (key_of (entry c.args.new)) (entry c.args.new).1 (sorted ss xs) inv.0),
      rw (len, made) (within_insert (length ss) (length ss + 1) xs c.place-at.result (length ss) inv.1 (omega arith) (omega arith) place.bound),
      omega (arith, c.in-Ok-insert.ensures.len, c.in-Ok.ensures.len, inv.2),
      omega (arith, c.in-Ok.ensures.len, inv.2),
      omega (arith, c.in-Ok.ensures.capacity, inv.4),
      omega (arith, c.in-Ok-insert.ensures.capacity, inv.5),
      inv.6,
      rw (pushed, whole) (slots_added ss t u s inv.7 added),
      rw (long, made) (all_numbered xs (length ss) c.place-at.result inv.8 place.bound),
    )

pub returns : goal.returns
returns g c =
    let inv = c.self.invariant in
    let ss = c.self.inside.slots.items in
    let xs = c.self.inside.order.items in
    let s : Slot = record { entry = c.args.new } in
    let place = rw (c.as_slice.ensures, c.as_slice-2.ensures, c.key.ensures) at c.place-at.ensures in
    let none : find key_cmp (key_of (entry c.args.new)) (sorted ss xs) ≡ None = rw (← c.self.view_is) at c.requires.absent in
    let absent : has_at (key_of (entry c.args.new)) (sorted ss xs) c.place-at.result ≡ false = rw place.place (not_at (key_of (entry c.args.new)) (sorted ss xs) none) in
    let pushed : c.push.new.self.items ≡ ss ++ s ∷ [] = c.in-Ok.ensures.ok in
    let made : c.insert.new.self.items ≡ insert xs c.place-at.result (length ss) = c.in-Ok-insert.ensures.ok ∙ ap (λ n. insert xs c.place-at.result n) c.len-number.ensures.value in
    rw (← c.self.view_is) (same_table c.self.inside.capacity _ _ (ap (λ zs. sorted zs c.insert.new.self.items) pushed ∙ ap (λ zs. sorted (ss ++ s ∷ []) zs) made
    ∙ put_absent ss xs s c.place-at.result inv.1 place.place absent))
