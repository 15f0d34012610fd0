use Rattle.std.proofs.Common.{◌≡◌, ◌-◌, ℕ, arith, false, subst}
use Rattle.pk_buf.specs.Table.{has_key, numbered}
use Rattle.pk_buf.proofs.Lookups.{slot_has}
use Rattle.pk_buf.proofs.slot_before.Goals as goal

pub returns-else-has : goal.returns-else-has
returns-else-has c i h e =
    let here : c.args.number - 1 ≡ i = omega (arith, e) in
    subst (λ (j : ℕ). has_key c.args.key.now (numbered c.args.slots.now j) ≡ false) here
    (slot_has c.args.slots.now c.args.key.now (c.args.number - 1) c.index-slots-number.result false (omega (arith, e, h)) c.index-slots-number.is c.if-has.ensures)
