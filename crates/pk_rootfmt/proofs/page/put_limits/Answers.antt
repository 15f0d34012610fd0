use Rattle.std.proofs.Common.{◌≡◌, ◌∙◌, ◌+◌, ◌-◌, ◌*◌, ◌++◌, ap, sym, subst, arith, length, take, ℕ, List}
use Rattle.std.{specs.List.flat_map, proofs.lemmas.List.take_all, proofs.lemmas.List.append_assoc}
use Rattle.pk_base.specs.Fields.{u32, zeros}
use Rattle.pk_rootfmt.proofs.LimitLemmas.{not_none, some_wide, some_spelled}
use Rattle.pk_rootfmt.proofs.page.put_limits.Goals as goal

pub put_u32-requires : goal.put_u32-requires
put_u32-requires c =
    let some = not_none (length c.args.limits.now) (sym c.is_empty.ensures ∙ c.if-is_empty.false) in
    omega (arith, some_wide c.args.limits.now some c.requires.few, c.requires.few, c.requires.room, c.loop-i-test.true, c.loop-i.auto.into)

pub put_zeros-requires-clause-fits : goal.put_zeros-requires-clause-fits
put_zeros-requires-clause-fits c =
    let some = not_none (length c.args.limits.now) (sym c.is_empty.ensures ∙ c.if-is_empty.false) in
    omega (arith, some_wide c.args.limits.now some c.requires.few, c.requires.room, c.loop-i.auto.into)

pub returns-clause-place : goal.returns-clause-place
returns-clause-place c =
    let some = not_none (length c.args.limits.now) (sym c.is_empty.ensures ∙ c.if-is_empty.false) in
    omega (arith, some_wide c.args.limits.now some c.requires.few)

pub returns-clause-front : goal.returns-clause-front
returns-clause-front c =
    let ls : List ℕ = c.args.limits.now in
    let some = not_none (length ls) (sym c.is_empty.ensures ∙ c.if-is_empty.false) in
    let end : c.loop-i.i ≡ length ls = omega (arith, c.loop-i-test.false, c.loop-i.auto.i-end) in
    let written : take (64 + 4 * length ls) c.loop-i.into ≡ take 64 c.args.into.now ++ flat_map u32 ls =
    subst (λ (k : ℕ). take (64 + 4 * k) c.loop-i.into ≡ take 64 c.args.into.now ++ flat_map u32 (take k ls)) end c.loop-i.invariant
    ∙ ap (λ (r : List ℕ). take 64 c.args.into.now ++ flat_map u32 r) (take_all (length ls) ls (omega arith)) in
    c.put_zeros.ensures.front ∙ ap (λ (r : List ℕ). r ++ zeros (96 - (64 + 4 * length ls))) written
    ∙ append_assoc (take 64 c.args.into.now) (flat_map u32 ls) (zeros (96 - (64 + 4 * length ls)))
    ∙ ap (λ (r : List ℕ). take 64 c.args.into.now ++ r) (some_spelled ls some c.requires.few)
