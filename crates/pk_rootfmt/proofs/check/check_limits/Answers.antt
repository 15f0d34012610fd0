use Rattle.std.proofs.Common.{◌≡◌, ◌∙◌, ◌+◌, ◌-◌, ◌*◌, ap, sym, subst, arith, Some, true, false, ℕ, drop, nat_lt}
use Rattle.pk_rootfmt.{specs.Root.u32s_at, specs.Fault.limits_fault, proofs.LimitLoop.test, proofs.LimitLoop.rest, proofs.LimitLoop.limit_stop, proofs.LimitLoop.limit_more, proofs.LimitLoop.limit_end}
use Rattle.pk_rootfmt.proofs.check.check_limits.Goals as goal

pub loop-i-init : goal.loop-i-init
loop-i-init c =
    let none : c.args.count - 0 ≡ c.args.count = omega arith in
    ap (λ (n : ℕ). limits_fault 64 c.args.most n (u32s_at 8 (drop 64 c.args.page.now))) none

pub returns : goal.returns
returns c =
    let end : 8 ≡ c.loop-i.i = omega (arith, c.loop-i-test.false, c.loop-i.auto.i-end) in
    sym c.loop-i.invariant ∙ limit_end c.args.page.now c.args.count c.loop-i.left c.loop-i.i end

pub returns-in-Err : goal.returns-in-Err
returns-in-Err c =
    let is = nat_lt c.loop-i.i c.args.count in
    sym c.loop-i.invariant
    ∙ limit_stop c.args.page.now c.loop-i.i c.args.count c.loop-i.left (omega arith) (subst (λ (x : ℕ). test is c.loop-i.left x ≡ false) c.get_u32.ensures c.in-Err.ensures.0)
    ∙ ap Some (sym c.in-Err.ensures.1)

pub loop-i-preserved : goal.loop-i-preserved
loop-i-preserved c =
    let is = nat_lt c.loop-i.i c.args.count in
    let next : ℕ = c.loop-i.i + 1 in
    ap (λ (l : ℕ). limits_fault (64 + 4 * next) l (c.args.count - next) (u32s_at (8 - next) (drop (64 + 4 * next) c.args.page.now))) (c.in-Ok.ensures.1 ∙ ap (rest is c.loop-i.left) c.get_u32.ensures)
    ∙ limit_more c.args.page.now c.loop-i.i c.args.count c.loop-i.left (omega arith) (subst (λ (x : ℕ). test is c.loop-i.left x ≡ true) c.get_u32.ensures c.in-Ok.ensures.0)
    ∙ c.loop-i.invariant
