use Rattle.std.proofs.Common.{◌≡◌, ◌≢◌, ◌+◌, ◌*◌, ◌-◌, ℕ, arith, sym, subst}
use Rattle.pk_base.specs.EntryBytes.{cell_at, cell_key}
use Rattle.pk_base.proofs.{Logic.equal, KeyLemmas.same_key}
use Rattle.pk_run.proofs.Orders.{not_same}
use Rattle.pk_run.proofs.frame.place_before.Goals as goal

pub returns-then-has_key : goal.returns-then-has_key
returns-then-has_key c =
    let key_is = same_key (cell_key (cell_at (32 + 32 * (c.args.number - 1)) c.args.page.now)) c.args.key.now (equal _ (sym c.if-has_key.ensures)) in
    (omega (arith, c.get_u16.ensures, c.if-number-get_u16.false, c.if-number-eq0.false), key_is)

pub returns-else-has_key : goal.returns-else-has_key
returns-else-has_key c i h e =
    let here : c.args.number - 1 ≡ i = omega (arith, e) in
    subst (λ (j : ℕ). cell_key (cell_at (32 + 32 * j) c.args.page.now) ≢ c.args.key.now) here
    (not_same (cell_key (cell_at (32 + 32 * (c.args.number - 1)) c.args.page.now)) c.args.key.now (sym c.if-has_key.ensures))
