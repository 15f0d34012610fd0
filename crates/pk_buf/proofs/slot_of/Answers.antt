use Rattle.std.proofs.Common.{◌≡◌, ◌∙◌, ℕ, arith, ap, sym, get_or, length}
use Rattle.pk_homes.{specs.Hash.hash_of, specs.Homes.home_of}
use Rattle.pk_buf.proofs.Lookups.{alone_answers}
use Rattle.pk_buf.proofs.slot_of.Goals as goal

pub returns-then-found-lt-SHARED : goal.returns-then-found-lt-SHARED
returns-then-found-lt-SHARED c =
    let t = c.args.table.now in
    let here : c.home.result ≡ home_of (hash_of c.args.key.now) (length t) = c.home.ensures.place ∙ ap (λ (h : ℕ). home_of h (length t)) c.hash.ensures in
    alone_answers c.args.slots.now c.args.order.now t c.args.key.now (get_or t c.home.result 0) c.slot_before.result c.requires.rising c.requires.within
    c.requires.homes (ap (λ (p : ℕ). get_or t p 0) (sym here))
    c.if-found-lt-SHARED.true c.slot_before.ensures
