use Rattle.std.proofs.Common.{◌∙◌, ℕ, List, length, sym, subst}
use Rattle.pk_plan.specs.declared.owner.Owner.TheVariants.{Journal}
use Rattle.pk_scan.{specs.Adopts.is_among, specs.Adopts.Adopts, specs.Adopts.MayAdopt, proofs.Adopting.may_front, proofs.Adopting.may_back, proofs.Naming.two_is, proofs.Naming.older_is}
use Rattle.pk_scan.proofs.adopt.adopt_epochs.Goals as goal

pub adopt_all-requires : goal.adopt_all-requires
adopt_all-requires g c =
    let is = c.newest.ensures ∙ two_is c.args.root.now.root.newest c.requires.two in
    subst (λ (bs : List ℕ). MayAdopt Journal bs c.args.pool.now) (sym is) (may_front c.args.root.now.root.newest c.args.root.now.root.older c.requires.may)

pub adopt_all-requires-in-Some : goal.adopt_all-requires-in-Some
adopt_all-requires-in-Some g c =
    let is = c.newest.ensures ∙ two_is c.args.root.now.root.newest c.requires.two in
    let first = subst (λ (bs : List ℕ). Adopts Journal (is_among bs) (length bs) c.args.pool.now c.adopt_all.new.pool) is c.adopt_all.ensures in
    subst (λ (bs : List ℕ). MayAdopt Journal bs c.adopt_all.new.pool) (sym (older_is c.args.root.now.root.older c.in-Some.older (sym c.in-Some.is ∙ c.older.ensures)))
    (may_back c.args.root.now.root.newest c.args.root.now.root.older c.requires.may first)
