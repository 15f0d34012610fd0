-- The leases of an arena: what a step leaves of those of others.
use Rattle.std.proofs.Common.{◌≡◌, ℕ, Bool, List, [], ◌∷◌, ◌++◌, Some, None, Option, sym, ap, subst, ◌∙◌, arith}
use Rattle.pk_nand.specs.BoardState.{BoardState}
use Rattle.pk_pin.specs.Frames.{Frames, AreLeases, leased, times, KeepsPage}
use Rattle.pk_pin.proofs.Leases.{times-append, leases_taken, leases_filled}
use Rattle.pk_pool.specs.Blocks.{Blocks}
use Rattle.pk_run.specs.Kept.{Kept, with_lease}
use Rattle.pk_merge.{specs.declared.source.Source.Source, specs.declared.next.Next.Next, specs.Merging.Merger, specs.Steps.Acts, specs.Elsewhere.LeavesLeases}
use Rattle.pk_merge.specs.declared.next.Next.TheVariants.{LoadSource, LoadTarget, TakeBlock, Program}

-- the last lease may as well be the first
turned : (i l : ℕ) (xs ys : List ℕ) → times i (xs ++ (ys ++ l ∷ [])) ≡ times i (l ∷ (xs ++ ys))
turned i l xs ys =
    let a = times-append i xs (ys ++ l ∷ []) in
    let b = times-append i ys (l ∷ []) in
    let c = times-append i xs ys in
    let d = times-append i (l ∷ []) (xs ++ ys) in
    omega (arith, a, b, c, d)

-- a page that is kept is one lease more
page_leases : (pins : Bool) (old new : Frames) (bytes : List ℕ) (lease : Option ℕ) (others own : List ℕ)
    → KeepsPage pins old new bytes lease → AreLeases old (others ++ own) → AreLeases new (others ++ with_lease own lease)
page_leases pins old new bytes None others own k all = subst (λ (a : Frames). AreLeases a (others ++ own)) (sym k.1) all
page_leases pins old new bytes (Some l) others own k all =
    let taken = leases_taken old (others ++ own) l all k.1 in
    let wide : AreLeases (leased old l) (others ++ (own ++ l ∷ [])) = λ i. turned i l others own ∙ taken i in
    subst (λ (a : Frames). AreLeases a (others ++ (own ++ l ∷ []))) (sym k.2) (leases_filled (leased old l) (others ++ (own ++ l ∷ [])) l bytes wide)

pub kept_leases : (out out' : Kept) (before after : Frames) → out'.leases ≡ out.leases → after ≡ before → LeavesLeases out before out' after
kept_leases out out' before after same kept others all =
    subst (λ (a : Frames). AreLeases a (others ++ out'.leases)) (sym kept) (subst (λ (ls : List ℕ). AreLeases before (others ++ ls)) (sym same) all)

-- each action
pub acts_lease : {X : Type 0} (source : Source X) (target : Kept) (pins : Bool) (out : Kept) (m : Merger) (pool : Blocks)
    (old : BoardState) (before : Frames) (next : Next) (out' : Kept) (m' : Merger) (pool' : Blocks) (new : BoardState) (after : Frames)
    → Acts source target pins out m pool old before next out' m' pool' new after → LeavesLeases out before out' after
acts_lease source target pins out m pool old before LoadSource out' m' pool' new after (l, o, p, a) = kept_leases out out' before after (ap (λ (r : Kept). r.leases) o) a
acts_lease source target pins out m pool old before LoadTarget out' m' pool' new after (l, o, p, a) = kept_leases out out' before after (ap (λ (r : Kept). r.leases) o) a
acts_lease source target pins out m pool old before TakeBlock out' m' pool' new after (k, e, a, fits) = kept_leases out out' before after (ap (λ (r : Kept). r.leases) k.run_is) a
acts_lease source target pins out m pool old before Program out' m' pool' new after (k, e, p) = λ others all.
    let own : out'.leases ≡ with_lease out.leases k.lease = ap (λ (r : Kept). r.leases) k.run_is in
    subst (λ (ls : List ℕ). AreLeases after (others ++ ls)) (sym own) (page_leases pins before after _ k.lease others out.leases k.frame all)
acts_lease source target pins out m pool old before next out' m' pool' new after none = kept_leases out out' before after (ap (λ (r : Kept). r.leases) none.2) none.4
