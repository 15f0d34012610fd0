-- A run that replaces another, in lists of runs.
use Rattle.std.proofs.Common.{◌≡◌, inl, ℕ, zero, suc, ◌+◌, ◌≤◌, ◌<◌, T, List, [], ◌∷◌, length, map, slice_set, slice_index_or, Some, refl, sym, ap, subst, arith}
use Rattle.std.{specs.Prelude.slice_get, proofs.lemmas.Option.same_Some}
use Rattle.pk_base.{specs.Shape.Shape, specs.Page.Flash, specs.Entry.Entry}
use Rattle.pk_pin.{specs.Frames.Frames, specs.Frames.times, proofs.Leases.times-append}
use Rattle.pk_rootfmt.specs.Root.{differ}
use Rattle.pk_run.{specs.Kept.Kept, specs.Kept.RunOnFlash, specs.Kept.empty, specs.Leases.LeavesOthers}
use Rattle.pk_level.{specs.Levels.RunsOnFlash, specs.Levels.HaveBlocks, specs.Levels.AreOfLevels, specs.Levels.IsOfLevel, specs.Arenas.leases_of}
use Rattle.pk_model.proofs.Commits.{apart, rest_differs}
use Rattle.pk_law_steps.proofs.Places.{In}
use Rattle.pk_merge.specs.Jobs.{all_spare, spare_of, without, with_spare}
use Rattle.pk_schedule.proofs.Grown.{got_in}

-- ---- what is unchanged

pub RunsOnFlash-set : (flash : Flash) (arena : Frames) (rs : List Kept) (ess : List (List Entry)) (i : ℕ) (r : Kept) (es : List Entry)
    → RunOnFlash r flash arena es → RunsOnFlash flash arena rs ess → RunsOnFlash flash arena (slice_set rs i r) (slice_set ess i es)
RunsOnFlash-set flash arena [] [] i r es is s = tt
RunsOnFlash-set flash arena (q ∷ rs) (fs ∷ ess) zero r es is s = (is, s.1)
RunsOnFlash-set flash arena (q ∷ rs) (fs ∷ ess) (suc i) r es is s = (s.0, RunsOnFlash-set flash arena rs ess i r es is s.1)
RunsOnFlash-set flash arena _ _ i r es is s = absurd s

pub HaveBlocks-set : (shape : Shape) (rs : List Kept) (bss : List (List ℕ)) (i : ℕ) (r : Kept)
    → r.shape ≡ shape → HaveBlocks shape rs bss → HaveBlocks shape (slice_set rs i r) (slice_set bss i r.blocks)
HaveBlocks-set shape [] [] i r is s = tt
HaveBlocks-set shape (q ∷ rs) (bs ∷ bss) zero r is s = (is, refl, s.2)
HaveBlocks-set shape (q ∷ rs) (bs ∷ bss) (suc i) r is s = (s.0, s.1, HaveBlocks-set shape rs bss i r is s.2)
HaveBlocks-set shape _ _ i r is s = absurd s

-- the blocks of one run, or of one without any
pub blocks_at_level : (shape : Shape) (rs : List Kept) (bss : List (List ℕ)) (i : ℕ) (d : Kept) → d.blocks ≡ [] → HaveBlocks shape rs bss → (slice_index_or rs i d).blocks ≡ slice_index_or bss i []
blocks_at_level shape [] [] i d none s = none
blocks_at_level shape (q ∷ rs) (bs ∷ bss) zero d none s = s.1
blocks_at_level shape (q ∷ rs) (bs ∷ bss) (suc i) d none s = blocks_at_level shape rs bss i d none s.2
blocks_at_level shape _ _ i d none s = absurd s

-- a run of this level
pub of_level : (shape : Shape) (pinned level : ℕ) (rs : List Kept) (i : ℕ) (d : Kept) → ((n : ℕ) → n ≡ level + i → IsOfLevel shape pinned n d)
    → AreOfLevels shape pinned level rs → (n : ℕ) → n ≡ level + i → IsOfLevel shape pinned n (slice_index_or rs i d)
of_level shape pinned level [] i d is s n e = is n e
of_level shape pinned level (q ∷ rs) zero d is s n e = subst (λ k. IsOfLevel shape pinned k q) (let same : level ≡ n = omega (arith, e) in same) s.0
of_level shape pinned level (q ∷ rs) (suc i) d is s n e = of_level shape pinned (suc level) rs i d (λ k f. is k (omega (arith, f))) s.1 n (omega (arith, e))

-- ---- one of many

module _ {X : Type 0} where
  pub at_set : (xs : List X) (i : ℕ) (x d : X) → i < length xs → slice_index_or (slice_set xs i x) i d ≡ x
  at_set [] i x d low = absurd (omega (arith, low))
  at_set (y ∷ xs) zero x d low = refl
  at_set (y ∷ xs) (suc i) x d low = at_set xs i x d (omega (arith, low))

  pub at_other : (xs : List X) (i j : ℕ) (x d : X) → (j ≡ i → ⊥) → slice_index_or (slice_set xs i x) j d ≡ slice_index_or xs j d
  at_other [] i j x d away = refl
  at_other (y ∷ xs) zero zero x d away = absurd (away refl)
  at_other (y ∷ xs) (suc i) (suc j) x d away = at_other xs i j x d (λ e. away (ap suc e))
  at_other (y ∷ xs) _ _ x d away = refl

  pub map_set : {Y : Type 0} (f : X → Y) (xs : List X) (i : ℕ) (x : X) → map f (slice_set xs i x) ≡ slice_set (map f xs) i (f x)
  map_set f [] i x = refl
  map_set f (y ∷ xs) zero x = refl
  map_set f (y ∷ xs) (suc i) x = ap (λ ys. f y ∷ ys) (map_set f xs i x)

-- ---- leases

pub leases_set : (l i : ℕ) (rs : List Kept) (r d : Kept) → i < length rs → times l (leases_of (slice_set rs i r)) + times l (slice_index_or rs i d).leases ≡ times l (leases_of rs) + times l r.leases
leases_set l i [] r d low = absurd (omega (arith, low))
leases_set l zero (q ∷ rs) r d low = let now = times-append l r.leases (leases_of rs) in let was = times-append l q.leases (leases_of rs) in omega (arith, now, was)
leases_set l (suc i) (q ∷ rs) r d low =
    let now = times-append l q.leases (leases_of (slice_set rs i r)) in
    let was = times-append l q.leases (leases_of rs) in
    let rest = leases_set l i rs r d (omega (arith, low)) in
    omega (arith, now, was, rest)

-- runs that have none of the frames that were freed are as before
pub RunsOnFlash-given : (leases : List ℕ) (flash : Flash) (before after : Frames) (rs : List Kept) (ess : List (List Entry)) → LeavesOthers leases before after
    → ((i l : ℕ) → slice_get leases i ≡ Some l → times l (leases_of rs) ≡ 0) → RunsOnFlash flash before rs ess → RunsOnFlash flash after rs ess
RunsOnFlash-given leases flash before after [] [] leaves none s = tt
RunsOnFlash-given leases flash before after (r ∷ rs) (es ∷ ess) leaves none s = (
  leaves r flash es (λ i l is. let all = none i l is in let both = times-append l r.leases (leases_of rs) in omega (arith, all, both)) s.0,
  RunsOnFlash-given leases flash before after rs ess leaves (λ i l is. let all = none i l is in let both = times-append l r.leases (leases_of rs) in omega (arith, all, both)) s.1,
)
RunsOnFlash-given leases flash before after _ _ leaves none s = absurd s

-- ---- different blocks

absent : (x : ℕ) (xs : List ℕ) → T (differ (x ∷ xs)) → (b : ℕ) → x ≡ b → In b xs → ⊥
absent x xs d b e is = apart b (x ∷ []) xs d (inl (sym e)) is

pub places_differ : (xs : List ℕ) → T (differ xs) → (i j b : ℕ) → slice_get xs i ≡ Some b → slice_get xs j ≡ Some b → i ≡ j
places_differ [] d i j b is is' = absurd (let x : ⊥ = cc in x)
places_differ (x ∷ xs) d zero zero b is is' = refl
places_differ (x ∷ xs) d zero (suc j) b is is' = absurd (absent x xs d b (same_Some x b is) (got_in xs j b is'))
places_differ (x ∷ xs) d (suc i) zero b is is' = absurd (absent x xs d b (same_Some x b is') (got_in xs i b is))
places_differ (x ∷ xs) d (suc i) (suc j) b is is' = ap suc (places_differ xs (rest_differs x xs d) i j b is is')

-- runs without entries are spare, whichever is taken and put back
pub spare_at : (shape : Shape) (k : ℕ) → 1 ≤ k → k ≤ 4 → (spare_of (all_spare shape) k ≡ Some (empty shape k)) × (with_spare (without (all_spare shape) k) k (empty shape k) ≡ all_spare shape)
spare_at shape zero least most = absurd (omega (arith, least))
spare_at shape (suc zero) least most = (refl, refl)
spare_at shape (suc (suc zero)) least most = (refl, refl)
spare_at shape (suc (suc (suc zero))) least most = (refl, refl)
spare_at shape (suc (suc (suc (suc zero)))) least most = (refl, refl)
spare_at shape (suc (suc (suc (suc (suc k))))) least most = absurd (omega (arith, most))
