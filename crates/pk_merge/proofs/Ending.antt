-- A job is idle again once what its merge replaces was freed.
use Rattle.std.proofs.Common.{◌≡◌, ℕ, zero, suc, ◌-◌, ◌≤◌, refl, ap, ◌∙◌, arith, List, Some, Option}
use Rattle.pk_base.specs.Shape.{Shape}
use Rattle.pk_run.specs.Kept.{Kept, empty}
use Rattle.pk_merge.{specs.Jobs.all_spare, specs.Jobs.spare_of, specs.Jobs.without, specs.Jobs.with_spare, specs.Laws.IsFormer, specs.Laws.IdleBehindOne, specs.Laws.IdleBehindTwo}

-- a run that was taken out and put back
one_back : (shape : Shape) (level : ℕ) → 1 ≤ level → level ≤ 4 → with_spare (without (all_spare shape) level) level (empty shape level) ≡ all_spare shape
one_back shape zero least most = absurd (omega (arith, least))
one_back shape (suc (suc (suc (suc (suc n))))) least most = absurd (omega (arith, most))
one_back shape level least most = refl

two_back : (shape : Shape) (level : ℕ) → 2 ≤ level → level ≤ 4
    → with_spare (with_spare (without (without (all_spare shape) level) (level - 1)) level (empty shape level)) (level - 1) (empty shape (level - 1)) ≡ all_spare shape
two_back shape zero least most = absurd (omega (arith, least))
two_back shape (suc zero) least most = absurd (omega (arith, least))
two_back shape (suc (suc (suc (suc (suc n))))) least most = absurd (omega (arith, most))
two_back shape level least most = refl

spares_one : (shape : Shape) (spares : List (Option Kept)) (level : ℕ) (former : Kept) → spares ≡ all_spare shape → IsFormer shape level former → 1 ≤ level → level ≤ 4
    → with_spare (without spares level) former.level (empty former.shape former.level) ≡ all_spare shape
spares_one shape spares level former s f least most = (λ i. with_spare (without (s i) level) (f.same_level i) (empty (f.same_shape i) (f.same_level i))) ∙ one_back shape level least most

spares_two : (shape : Shape) (spares : List (Option Kept)) (level : ℕ) (former source : Kept)
    → spares ≡ all_spare shape → IsFormer shape level former → IsFormer shape (level - 1) source → 2 ≤ level → level ≤ 4
    → with_spare (with_spare (without (without spares level) (level - 1)) former.level (empty former.shape former.level)) source.level (empty source.shape source.level) ≡ all_spare shape
spares_two shape spares level former source s f g least most =
    (λ i. with_spare (with_spare (without (without (s i) level) (level - 1)) (f.same_level i) (empty (f.same_shape i) (f.same_level i))) (g.same_level i) (empty (g.same_shape i) (g.same_level i)))
    ∙ two_back shape level least most

-- the run of the source's level, which was not taken before
held_above : (shape : Shape) (spares : List (Option Kept)) (level : ℕ) → spares ≡ all_spare shape → 2 ≤ level → level ≤ 4 → spare_of (without spares level) (level - 1) ≡ Some (empty shape (level - 1))
held_above shape spares level s least most = ap (λ (xs : List (Option Kept)). spare_of (without xs level) (level - 1)) s ∙ there shape level least most
  where
    there : (shape : Shape) (level : ℕ) → 2 ≤ level → level ≤ 4 → spare_of (without (all_spare shape) level) (level - 1) ≡ Some (empty shape (level - 1))
    there shape zero least most = absurd (omega (arith, least))
    there shape (suc zero) least most = absurd (omega (arith, least))
    there shape (suc (suc (suc (suc (suc n))))) least most = absurd (omega (arith, most))
    there shape level least most = refl

pub idle_one : IdleBehindOne
idle_one shape j zero out former m i of least most f = absurd (omega (arith, least))
idle_one shape j (suc (suc (suc (suc (suc n))))) out former m i of least most f = absurd (omega (arith, most))
idle_one shape j level out former m i of least most f = (refl, record { target = refl; output = refl; spares = spares_one shape j.spares level former i.spares f least most; merger = of })

pub idle_two : IdleBehindTwo
idle_two shape j zero out former source m i of least most f g = absurd (omega (arith, least))
idle_two shape j (suc zero) out former source m i of least most f g = absurd (omega (arith, least))
idle_two shape j (suc (suc (suc (suc (suc n))))) out former source m i of least most f g = absurd (omega (arith, most))
idle_two shape j level out former source m i of least most f g =
    (held_above shape j.spares level i.spares least most, record { target = refl; output = refl; spares = spares_two shape j.spares level former source i.spares f g least most; merger = of })
