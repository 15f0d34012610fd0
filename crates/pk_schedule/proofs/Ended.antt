-- The job of merges if its runs are taken and freed one after another.
use Rattle.std.proofs.Common.{◌≡◌, ◌==◌, false, ℕ, zero, suc, ◌-◌, ◌≤◌, refl, ap, ◌∙◌, arith, List, Some, None, Option}
use Rattle.std.proofs.lemmas.Bool.Decides.{nat_tests}
use Rattle.pk_base.specs.Shape.{Shape}
use Rattle.pk_run.specs.Kept.{Kept, empty}
use Rattle.pk_merge.{specs.Merging.Merger, specs.Laws.IsFormer, specs.Laws.done_with}
use Rattle.pk_merge.specs.Jobs.{Job, IsIdle, all_spare, spare_of, without, with_spare, held_at, taken_from, given_to, ended}
use Rattle.pk_schedule.proofs.Replacing.{spare_at}

spares_back : (shape : Shape) (spares : List (Option Kept)) (level : ℕ) (former : Kept) → spares ≡ all_spare shape → IsFormer shape level former → 1 ≤ level → level ≤ 4
    → with_spare (without spares level) former.level (empty former.shape former.level) ≡ all_spare shape
spares_back shape spares level former s f least most = (λ i. with_spare (without (s i) level) (f.same_level i) (empty (f.same_shape i) (f.same_level i))) ∙ (spare_at shape level least most).1

-- After the exchange of the target's run there is a run for the source's level; after that of the source's as well the job is idle.
pub record SecondRun (shape : Shape) (j : Job) (level : ℕ) : Type 0 where
  pub held : held_at j (level - 1) ≡ Some (empty shape (level - 1))
  pub idle : (source : Kept) → IsFormer shape (level - 1) source → IsIdle shape (ended (given_to (taken_from j (level - 1)) source))
  pub pinned : (source : Kept) → (ended (given_to (taken_from j (level - 1)) source)).pinned ≡ j.pinned

second_at : (shape : Shape) (j : Job) (level : ℕ) → j.target ≡ level → j.output ≡ None → j.merger.shape ≡ shape → j.spares ≡ all_spare shape → 2 ≤ level → level ≤ 4 → SecondRun shape j level
second_at shape j level target output of spares least most = record {
  held = rw other (ap (λ (xs : List (Option Kept)). spare_of xs (level - 1)) spares ∙ (spare_at shape (level - 1) (omega arith) (omega arith)).0);
  idle = λ source g. rw other (record { target = refl; output = output; spares = spares_back shape j.spares (level - 1) source spares g (omega arith) (omega arith); merger = of });
  pinned = λ source. rw other refl;
}
  where
    other : ((level - 1) == j.target) ≡ false
    other = grind (arith, nat_tests)

pub second_run : (shape : Shape) (j : Job) (level : ℕ) (out former : Kept) (m : Merger) → IsIdle shape j → m.shape ≡ shape → 2 ≤ level → level ≤ 4 → IsFormer shape level former
    → SecondRun shape (given_to (taken_from (done_with shape j level out m) level) former) level
second_run shape j zero out former m i of least most f = absurd (omega (arith, least))
second_run shape j (suc zero) out former m i of least most f = absurd (omega (arith, least))
second_run shape j (suc (suc zero)) out former m i of least most f = second_at shape _ 2 refl refl of (spares_back shape j.spares 2 former i.spares f (omega arith) most) least most
second_run shape j (suc (suc (suc zero))) out former m i of least most f = second_at shape _ 3 refl refl of (spares_back shape j.spares 3 former i.spares f (omega arith) most) least most
second_run shape j (suc (suc (suc (suc zero)))) out former m i of least most f = second_at shape _ 4 refl refl of (spares_back shape j.spares 4 former i.spares f (omega arith) most) least most
second_run shape j (suc (suc (suc (suc (suc n))))) out former m i of least most f = absurd (omega (arith, most))
