-- The exchange of runs after a merge, from its parts.
use Rattle.std.proofs.Common.{◌≡◌, ℕ, List, [], ◌++◌, sym, ap, subst, ◌∙◌, Some}
use Rattle.std.proofs.lemmas.Option.{same_Some}
use Rattle.pk_base.specs.Page.{Flash}
use Rattle.pk_pin.specs.Frames.{Frames, AreLeases}
use Rattle.pk_pool.{specs.Blocks.Blocks, specs.Blocks.PoolOnFlash, specs.Blocks.given_back, specs.Unready.unready}
use Rattle.pk_run.{specs.Kept.Kept, specs.Leases.LeavesOthers, specs.Leases.given_all}
use Rattle.pk_level.specs.Levels.{Levels, run_of, with_run}
use Rattle.pk_merge.specs.Jobs.{Job, held_at, taken_from, given_to}
use Rattle.pk_schedule.specs.Exchanges.{CanExchange, Exchanges}

module _ (levels levels' : Levels) (arena arena' : Frames) (pool pool' : Blocks) (job middle job' : Job)
    (level : ℕ) (run former : Kept) (taken : held_at job level ≡ Some run) (left : middle ≡ taken_from job level)
    (installed : levels' ≡ with_run levels level run) (former_is : former ≡ run_of levels level) (kept : job' ≡ given_to middle former)
    (pool_is : pool' ≡ given_back pool former.blocks) (arena_is : arena' ≡ given_all arena former.leases)
    (fits : (flash : Flash) → PoolOnFlash pool flash → PoolOnFlash pool' flash) (others : LeavesOthers former.leases arena arena')
    (leases : (before behind : List ℕ) → AreLeases arena (before ++ (former.leases ++ behind)) → AreLeases arena' (before ++ behind)) (same : unready pool'.states ≡ unready pool.states) where
  pub exchanges : (r : Kept) → CanExchange levels arena pool job level r → Exchanges levels arena pool job level r levels' arena' pool' job'
  exchanges r can = record {
    levels_are = installed ∙ ap (with_run levels level) (same_Some run r (sym taken ∙ can.held));
    job_is = kept ∙ (λ i. given_to (left i) (former_is i));
    pool_is = pool_is ∙ ap (λ (f : Kept). given_back pool f.blocks) former_is;
    arena_is = arena_is ∙ ap (λ (f : Kept). given_all arena f.leases) former_is;
    pool_fits = fits;
    others = subst (λ (f : Kept). LeavesOthers f.leases arena arena') former_is others;
    leases = λ behind is. leases [] behind (subst (λ (f : Kept). AreLeases arena (f.leases ++ behind)) (sym former_is) is);
    same_unready = same;
  }
