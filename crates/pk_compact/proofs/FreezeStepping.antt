-- A step of a freeze, by how far it is.
use Rattle.std.proofs.Common.{◌≡◌, ℕ, ◌+◌, ◌<◌, ◌≤◌, [], ◌∷◌, ◌++◌, Bool, true, false, length, sym, ap, subst, Ok, Err, Result}
use Rattle.pk_base.{specs.Shape.Shape, specs.Map.Map}
use Rattle.pk_plan.specs.declared.owner.Owner.TheVariants.{Journal}
use Rattle.pk_nand.{specs.declared.types.Fault.Fault, specs.declared.types.Fault.TheVariants.Stopped, specs.BoardState.BoardState, specs.Calls.IsReady, specs.Operations.IsErasedBlock}
use Rattle.pk_nand.proofs.Effects.{stops_erase}
use Rattle.pk_rootfmt.{specs.Root.Root, specs.Held.Held}
use Rattle.pk_model.{specs.Found.Found, specs.Growth.Goes, specs.Growth.Grows, specs.Crashes.CrashFinds, specs.Crashes.background, proofs.Steps.RootsUpTo-same}
use Rattle.pk_pool.{specs.declared.state.BlockState.TheVariants.Owned, specs.Taking.FailsToErase}
use Rattle.pk_pool.specs.Blocks.{Blocks, IsShared, IsSpare, PoolOnFlash, used_by, with_state}
use Rattle.pk_root.{specs.declared.next.Next.Next, specs.Installing.erases_next}
use Rattle.pk_law_steps.specs.Roots.{frozen}
use Rattle.pk_compact.{specs.Steps.AtMostErases, specs.Steps.StepByCall, specs.Steps.next_root, specs.declared.freezing.FreezeJob.FreezeJob, proofs.Taking.works_at_most, proofs.NextRoot.roots_same}
use Rattle.pk_compact.specs.declared.freezing.FreezeJob.TheVariants.{Idle, HasTwo}
use Rattle.pk_compact.specs.Installing.{CanPrepare, Prepares, PrepareBreaks, CanInstall, InstallsRoot, InstallBreaks}
use Rattle.pk_compact.specs.FreezeSteps.{IsFreezing, FreezeGoesOn, FreezeInstalled, FreezeSteps, FreezeStepBreaks, taken_by}
use Rattle.pk_compact.proofs.Growing.{made_by, failed_by, took_calls, took_grows, erase_failed_calls}
use Rattle.pk_compact.proofs.TakingOne.{is_shape, take_goes_on, take_goes, took_number, take_failed_number}
use Rattle.pk_compact.proofs.FreezeRoot.{can_prepare, erase_goes_on, held_can, froze, epoch_few, two_newest}

-- what the pool says of a block that was taken
abbrev pub Took : Blocks → BoardState → ℕ → Blocks → BoardState → Type 0
Took pool old b pool' new = (pool' ≡ with_state pool b (Owned Journal)) × AtMostErases b old new

abbrev pub WasSpare : Blocks → ℕ → BoardState → Type 0
WasSpare pool b new = IsSpare pool b × (2 ≤ b) × (b < pool.shape.blocks) × IsErasedBlock pool.shape new.pages b

module _ {pool : Blocks} {root : Held} {next : Next} {job : FreezeJob} {has_entries : Bool} {old : BoardState} (shared : IsShared pool.shape pool.states) (ready : IsReady old root.shape)
    (may : (top : ℕ × Root) × (found : Found) × (m : Map) × IsFreezing pool root next job old.pages has_entries top found m) where
  -- the shape is the root's
  ready_by_root : (new : BoardState) → IsReady new pool.shape → IsReady new root.shape
  ready_by_root new is = let P : Shape → Type 0 = λ s. IsReady new s in subst P may.3.pool_shape is

  -- ---- a block

  module _ (few : length (taken_by job) < 2) (b : ℕ) (pool' : Blocks) (new : BoardState) (taken : Took pool old b pool' new) (spare : WasSpare pool b new)
      (counted : used_by Journal pool'.states ≡ used_by Journal pool.states + 1) (fits : PoolOnFlash pool' new.pages) (then_ready : IsReady new pool.shape) where
    goes_on : (job' : FreezeJob) → taken_by job' ≡ taken_by job ++ b ∷ [] → (top : ℕ × Root) (found : Found) (m : Map) → IsFreezing pool root next job old.pages has_entries top found m
        → FreezeGoesOn pool root next job old has_entries top found m pool' root next job' new
    goes_on job' job_is top found m is =
        let P : Blocks → Type 0 = λ p. FreezeGoesOn pool root next job old has_entries top found m p root next job' new in
        let Q : Blocks → Type 0 = λ p. PoolOnFlash p new.pages in
        let R : Blocks → Type 0 = λ p. used_by Journal p.states ≡ used_by Journal pool.states + 1 in
        subst P (sym taken.0) (take_goes_on pool root next job has_entries old shared ready top found m is few b new taken.1 spare.0
        (spare.1, spare.2) spare.3 job' job_is (subst Q taken.0 fits) (subst R taken.0 counted))

    pub took_step : (job' : FreezeJob) → taken_by job' ≡ taken_by job ++ b ∷ []
        → StepByCall (λ done. FreezeSteps pool root next job old has_entries done pool' root next job' new) (FreezeStepBreaks pool root next job has_entries old new) root.shape 1 old new (Ok false)
    took_step job' job_is =
        let number = took_number pool root next job has_entries old shared ready may.0 may.1 may.2 may.3 few b new taken.1 spare.0 (spare.1, spare.2) spare.3 in
        made_by (goes_on job' job_is) (works_at_most b old new taken.1) (RootsUpTo-same 1 old new (roots_same root.shape old new ready (ready_by_root new then_ready) number)) (ready_by_root new then_ready)
        (took_calls b old new taken.1) (took_grows root.shape (is_shape pool root next job has_entries old shared ready may.0 may.1 may.2 may.3) b old new taken.1 ready spare.1)

  -- the erase of a block failed
  pub take_broken : (pool' : Blocks) (root' : Held) (next' : Next) (job' : FreezeJob) (new : BoardState) (fault : Fault) → fault ≡ Stopped → FailsToErase pool old new → IsReady new pool.shape
      → StepByCall (λ done. FreezeSteps pool root next job old has_entries done pool' root' next' job' new) (FreezeStepBreaks pool root next job has_entries old new) root.shape 1 old new (Err fault)
  take_broken pool' root' next' job' new fault stopped f then_ready =
      let number = take_failed_number pool root next job has_entries old shared ready may.0 may.1 may.2 may.3 new f in
      failed_by (λ top found m is. take_goes pool root next job has_entries old shared ready top found m is new f) (stops_erase old new f.block f.failed) stopped
      (RootsUpTo-same 1 old new (roots_same root.shape old new ready (ready_by_root new then_ready) number)) (ready_by_root new then_ready) (erase_failed_calls old new f.block f.failed)

  -- ---- the root

  module _ (first second : ℕ) (was : job ≡ HasTwo first second) where
    at_two : (top : ℕ × Root) (found : Found) (m : Map) → IsFreezing pool root next job old.pages has_entries top found m
        → IsFreezing pool root next (HasTwo first second) old.pages has_entries top found m
    at_two top found m is = let P : FreezeJob → Type 0 = λ j. IsFreezing pool root next j old.pages has_entries top found m in subst P was is

    pub epoch_least : root.root.epoch ≤ root.root.number
    epoch_least = epoch_few pool root next first second has_entries old shared ready may.0 may.1 may.2 (at_two may.0 may.1 may.2 may.3)

    pub newest_two : length root.root.newest ≡ 2
    newest_two = two_newest pool root next first second has_entries old shared ready may.0 may.1 may.2 (at_two may.0 may.1 may.2 may.3)

    -- the erase before it, by the shape that the root has
    module _ (s : Shape) (told : s ≡ root.shape) where
      can_at : (top : ℕ × Root) (found : Found) (m : Map) → IsFreezing pool root next job old.pages has_entries top found m → CanPrepare s next old.pages top found m
      can_at top found m is = let P : Shape
          → Type 0 = λ t. CanPrepare t next old.pages top found m in subst P (sym told) (can_prepare pool root next first second has_entries old shared ready top found m (at_two top found m is))

      pub can_prepare_at : (top : ℕ × Root) × (found : Found) × (m : Map) × CanPrepare s next old.pages top found m
      can_prepare_at = (may.0, may.1, may.2, can_at may.0 may.1 may.2 may.3)

      abbrev Prepare : Shape → Next → BoardState → Result Unit Fault → Type 0
      Prepare t next' new result = StepByCall (λ u. Prepares t next old next' new) (PrepareBreaks t next old new) t 0 old new result

      pub erase_step : (next' : Next) (new : BoardState) → erases_next next ≡ true → Prepare s next' new (Ok tt)
          → StepByCall (λ done. FreezeSteps pool root next job old has_entries done pool root next' job new) (FreezeStepBreaks pool root next job has_entries old new) root.shape 1 old new (Ok false)
      erase_step next' new erases step =
          let by_root : Prepare root.shape next' new (Ok tt) = let P : Shape → Type 0 = λ t. Prepare t next' new (Ok tt) in subst P told step in
          let Q : FreezeJob → Type 0 = λ j. (top : ℕ × Root) (found : Found) (m : Map)
          → IsFreezing pool root next j old.pages has_entries top found m → FreezeGoesOn pool root next j old has_entries top found m pool root next' j new in
          made_by (subst Q (sym was) (λ top found m is. erase_goes_on pool root next first second has_entries old shared ready top found m is next' new erases
          (by_root.step.ended top found m (can_prepare pool root next first second has_entries old shared ready top found m is))))
          by_root.step.works (RootsUpTo-same 1 old new by_root.step.roots_few) by_root.step.ready by_root.calls by_root.grows

      pub erase_broken : (pool' : Blocks) (root' : Held) (next' : Next) (job' : FreezeJob) (new : BoardState) (fault : Fault) → Prepare s next' new (Err fault)
          → StepByCall (λ done. FreezeSteps pool root next job old has_entries done pool' root' next' job' new) (FreezeStepBreaks pool root next job has_entries old new) root.shape 1 old new (Err fault)
      erase_broken pool' root' next' job' new fault step =
          let by_root : Prepare root.shape next' new (Err fault) = let P : Shape → Type 0 = λ t. Prepare t next' new (Err fault) in subst P told step in
          failed_by (λ top found m is. by_root.step.broken top found m (can_prepare pool root next first second has_entries old shared ready top found m (at_two top found m is)))
          by_root.step.stops by_root.step.stopped (RootsUpTo-same 1 old new by_root.step.roots_few) by_root.step.ready by_root.calls

    -- its program
    module _ (held : Held) (followed : held ≡ record root { root = next_root root.root (first ∷ second ∷ []) has_entries }) where
      install_can : (top : ℕ × Root) (found : Found) (m : Map) → IsFreezing pool root next job old.pages has_entries top found m
          → CanInstall held.shape held.root next old.pages top found (frozen found) m
      install_can top found m is = held_can pool root next first second has_entries old shared ready top found m (at_two top found m is) held followed

      pub can_install : (top : ℕ × Root) × (found : Found) × (then_found : Found) × (m : Map) × CanInstall held.shape held.root next old.pages top found then_found m
      can_install = (may.0, may.1, frozen may.1, may.2, install_can may.0 may.1 may.2 may.3)

      same_shape : held.shape ≡ root.shape
      same_shape = ap (λ h. h.shape) followed

      abbrev Install : Next → BoardState → Result Unit Fault → Type 0
      Install next' new result = StepByCall (λ u. InstallsRoot held.shape held.root next old next' new) (InstallBreaks held.shape held.root next old new) held.shape 1 old new result

      pub root_step : (next' : Next) (new : BoardState) → Install next' new (Ok tt)
          → StepByCall (λ done. FreezeSteps pool root next job old has_entries done pool held next' Idle new) (FreezeStepBreaks pool root next job has_entries old new) root.shape 1 old new (Ok true)
      root_step next' new step =
          let P : FreezeJob → Type 0 = λ j. (top : ℕ × Root) (found : Found) (m : Map) → IsFreezing pool root next j old.pages has_entries top found m
          → FreezeInstalled pool root next j old has_entries top found m pool held.root next' Idle new in
          made_by (subst P (sym was) (λ top found m is. froze pool root next first second has_entries old shared ready top found m is held followed next' new
          (step.step.ended top found (frozen found) m (held_can pool root next first second has_entries old shared ready top found m is held followed))))
          step.step.works step.step.roots_few (subst (λ (s : Shape). IsReady new s) same_shape step.step.ready) step.calls (subst (λ (s : Shape). Grows s old.pages new.pages) same_shape step.grows)

      pub root_broken : (pool' : Blocks) (root' : Held) (next' : Next) (job' : FreezeJob) (new : BoardState) (fault : Fault) → Install next' new (Err fault)
          → StepByCall (λ done. FreezeSteps pool root next job old has_entries done pool' root' next' job' new) (FreezeStepBreaks pool root next job has_entries old new) root.shape 1 old new (Err fault)
      root_broken pool' root' next' job' new fault step =
          failed_by (λ top found m is. subst (λ (s : Shape). Goes s old new (CrashFinds s background old.pages m)) same_shape (step.step.broken top found (frozen found) m (install_can top found m is)))
          step.step.stops step.step.stopped step.step.roots_few (subst (λ (s : Shape). IsReady new s) same_shape step.step.ready) step.calls
