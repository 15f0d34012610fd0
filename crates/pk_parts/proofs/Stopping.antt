-- A drive that a flash operation stopped.
use Rattle.std.proofs.Common.{◌≡◌, ℕ, sym, ap, subst, ◌∙◌, true, Result, Err}
use Rattle.std.specs.Prelude.{OnErr}
use Rattle.pk_base.specs.Shape.{Shape}
use Rattle.pk_nand.{specs.declared.types.Fault.Fault, specs.declared.types.Fault.TheVariants.Reading, specs.declared.types.Fault.TheVariants.Stopped, specs.BoardState.BoardState}
use Rattle.pk_model.specs.Steps.{Step}
use Rattle.pk_parts.{specs.Parts.Parts, specs.Stopping.failed_by, specs.Stopping.StoppedOn}

module _ (f r : Fault) (d e : Parts) (same : r ≡ f) (rest : e ≡ failed_by d f) where
  pub fails_stopped : StoppedOn {T = Unit {0}} e (Err r)
  fails_stopped = subst (λ (x : Fault). StoppedOn {T = Unit {0}} e (Err x)) (sym same) (by f rest)
    where
      by : (x : Fault) → e ≡ failed_by d x → StoppedOn {T = Unit {0}} e (Err x)
      by Reading is_rest = tt
      by Stopped is_rest = ap (λ (x : Parts). x.stopped) is_rest

  -- of a step that reads nothing
  pub breaks_step : (E E' : Unit {0} → Type 0) (B : Type 0) (shape : Shape) (most : ℕ) (old new : BoardState) → Step E B shape most old new (Err f) → Step E' B shape most old new (Err r)
  breaks_step E E' B shape most old new step =
      subst (λ (x : Fault). Step E' B shape most old new (Err x)) (sym same)
      (record { ended = tt; broken = step.broken; works = tt; stops = step.stops; stopped = step.stopped; roots_few = step.roots_few; ready = step.ready })

  pub breaks_off : f ≡ Stopped → e ≡ record d { stopped = true }
  breaks_off is = rest ∙ ap (failed_by d) is

-- a commit that failed has stopped the drive
pub stopped_kept : (r : Result Unit Fault) (d e : Parts) → OnErr r (e ≡ record d { stopped = true }) → StoppedOn e r
stopped_kept (Err Stopped) d e kept = ap (λ (x : Parts). x.stopped) kept
stopped_kept r d e kept = tt
