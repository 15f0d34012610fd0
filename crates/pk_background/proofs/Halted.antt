-- What was done by steps of which one failed, when the drive is stopped if it has to be.
use Rattle.std.proofs.Common.{◌≡◌, ℕ, sym, ap, subst, ◌∙◌, Err}
use Rattle.pk_base.specs.Shape.{Shape}
use Rattle.pk_nand.{specs.declared.types.Fault.Fault, specs.declared.types.Fault.TheVariants.Reading, specs.declared.types.Fault.TheVariants.Stopped, specs.BoardState.BoardState}
use Rattle.pk_parts.{specs.Parts.Parts, specs.Stopping.failed_by, proofs.Stopping.breaks_off}
use Rattle.pk_background.{specs.Emptying.Came, specs.Emptying.StepOrRead, specs.Emptying.OnRunning, specs.Pairing.FinishesOr}

module _ (f r : Fault) (d e : Parts) (same : r ≡ f) (rest : e ≡ failed_by d f) where
  -- what holds of a drive that runs on
  pub fails_running : (Q : Parts → Type 0) → OnRunning {T = Unit {0}} (Q d) (Err f) → OnRunning {T = Unit {0}} (Q e) (Err r)
  fails_running Q is = subst (λ (x : Fault). OnRunning {T = Unit {0}} (Q e) (Err x)) (sym same) (by f rest is)
    where
      by : (x : Fault) → e ≡ failed_by d x → OnRunning {T = Unit {0}} (Q d) (Err x) → OnRunning {T = Unit {0}} (Q e) (Err x)
      by Reading is_rest q = subst Q (sym is_rest) q
      by Stopped is_rest q = tt

  pub fails_step : (E E' : Unit {0} → Type 0) (K : Parts → Type 0) (B : Type 0) (shape : Shape) (most : ℕ) (old new : BoardState)
      → StepOrRead E (K d) B shape most old new (Err f) → StepOrRead E' (K e) B shape most old new (Err r)
  fails_step E E' K B shape most old new step =
      subst (λ (x : Fault). StepOrRead E' (K e) B shape most old new (Err x)) (sym same)
      (record { came = by f rest step.came; rest = step.rest; reads = step.reads; roots_few = step.roots_few; ready = step.ready })
    where
      by : (x : Fault) → e ≡ failed_by d x → Came E (K d) B old new (Err x) → Came E' (K e) B old new (Err x)
      by Reading is_rest came = (subst K (sym is_rest) came.0, came.1)
      by Stopped is_rest came = came

  -- the second program of a pair
  pub fails_half : (b : Parts) (old new : BoardState) → FinishesOr b d old new (Err f) → FinishesOr b e old new (Err r)
  fails_half b old new is = (same ∙ is.0, ap (λ (x : Parts). x.log.pending) (breaks_off f r d e same rest is.0) ∙ is.1, is.2)
