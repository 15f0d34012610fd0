-- The result of a change of the map, by its outcome.
use Rattle.std.proofs.Common.{◌≡◌, ℕ, ap, sym, ◌∙◌, arith, false, Result, Ok, Err}
use Rattle.std.specs.Prelude.{OnOk}
use Rattle.pk_nand.{specs.declared.types.Fault.Fault, specs.declared.types.Fault.TheVariants.Reading, specs.declared.types.Fault.TheVariants.Stopped}
use Rattle.pk_call.specs.declared.types.Outcome.{Outcome}
use Rattle.pk_parts.specs.Parts.{Parts}
use Rattle.pk_background.specs.Emptying.{OnRunning}
use Rattle.pk_core.{specs.Serving.outcome_for, proofs.Executing.never}

read_error : ◌≡◌ {A = ℕ} 0x88 0 → ⊥
read_error e = omega (arith, e)

-- if the drive was not stopped
pub came_running : (P : Parts → Type 0) (r : Result Unit Fault) (e : Parts) (o : Outcome) (reads : ℕ) → o ≡ outcome_for r reads → OnRunning (P e) r → o.stopped ≡ false → P e
came_running P (Ok u) e o reads told is runs = is
came_running P (Err Reading) e o reads told is runs = is
came_running P (Err Stopped) e o reads told is runs = absurd (never (ap (λ (x : Outcome). x.stopped) told) runs)

-- if it was served
pub came_served : (P : Parts → Type 0) (r : Result Unit Fault) (e : Parts) (o : Outcome) (reads : ℕ) → o ≡ outcome_for r reads → OnOk r (P e) → o.status ≡ 0 → P e
came_served P (Ok u) e o reads told is zero = is
came_served P (Err Reading) e o reads told is zero = absurd (read_error (sym (ap (λ (x : Outcome). x.status) told) ∙ zero))
came_served P (Err Stopped) e o reads told is zero = absurd (read_error (sym (ap (λ (x : Outcome). x.status) told) ∙ zero))
