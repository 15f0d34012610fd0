-- The call of a step: at most one, also if it failed, and none if nothing was done.
use Rattle.std.proofs.Common.{ℕ, refl, arith, Result, Ok, Err}
use Rattle.pk_base.{specs.Shape.Shape, specs.Map.Map}
use Rattle.pk_nand.{specs.declared.types.Fault.Fault, specs.BoardState.BoardState, specs.Calls.IsReady, specs.Effects.made_no_call}
use Rattle.pk_rootfmt.specs.Root.{Root}
use Rattle.pk_model.specs.Found.{Found}
use Rattle.pk_compact.specs.Steps.{StepByCall}
use Rattle.pk_schedule.{specs.Index.Index, specs.Steps.MayWork, specs.Steps.IndexMoves, specs.Steps.LessIsLeft, specs.Steps.StepsOn, specs.Steps.CallsOnce}

pub calls_one : {T : Type 0} (Ended : T → Type 0) (Broken : Type 0) (shape : Shape) (old new : BoardState) (r : Result T Fault) → StepByCall Ended Broken shape 1 old new r → CallsOnce shape old new
calls_one Ended Broken shape old new (Ok x) is = record { calls = is.calls; rest = is.step.works.rest; installs = is.step.roots_few; ready = is.step.ready }
calls_one Ended Broken shape old new (Err fault) is = record { calls = is.calls; rest = is.step.stops.rest; installs = is.step.roots_few; ready = is.step.ready }

pub calls_none : (shape : Shape) (board : BoardState) → IsReady board shape → CallsOnce shape board board
calls_none shape board ready = record { calls = made_no_call (refl, refl, refl); rest = refl; installs = omega arith; ready = ready }

-- the step was made, if it moves the index and leaves less for whatever is on the flash
pub steps_on : (x : Index) (old : BoardState) (x' : Index) (new : BoardState)
    → ((frames : ℕ) (top : ℕ × Root) (found : Found) (m : Map) → MayWork x frames old.pages top found m → IndexMoves x frames old found m x' new × LessIsLeft x x')
    → StepsOn x old x' new
steps_on x old x' new made = record {
  moves = λ frames top found m may. (made frames top found m may).0;
  less = λ frames top found m may. (made frames top found m may).1;
}
