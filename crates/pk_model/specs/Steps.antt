-- One step of a drive on its board: a commit, a freeze, the write of a value, or a part of one.
use Rattle.std.specs.Prelude.{◌≡◌, ◌≤◌, ◌+◌, ℕ, zero, suc, Result, IfOk, IfErr, OnOk, OnErr}
use Rattle.pk_base.specs.Shape.{Shape}
use Rattle.pk_nand.{specs.declared.types.Fault.Fault, specs.declared.types.Fault.TheVariants.Stopped, specs.BoardState.BoardState, specs.Calls.IsReady, specs.Effects.Works, specs.Effects.Stops}
use Rattle.pk_model.specs.Wear.{roots}

-- at most n roots were installed
abbrev pub RootsUpTo : ℕ → BoardState → BoardState → Type 0
RootsUpTo zero old new = roots new ≡ roots old
RootsUpTo (suc n) old new = roots new ≤ roots old + suc n

-- What a step leaves, whether it ended or a call of it failed that stops the drive.
pub record Step {T : Type 0} (Ended : T → Type 0) (Broken : Type 0) (shape : Shape) (most : ℕ) (old new : BoardState) (result : Result T Fault) : Type 0 where
  -- what it is made for, if it ended
  pub ended : IfOk result Ended
  -- what is known of the cuts of a step that was broken off
  pub broken : OnErr result Broken
  pub works : OnOk result (Works old new)
  pub stops : OnErr result (Stops old new)
  pub stopped : IfErr result (λ e. e ≡ Stopped)
  pub roots_few : RootsUpTo most old new
  pub ready : IsReady new shape
