-- The steps of a freeze, and of an install.
use Rattle.std.specs.Prelude.{◌≡◌, ◌⊎◌, ℕ, ◌+◌, List, [], Bool, if◌then◌else◌, Result, OnOk}
use Rattle.pk_base.specs.Shape.{Shape}
use Rattle.pk_nand.{specs.declared.types.Fault.Fault, specs.BoardState.BoardState, specs.Operations.after_erase, specs.Effects.AtMostOneCall}
use Rattle.pk_rootfmt.specs.Root.{Root}
use Rattle.pk_model.{specs.Growth.Grows, specs.Steps.Step}

-- A step by at most one flash operation, whether it ended or the operation failed. If it ended, the tree of lists has grown.
pub record StepByCall {T : Type 0} (Ended : T → Type 0) (Broken : Type 0) (shape : Shape) (most : ℕ) (old new : BoardState) (result : Result T Fault) : Type 0 where
  pub step : Step Ended Broken shape most old new result
  pub calls : AtMostOneCall old new
  pub grows : OnOk result (Grows shape old.pages new.pages)

-- ---- roots

-- the root that follows: the next number, an empty epoch in these blocks, and the former one as the older if it has entries
abbrev pub next_root : Root → List ℕ → Bool → Root
next_root root blocks has_entries = record root {
  number = root.number + 1;
  epoch = root.epoch + 1;
  newest = blocks;
  older = if has_entries then root.newest else [];
}

-- ---- blocks

-- nothing was done, or this block was erased by one call
abbrev pub AtMostErases : ℕ → BoardState → BoardState → Type 0
AtMostErases block old new = (new ≡ old) ⊎ (new ≡ after_erase old block)
