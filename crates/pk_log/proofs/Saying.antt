-- What a call of a part did, said of the log.
use Rattle.std.proofs.Common.{ℕ, Ok, Err}
use Rattle.pk_base.specs.Shape.{Shape}
use Rattle.pk_nand.{specs.declared.types.Fault.Fault, specs.BoardState.BoardState}
use Rattle.pk_compact.specs.Steps.{StepByCall}

module _ {T U : Type 0} (E : T → Type 0) (E' : U → Type 0) (B B' : Type 0) (shape : Shape) (n : ℕ) (old new : BoardState) where
  pub says_ended : (x : T) (y : U) → (E x → E' y) → StepByCall E B shape n old new (Ok x) → StepByCall E' B' shape n old new (Ok y)
  says_ended x y says once = search (once.step)

  pub says_broken : (e : Fault) → (B → B') → StepByCall E B shape n old new (Err e) → StepByCall E' B' shape n old new (Err e)
  says_broken e says once = search (once.step)
