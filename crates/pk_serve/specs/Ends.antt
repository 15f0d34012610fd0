-- How serving ends, and why.
use Rattle.std.specs.Prelude.{◌≡◌}
use Rattle.pk_nand.{specs.BoardState.BoardState, specs.Calls.Rose}
use Rattle.pk_serve.specs.declared.end.End.{End}
use Rattle.pk_serve.specs.declared.end.End.TheVariants.{Done, Truncated, Input, Output, Flash, Worn}

-- no count of faults of the output, or of a program or an erase, has changed
pub record NoFaults (a b : BoardState) : Type 0 where
  pub output : b.out_faults ≡ a.out_faults
  pub stop : b.stop_faults ≡ a.stop_faults

-- The output or the flash failed. No other end comes so.
abbrev pub HasCause : BoardState → BoardState → End → Type 0
HasCause a b Done = ⊥
HasCause a b Truncated = ⊥
HasCause a b Input = ⊥
HasCause a b Output = Rose a.out_faults b.out_faults
HasCause a b Flash = Rose a.stop_faults b.stop_faults
HasCause a b Worn = ⊥

-- the output or the flash failed
abbrev pub IsFault : End → Type 0
IsFault Done = ⊥
IsFault Truncated = ⊥
IsFault Input = ⊥
IsFault Output = Unit {0}
IsFault Flash = Unit {0}
IsFault Worn = ⊥

-- What the counts of faults show of an end, whatever the drive represents: the input, the output, or a program or an erase failed if it
-- says so, and none of them did if it does not.
abbrev pub Blames : BoardState → BoardState → End → Type 0
Blames a b Done = (b.in_faults ≡ a.in_faults) × NoFaults a b
Blames a b Truncated = (b.in_faults ≡ a.in_faults) × NoFaults a b
Blames a b Input = Rose a.in_faults b.in_faults × NoFaults a b
Blames a b Output = Rose a.out_faults b.out_faults
Blames a b Flash = Rose a.stop_faults b.stop_faults
Blames a b Worn = (b.in_faults ≡ a.in_faults) × NoFaults a b
