-- What a step that keeps the map leaves for the next.
use Rattle.std.proofs.Common.{◌≡◌, ◌+◌, ◌<◌, sym, ap, subst, arith}
use Rattle.pk_base.{specs.Map.Map, specs.Shape.Shape}
use Rattle.pk_nand.specs.BoardState.{BoardState}
use Rattle.pk_model.specs.Wear.{roots}
use Rattle.pk_law_work.specs.Calls.{room_calls}
use Rattle.pk_parts.{specs.Parts.Parts, specs.Moves.StandsFor, specs.Moves.KeepsAll}

-- the numbers of roots suffice after a step that installs none
pub still_numbers : (a b : Parts) (old new : BoardState) → b.log.shape ≡ a.log.shape → roots new ≡ roots old
    → roots old + room_calls a.log.shape < 18446744073709551615 → roots new + room_calls b.log.shape < 18446744073709551615
still_numbers a b old new shapes same few = let calls : room_calls b.log.shape ≡ room_calls a.log.shape = ap room_calls shapes in omega (arith, same, few, calls)

-- a step that keeps the map leaves a drive that represents it
pub stands_after : (a b : Parts) (old new : BoardState) → (m : Map) × StandsFor a a.log.shape old.pages m
    → b.log.shape ≡ a.log.shape → KeepsAll a b old new → (m : Map) × StandsFor b b.log.shape new.pages m
stands_after a b old new was same keeps =
    (was.0, subst (λ (s : Shape). StandsFor b s new.pages was.0) (sym same) (keeps a.log.shape was.0 was.1).stands)
