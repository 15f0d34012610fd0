-- The live pages of all namespaces, and what a port of the first one sees.
use Rattle.std.specs.Prelude.{◌≡◌, ℕ, ◌≤◌, List, length, sum}
use Rattle.pk_base.{specs.Shape.Shape, specs.Map.Map, specs.Map.live}
use Rattle.pk_model.specs.Spaces.{limit_of, in_space, AreInSpaces}
use Rattle.pk_law_isolation.specs.Isolation.{map_alone}

-- if each namespace keeps within its limit, all of them keep within the sum of the limits
abbrev pub WithinSum : Type 0
WithinSum =
    (shape : Shape) (limits : List ℕ) (m : Map) → AreInSpaces (length limits) m
    → ((space : ℕ) → 1 ≤ space → space ≤ length limits → live shape (in_space space m) ≤ limit_of limits space) → live shape m ≤ sum limits

-- the first namespace alone is that part of the map
abbrev pub FirstIsPart : Type 0
FirstIsPart = (m : Map) → map_alone 1 m ≡ in_space 1 m
