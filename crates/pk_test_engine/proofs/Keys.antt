-- Keys of namespace 1: bytes, and of a namespace that each drive has.
use Rattle.std.proofs.Common.{ℕ, zero, suc, ◌≤◌, List, [], ◌∷◌, length, arith}
use Rattle.pk_base.{specs.Fields.AreBytes, specs.Shape.Shape}
use Rattle.pk_rootfmt.specs.Root.{Root, limits_of}
use Rattle.pk_model.specs.RootLimits.{root_limits, root_spaces}

pub in_first_space : (bytes : List ℕ) → AreBytes bytes → AreBytes (1 ∷ bytes)
in_first_space bytes all zero = omega arith
in_first_space bytes all (suc i) = all i

pub first_space : (shape : Shape) (root : Root) → 1 ≤ root_spaces shape root
unfolding root_limits
first_space shape root = some root.limits
  where
    some : (limits : List ℕ) → 1 ≤ length (limits_of shape limits)
    some [] = omega arith
    some (l ∷ ls) = omega arith
