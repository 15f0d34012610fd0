-- The limit of a shape is the limit of a drive with one namespace.
use Rattle.std.proofs.Common.{◌≡◌, ℕ, ◌*◌, ◌/◌, ◌<◌, ◌≤◌, [], ◌∷◌, refl, arith, sum, ◌==◌, Bool, true, false, ◌||◌, not, eq-eqb}
use Rattle.std.{specs.Prelude.bytes_eq, specs.List.list_any, proofs.Math.Nat.mul-pos}
use Rattle.pk_base.specs.Shape.{Shape, IsShape, data_blocks, limit}
use Rattle.pk_space.specs.Limits.{AcceptsLimits, has_no_room}

not_zero : (n : ℕ) → 1 ≤ n → list_any (λ l. l == 0) (n ∷ []) ≡ false
not_zero n some = grind (arith, some)

alone : (n : ℕ) → sum (n ∷ []) ≤ n
alone n = omega arith

dense_some : (n : ℕ) → 8 ≤ n → 0 < 3 * n / 4
dense_some n least = omega (arith, least)

limit_some : (shape : Shape) → IsShape shape → 3 ≤ data_blocks shape → 1 ≤ limit shape
unfolding limit
limit_some shape is data_least = mul-pos (omega (arith, data_least)) (dense_some shape.block_pages is.block_least)

one_limit : (b : Bool) (n : ℕ) → (b || bytes_eq (n ∷ []) (n ∷ [])) ≡ true
one_limit true n = refl
one_limit false n = rw (eq-eqb n n refl) refl

pub accepts_whole : (shape : Shape) → IsShape shape → 3 ≤ data_blocks shape → AcceptsLimits shape (limit shape ∷ [])
accepts_whole shape is data_least = record {
  some = omega arith;
  most = omega arith;
  no_zero = not_zero (limit shape) (limit_some shape is data_least);
  within = alone (limit shape);
  room = one_limit (not (has_no_room shape)) (limit shape);
}
