-- A block with few live pages.
use Rattle.std.proofs.Common.{◌≡◌, inl, inr, ℕ, suc, ◌+◌, ◌*◌, ◌<◌, ◌≤◌, List, [], ◌∷◌, length, arith, ap}
use Rattle.std.{specs.Prelude.sum, specs.Prelude.slice_index, proofs.Math.Nat.suc-mul, proofs.lemmas.Bool.cases_lt, proofs.lemmas.List.Sums.sum_by-cons}
use Rattle.pk_base.specs.Shape.{meta_blocks, data_blocks, limit, dense}
use Rattle.pk_law_work.specs.Laws.{LightVictim}

sum-cons : (x : ℕ) (xs : List ℕ) → sum (x ∷ xs) ≡ x + sum xs
sum-cons x xs = sum_by-cons (λ y. y) x xs

-- of numbers of which the sum is small, one is
light : (d : ℕ) (xs : List ℕ) → 0 < length xs → sum xs ≤ length xs * d → (i : ℕ) × (i < length xs) × (slice_index xs i ≤ d)
light d [] some few = absurd (omega arith)
light d (x ∷ []) some few = (0, omega arith, omega (arith, sum-cons x [], suc-mul 0 d))
light d (x ∷ (y ∷ ys)) some few = elim (cases_lt d x) [
  | inl more ↦
      let rest : sum (y ∷ ys) ≤ length (y ∷ ys) * d = omega (arith, sum-cons x (y ∷ ys), suc-mul (length (y ∷ ys)) d) in
      let found = light d (y ∷ ys) (omega arith) rest in
      (suc found.0, omega arith, found.2)
  | inr enough ↦ (0, omega arith, enough)
]

pub light_victim : LightVictim
unfolding data_blocks limit
light_victim shape live is all few =
    let fits : 9 + meta_blocks shape ≤ shape.blocks = is.data_fits in
    let some : 0 < length live = omega arith in
    light (dense shape) live some (let e = ap (λ n. n * dense shape) all in omega arith)
