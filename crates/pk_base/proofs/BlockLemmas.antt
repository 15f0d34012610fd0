-- Rows of pages: a block is the row of n pages that begins at a multiple of n.
use Rattle.std.proofs.Common.{◌≡◌, ℕ, suc, ◌+◌, ◌-◌, ◌*◌, ◌/◌, ◌<◌, ◌≤◌, arith, subst, suc-mul, div-add-mod', mod-lt}
use Rattle.std.{proofs.Math.Nat.mul-le-mul_right, proofs.lemmas.Nat.div-mul-add}

pub apart : (a b n : ℕ) → a < b → a * n + n ≤ b * n
apart a b n h = omega (arith, mul-le-mul_right {m = suc a} {n = b} n (omega arith), suc-mul a n)

pub in_block : (n block k : ℕ) → block * n ≤ k → k < block * n + n → k / n ≡ block
in_block n block k low high =
    let rest : k - block * n < n = omega (arith, low, high) in
    let whole : block * n + (k - block * n) ≡ k = omega (arith, low) in
    let P : ℕ → Type 0 = λ j. j / n ≡ block in
    subst P whole (div-mul-add block n (k - block * n) rest)

pub of_block : (n block k : ℕ) → 0 < n → k / n ≡ block → (block * n ≤ k) × (k < block * n + n)
of_block n block k some is =
    let P : ℕ → Type 0 = λ q. (q * n ≤ k) × (k < q * n + n) in
    let small = mod-lt k some in
    let whole = div-add-mod' k n in
    subst P is (omega (arith, whole), omega (arith, whole, small))
