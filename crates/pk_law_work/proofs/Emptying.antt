-- How much whole jobs add up to.
use Rattle.std.proofs.Common.{◌≡◌, ℕ, zero, suc, ◌+◌, ◌-◌, ◌*◌, ◌<◌, ◌≤◌, arith, refl}
use Rattle.std.{proofs.Math.Nat.mul-le-mul_left, proofs.lemmas.Grind.div_ceil_times, specs.Int.div_ceil}
use Rattle.pk_base.specs.Shape.{Shape, IsShape, cap, deepest}
use Rattle.pk_law_work.{specs.Rest.whole_merge, specs.Work.emptying}

few_blocks : (blocks n pages : ℕ) → 8 ≤ n → 4 ≤ pages → blocks * n < pages + n → 2 * blocks ≤ pages
few_blocks zero n pages block some fits = omega arith
few_blocks (suc blocks) n pages block some fits =
    let eight : blocks * 8 ≤ blocks * n = mul-le-mul_left blocks block in
    omega arith

-- n pages take half as many blocks at most
pub two_blocks : (n pages : ℕ) → 8 ≤ n → 4 ≤ pages → 2 * div_ceil pages n ≤ pages
two_blocks n pages block some =
    let positive : 0 < n = omega arith in
    few_blocks (div_ceil pages n) n pages block some (div_ceil_times pages n positive).1

-- run 4 has more pages than two others together
pub deep : (shape : Shape) → 24 ≤ deepest shape
unfolding deepest
deep shape = omega arith

-- a merge reads both runs, and its output counts twice
pub merge_most : (shape : Shape) (level : ℕ) → IsShape shape → 4 ≤ cap shape level → whole_merge shape level ≤ cap shape (level - 1) + 3 * cap shape level + 8
merge_most shape level is some =
    let block : 8 ≤ shape.block_pages = is.block_least in
    let half = two_blocks shape.block_pages (cap shape level) block some in
    omega arith

-- the four merges that empty the frozen buffer
pub emptying_most : (shape : Shape) → IsShape shape → emptying shape 4 ≤ 372 + 3 * deepest shape
unfolding emptying
emptying_most shape is =
    let many : 24 ≤ deepest shape = deep shape in
    let first = merge_most shape 1 is (omega arith) in
    let second = merge_most shape 2 is (omega arith) in
    let third = merge_most shape 3 is (omega arith) in
    let fourth = merge_most shape 4 is (omega arith) in
    omega arith

pub emptying-suc : (shape : Shape) (level : ℕ) → emptying shape (suc level) ≡ emptying shape level + whole_merge shape (suc level)
unfolding emptying
emptying-suc shape level = refl

pub emptying-zero : (shape : Shape) → emptying shape zero ≡ 0
unfolding emptying
emptying-zero shape = refl

pub emptying_rises : (shape : Shape) (level : ℕ) → level ≤ 4 → emptying shape level ≤ emptying shape 4
unfolding emptying
emptying_rises shape zero few = omega arith
emptying_rises shape (suc zero) few = omega arith
emptying_rises shape (suc (suc zero)) few = omega arith
emptying_rises shape (suc (suc (suc zero))) few = omega arith
emptying_rises shape (suc (suc (suc (suc zero)))) few = omega arith
emptying_rises shape (suc (suc (suc (suc (suc level))))) few = absurd (omega arith)
