-- How many calls it takes to make room.
use Rattle.std.proofs.Common.{◌≡◌, ℕ, ◌+◌, ◌*◌, ◌<◌, ◌≤◌, arith, inl, inr, false, leb-false}
use Rattle.std.{proofs.Math.Nat.mul-le-mul_left, proofs.Math.Nat.mul-le-mul_right, proofs.lemmas.Bool.cases_lt, proofs.lemmas.Grind.div_ceil_times, specs.Int.div_ceil}
use Rattle.pk_base.specs.Shape.{Shape, IsShape, page_entries, dense, deepest}
use Rattle.pk_law_work.{specs.Calls.room_calls, proofs.Emptying.emptying_most}
use Rattle.pk_nand.specs.BoardState.{BoardState}
use Rattle.pk_model.specs.Wear.{roots, is_worn}
use Rattle.pk_core.specs.Whole.{store_most}

-- blocks of which each has at most as many pages as one page has entries
few_pages : (blocks pages e : ℕ) → pages ≤ e → 0 < e → div_ceil (blocks * pages) e ≤ blocks
few_pages blocks pages e few some =
    let most = (div_ceil_times (blocks * pages) e some).1 in
    let all : blocks * pages ≤ blocks * e = mul-le-mul_left blocks few in
    elim (cases_lt blocks (div_ceil (blocks * pages) e)) [
      | inl more ↦ (let times : (blocks + 1) * e ≤ div_ceil (blocks * pages) e * e = mul-le-mul_right e (omega (arith, more)) in absurd (omega (arith, most, all, times)))
      | inr less ↦ less
    ]

deepest_few : (shape : Shape) → IsShape shape → deepest shape ≤ 4120
unfolding deepest
deepest_few shape is =
    let least = is.page_least in
    let few = few_pages shape.blocks (dense shape) (page_entries shape) is.moves_fit (omega (arith, least)) in
    let blocks = is.blocks_most in
    omega (arith, few, blocks)

-- making room takes fewer than 2^16 calls, with a lookup before it
pub room_few : (shape : Shape) → IsShape shape → room_calls shape + 4 ≤ 65535
room_few shape is =
    let merges = emptying_most shape is in
    let deep = deepest_few shape is in
    omega (arith, merges, deep)

dense_few : (shape : Shape) → IsShape shape → dense shape ≤ 511
dense_few shape is =
    let fit = is.moves_fit in
    let most = is.page_most in
    omega (arith, fit, most)

-- nor does a Store that waits for reclaims, with a lookup before it
pub store_few : (shape : Shape) → IsShape shape → store_most shape + 4 ≤ 65535
store_few shape is =
    let merges = emptying_most shape is in
    let deep = deepest_few shape is in
    let few = dense_few shape is in
    omega (arith, merges, deep, few)

-- so the numbers of roots last for as many more
pub numbers_last : (board : BoardState) (most : ℕ) → is_worn board ≡ false → most ≤ 65535 → roots board + most < 18446744073709551615
numbers_last board most unworn few =
    let least = leb-false 9223372036854775808 (roots board) unworn in
    omega (arith, least, few)

pub room_last : (board : BoardState) (shape : Shape) → is_worn board ≡ false → room_calls shape + 4 ≤ 65535 → roots board + room_calls shape < 18446744073709551615
room_last board shape unworn few = numbers_last board (room_calls shape) unworn (omega (arith, few))
