-- Pages of a value within their block.
use Rattle.std.proofs.Common.{◌≡◌, ℕ, suc, ◌+◌, ◌*◌, ◌/◌, ◌%◌, ◌<◌, ◌≤◌, subst, arith, div-add-mod'}
use Rattle.std.{proofs.Math.Nat.div-lt_iff_lt-mul, proofs.Math.Nat.mul-le-mul_right, proofs.Math.Nat.suc-mul, proofs.Math.Nat.mul_comm, proofs.lemmas.Nat.div-mul-add}
use Rattle.pk_base.{specs.Entry.Place, specs.EntryChecks.IsPlace, specs.Shape.Shape, specs.Shape.IsShape, specs.Shape.page_count, specs.Shape.charge}

-- the block of a page exists
pub block_exists : (n m page : ℕ) → 0 < n → page < n * m → page / n < m
block_exists n m page some less = (div-lt_iff_lt-mul {x = page} {y = m} some).1 (omega (arith, less, mul_comm n m))

-- a page that is after another one in its block
pub page_exists : (n m page i c : ℕ) → 0 < n → page < n * m → page % n + c ≤ n → i < c → page + i < n * m
page_exists n m page i c some less room within =
    let block : page / n < m = block_exists n m page some less in
    let end : suc (page / n) * n ≤ m * n = mul-le-mul_right n block in
    omega (arith, end, suc-mul (page / n) n, div-add-mod' page n, mul_comm n m, room, within)

-- and has the same block
pub same_block : (n page i c : ℕ) → page % n + c ≤ n → i < c → (page + i) / n ≡ page / n
same_block n page i c room within =
    let e : page / n * n + (page % n + i) ≡ page + i = omega (arith, div-add-mod' page n) in
    subst (λ (k : ℕ). k / n ≡ page / n) e (div-mul-add (page / n) n (page % n + i) (omega (arith, room, within)))

pub value_exists : (shape : Shape) (place : Place) (i : ℕ) → IsShape shape → IsPlace shape place → i < charge shape place.len → place.page + i < page_count shape
value_exists shape place i is_shape is within =
    let least : 8 ≤ shape.block_pages = is_shape.block_least in
    page_exists shape.block_pages shape.blocks place.page i (charge shape place.len) (omega (arith, least)) is.exists is.inside within
