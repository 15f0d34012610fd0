-- The pages of a commit: a pair of one block, and of no other commit.
use Rattle.std.proofs.Common.{◌≡◌, ◌≢◌, ℕ, ◌+◌, ◌-◌, ◌*◌, ◌/◌, ◌%◌, ◌<◌, ◌≤◌, ◌⊎◌, inl, inr, zero, suc, refl, sym, ap, ◌∙◌, arith, List, mod-lt, div-add-mod'}
use Rattle.std.{specs.Prelude.slice_index, proofs.lemmas.Nat.div-mul-add, proofs.Math.Nat.mul_assoc, proofs.Math.Nat.mul_comm}
use Rattle.pk_base.{specs.Shape.Shape, specs.Shape.IsShape, specs.Shape.epoch_pages, specs.Shape.epoch_commits, specs.Page.page_in, specs.Page.commit_page, proofs.EpochPages.only_index}

-- what remains of a number in its block is even if the number and the block are
pub even_rest : (x n : ℕ) → x % 2 ≡ 0 → n % 8 ≡ 0 → x % n % 2 ≡ 0
even_rest x n even eights =
    let whole : x / n * n + x % n ≡ x = div-add-mod' x n in
    let pairs : n ≡ 2 * (n / 2) = omega (arith, eights) in
    let product : x / n * n ≡ 2 * (x / n * (n / 2)) =
    ap (λ (k : ℕ). x / n * k) pairs ∙ sym (mul_assoc (x / n) 2 (n / 2)) ∙ ap (λ (k : ℕ). k * (n / 2)) (mul_comm (x / n) 2) ∙ mul_assoc 2 (x / n) (n / 2) in
    omega (arith, whole, product, even)

-- both pages of a commit are pages of the epoch
pub within : (shape : Shape) (index : ℕ) → index < epoch_commits shape → 2 * index + 1 < epoch_pages shape
within shape index inside = omega (arith, inside)

module _ (shape : Shape) (blocks : List ℕ) (is : IsShape shape) (index : ℕ) where
  -- the place of the first in its block
  pub even : (2 * index) % shape.block_pages % 2 ≡ 0
  even = even_rest (2 * index) shape.block_pages (omega arith) is.eights

  pub room : (2 * index) % shape.block_pages + 1 < shape.block_pages
  room =
      let eights : shape.block_pages % 8 ≡ 0 = is.eights in
      let least : 8 ≤ shape.block_pages = is.block_least in
      let less : (2 * index) % shape.block_pages < shape.block_pages = mod-lt (2 * index) (omega (arith, least)) in
      omega (arith, eights, less, even)

  -- the second page follows the first
  pub second : page_in shape blocks (2 * index + 1) ≡ commit_page shape blocks index + 1
  second =
      let n : ℕ = shape.block_pages in
      let whole : 2 * index / n * n + 2 * index % n ≡ 2 * index = div-add-mod' (2 * index) n in
      let quot : (2 * index / n * n + (2 * index % n + 1)) / n ≡ 2 * index / n = div-mul-add (2 * index / n) n (2 * index % n + 1) room in
      let moved : 2 * index / n * n + (2 * index % n + 1) ≡ 2 * index + 1 = omega (arith, whole) in
      let quot' : (2 * index + 1) / n ≡ 2 * index / n = sym (ap (λ (k : ℕ). k / n) moved) ∙ quot in
      let whole' : (2 * index + 1) / n * n + (2 * index + 1) % n ≡ 2 * index + 1 = div-add-mod' (2 * index + 1) n in
      let same : (2 * index + 1) / n * n ≡ 2 * index / n * n = ap (λ (k : ℕ). k * n) quot' in
      let rest : (2 * index + 1) % n ≡ 2 * index % n + 1 = omega (arith, whole, whole', same) in
      ap (λ (k : ℕ). slice_index blocks k * n + (2 * index + 1) % n) quot'
      ∙ ap (λ (k : ℕ). slice_index blocks (2 * index / n) * n + k) rest ∙ sum (slice_index blocks (2 * index / n) * n) (2 * index % n)
    where
      sum : (a b : ℕ) → a + (b + 1) ≡ a + b + 1
      sum a b = omega arith

  -- the first page is even in its block
  pub even_page : commit_page shape blocks index % shape.block_pages % 2 ≡ 0
  even_page =
      let n : ℕ = shape.block_pages in
      let b : ℕ = slice_index blocks (2 * index / n) in
      let less : 2 * index % n + 1 < n = room in
      let quot : (b * n + 2 * index % n) / n ≡ b = div-mul-add b n (2 * index % n) (omega (arith, less)) in
      let whole : (b * n + 2 * index % n) / n * n + (b * n + 2 * index % n) % n ≡ b * n + 2 * index % n = div-add-mod' (b * n + 2 * index % n) n in
      let same : (b * n + 2 * index % n) / n * n ≡ b * n = ap (λ (k : ℕ). k * n) quot in
      let rest : (b * n + 2 * index % n) % n ≡ 2 * index % n = omega (arith, whole, same) in
      ap (λ (k : ℕ). k % 2) rest ∙ even

  -- and the second page is in its block
  pub even_room : commit_page shape blocks index % shape.block_pages + 1 < shape.block_pages
  even_room =
      let n : ℕ = shape.block_pages in
      let least : 8 ≤ n = is.block_least in
      let eights : n % 8 ≡ 0 = is.eights in
      let less : commit_page shape blocks index % n < n = mod-lt (commit_page shape blocks index) (omega (arith, least)) in
      omega (arith, less, eights, even_page)

  -- both are in the block of their place
  pub block_of_pair : (k : ℕ) → commit_page shape blocks index ≤ k → k < commit_page shape blocks index + 2 → k / shape.block_pages ≡ slice_index blocks (2 * index / shape.block_pages)
  block_of_pair k low high =
      let n : ℕ = shape.block_pages in
      let b : ℕ = slice_index blocks (2 * index / n) in
      let more : 2 * index % n + 1 < n = room in
      let d : ℕ = k - b * n in
      let e : b * n + d ≡ k = omega (arith, low) in
      let less : d < n = omega (arith, low, high, more) in
      ap (λ (q : ℕ). q / n) (sym e) ∙ div-mul-add b n d less

-- of two neighbouring numbers one
first_or_second : (p first : ℕ) → first ≤ p → p < first + 2 → (p ≡ first) ⊎ (p ≡ first + 1)
first_or_second p first low high = by (p - first) (omega (arith, low)) (omega (arith, low, high))
  where
    by : (d : ℕ) → p ≡ first + d → d < 2 → (p ≡ first) ⊎ (p ≡ first + 1)
    by zero e small = inl (omega (arith, e))
    by (suc zero) e small = inr (omega (arith, e))
    by (suc (suc d)) e small = absurd (omega (arith, small))

-- no page of the epoch but these two is one of theirs
pub only_commit : (shape : Shape) (blocks : List ℕ) → IsShape shape → (index place : ℕ) → slice_index blocks 0 ≢ slice_index blocks 1 → index < epoch_commits shape → place < epoch_pages shape
    → commit_page shape blocks index ≤ page_in shape blocks place → page_in shape blocks place < commit_page shape blocks index + 2
    → (2 * index ≤ place) × (place < 2 * index + 2)
only_commit shape blocks is index place different inside small low high = by_page (page_in shape blocks place) refl low high
  where
    by_page : (p : ℕ) → page_in shape blocks place ≡ p → commit_page shape blocks index ≤ p → p < commit_page shape blocks index + 2 → (2 * index ≤ place) × (place < 2 * index + 2)
    by_page p here low high = elim (first_or_second p (commit_page shape blocks index) low high) [
      | inl first ↦
          let e : place ≡ 2 * index = only_index shape blocks (2 * index) place different (omega (arith, inside)) small (here ∙ first) in
          (omega (arith, e), omega (arith, e))
      | inr next ↦
          let e : place ≡ 2 * index + 1 = only_index shape blocks (2 * index + 1) place different (omega (arith, inside)) small (here ∙ next ∙ sym (second shape blocks is index)) in
          (omega (arith, e), omega (arith, e))
    ]
