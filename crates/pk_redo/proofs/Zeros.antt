-- Counts of zeros, and bytes that may be lost to a zero.
use Rattle.std.proofs.Common.{◌≡◌, ◌≢◌, ◌⊎◌, ℕ, zero, suc, ◌+◌, ◌<◌, ◌≤◌, cond, eqb, List, slice_index, sym, refl, ◌∙◌, ap, inl, inr, arith, add-one}
use Rattle.std.proofs.lemmas.Bool.{cases_eq, cond-true, cond-false, eq-eqb, ne_eqb}
use Rattle.pk_redo.specs.Bytes.{number_in, zeros_in}
use Rattle.pk_redo.proofs.Numbers.{four_bytes}

-- a byte that is there or was lost
abbrev pub Faint : ℕ → ℕ → Type 0
Faint a b = (a ≡ 0) ⊎ (a ≡ b)

abbrev pub bit : ℕ → ℕ
bit a = cond (eqb a 0) 1 0

pub bit_of : (a : ℕ) → ((a ≡ 0) × (bit a ≡ 1)) ⊎ ((a ≢ 0) × (bit a ≡ 0))
bit_of a = elim (cases_eq a 0) [ inl none ↦ inl (none, cond-true _ 1 0 (eq-eqb a 0 none)) | inr some ↦ inr (some, cond-false _ 1 0 (ne_eqb a 0 some)) ]

pub faint_le : (a b : ℕ) → Faint a b → a ≤ b
faint_le a b h = omega arith

faint_bits : (a b : ℕ) → Faint a b → (bit b ≤ bit a) × (bit a ≤ bit b → a ≡ b)
faint_bits a b h =
    elim (bit_of a) [
      | inl x ↦ elim (bit_of b) [ inl y ↦ (omega arith, λ few. omega arith) | inr y ↦ (omega arith, λ few. omega arith) ]
      | inr x ↦ elim (bit_of b) [ inl y ↦ (omega arith, λ few. omega arith) | inr y ↦ (omega arith, λ few. omega arith) ]
    ]

pub zeros-none : (b : List ℕ) (at : ℕ) → zeros_in b at 0 ≡ 0
unfolding zeros_in
zeros-none b at = refl

pub zeros-suc : (b : List ℕ) (at n : ℕ) → zeros_in b at (suc n) ≡ zeros_in b at n + bit (slice_index b (at + n))
unfolding zeros_in
zeros-suc b at n = refl

pub zeros-more : (b : List ℕ) (at n : ℕ) → zeros_in b at (n + 1) ≡ zeros_in b at n + bit (slice_index b (at + n))
zeros-more b at n = rw add-one (zeros-suc b at n)

bit_le : (a : ℕ) → bit a ≤ 1
bit_le a = elim (bit_of a) [ inl x ↦ omega arith | inr x ↦ omega arith ]

pub zeros_few : (b : List ℕ) (at n : ℕ) → zeros_in b at n ≤ n
zeros_few b at zero = omega (arith, zeros-none b at)
zeros_few b at (suc n) = omega (arith, zeros-suc b at n, zeros_few b at n, bit_le (slice_index b (at + n)))

-- n bytes have at most so many zeros fewer than more of them as they are fewer
pub zeros_later : (b : List ℕ) (at n k : ℕ) → zeros_in b at (n + k) ≤ zeros_in b at n + k
zeros_later b at n zero = let none : n + 0 ≡ n = omega arith in omega (arith, ap (zeros_in b at) none)
zeros_later b at n (suc k) =
    let here : n + suc k ≡ suc (n + k) = omega arith in
    rw here (omega (arith, zeros-suc b at (n + k), zeros_later b at n k, bit_le (slice_index b (at + (n + k)))))

-- the zeros of n bytes, and of k after them
pub zeros_split : (b : List ℕ) (at n k : ℕ) → zeros_in b at (n + k) ≡ zeros_in b at n + zeros_in b (at + n) k
zeros_split b at n zero = let none : n + 0 ≡ n = omega arith in omega (arith, ap (zeros_in b at) none, zeros-none b (at + n))
zeros_split b at n (suc k) =
    let here : n + suc k ≡ suc (n + k) = omega arith in
    let place : at + (n + k) ≡ at + n + k = omega arith in
    rw here (omega (arith, zeros-suc b at (n + k), zeros_split b at n k, zeros-suc b (at + n) k, ap (λ (p : ℕ). bit (slice_index b p)) place))

-- the same bytes have the same zeros
pub same_zeros : (x y : List ℕ) (a b n : ℕ) → ((i : ℕ) → i < n → slice_index x (a + i) ≡ slice_index y (b + i)) → zeros_in x a n ≡ zeros_in y b n
same_zeros x y a b zero h = zeros-none x a ∙ sym (zeros-none y b)
same_zeros x y a b (suc n) h =
    omega (arith, zeros-suc x a n, zeros-suc y b n, same_zeros x y a b n (λ i low. h i (omega arith)), ap bit (h n (omega arith)))

module _ (x y : List ℕ) (a b : ℕ) where
  -- a byte that is lost adds a zero
  pub faint_zeros : (n : ℕ) → ((i : ℕ) → i < n → Faint (slice_index x (a + i)) (slice_index y (b + i))) → zeros_in y b n ≤ zeros_in x a n
  faint_zeros zero h = omega (arith, zeros-none x a, zeros-none y b)
  faint_zeros (suc n) h =
      omega (arith, zeros-suc x a n, zeros-suc y b n, faint_zeros n (λ i low. h i (omega arith)), (faint_bits _ _ (h n (omega arith))).0)

  -- if none was added, none was lost
  pub none_lost : (n : ℕ) → ((i : ℕ) → i < n → Faint (slice_index x (a + i)) (slice_index y (b + i))) → zeros_in x a n ≤ zeros_in y b n
      → (i : ℕ) → i < n → slice_index x (a + i) ≡ slice_index y (b + i)
  none_lost zero h few i low = absurd (omega arith)
  none_lost (suc n) h few i low =
      let bits = faint_bits _ _ (h n (omega arith)) in
      let before = faint_zeros n (λ j below. h j (omega arith)) in
      let sum_x = zeros-suc x a n in
      let sum_y = zeros-suc y b n in
      elim (cases_eq i n) [
        | inl last ↦ rw last (bits.1 (omega (arith, sum_x, sum_y)))
        | inr other ↦ none_lost n (λ j below. h j (omega arith)) (omega (arith, bits.0, sum_x, sum_y)) i (omega arith)
      ]

  -- a number whose bytes may be lost is no greater, and if it is no smaller none was lost
  pub faint_number : ((i : ℕ) → i < 4 → Faint (slice_index x (a + i)) (slice_index y (b + i)))
      → (number_in x a ≤ number_in y b) × (number_in y b ≤ number_in x a → (i : ℕ) → i < 4 → slice_index x (a + i) ≡ slice_index y (b + i))
  faint_number h =
      let p = faint_le _ _ (h 0 (omega arith)) in
      let q = faint_le _ _ (h 1 (omega arith)) in
      let r = faint_le _ _ (h 2 (omega arith)) in
      let s = faint_le _ _ (h 3 (omega arith)) in
      let is_x = four_bytes x a in
      let is_y = four_bytes y b in (
        omega (arith, p, q, r, s, is_x, is_y),
        λ back i below. elim (cases_eq i 0) [
          | inl e ↦ rw e (omega (arith, p, q, r, s, is_x, is_y, back))
          | inr none ↦ elim (cases_eq i 1) [
            | inl e ↦ rw e (omega (arith, p, q, r, s, is_x, is_y, back))
            | inr one ↦ elim (cases_eq i 2) [
              | inl e ↦ rw e (omega (arith, p, q, r, s, is_x, is_y, back))
              | inr two ↦ let e : i ≡ 3 = omega arith in rw e (omega (arith, p, q, r, s, is_x, is_y, back))
            ]
          ]
        ],
      )
