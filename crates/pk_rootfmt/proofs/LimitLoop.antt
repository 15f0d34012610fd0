-- Steps of the loops over limits.
use Rattle.std.proofs.Common.{◌≡◌, ℕ, zero, suc, ◌+◌, ◌-◌, ◌*◌, ◌<◌, Bool, true, false, List, [], ◌∷◌, drop, refl, sym, ap, ◌∙◌, arith, Some, None}
use Rattle.std.{specs.Prelude.nat_le, specs.Prelude.nat_lt, specs.Prelude.◌==◌, specs.Prelude.◌&&◌, specs.Prelude.if◌then◌else◌, proofs.lemmas.Bool.Decides.nat_tests, proofs.lemmas.List.drop-drop}
use Rattle.pk_base.{specs.Fields.u32_at, specs.FieldFaults.unless, specs.FieldFaults.first_fault}
use Rattle.pk_rootfmt.{specs.Root.u32s_at, specs.Fault.limits_fault, proofs.LoopLemmas.first_stops, proofs.LoopLemmas.first_goes}

-- the numbers that remain begin with the one here
words_left : (page : List ℕ) (i : ℕ) → i < 8 → u32s_at (8 - i) (drop (64 + 4 * i) page) ≡ u32_at page (64 + 4 * i) ∷ u32s_at (8 - (i + 1)) (drop (64 + 4 * (i + 1)) page)
words_left page i less =
    let e : 8 - i ≡ suc (8 - (i + 1)) = omega arith in
    let next : (64 + 4 * i) + 4 ≡ 64 + 4 * (i + 1) = omega arith in
    ap (λ (k : ℕ). u32s_at k (drop (64 + 4 * i) page)) e
    ∙ ap (λ (r : List ℕ). u32_at page (64 + 4 * i) ∷ u32s_at (8 - (i + 1)) r) (drop-drop 4 (64 + 4 * i) page ∙ ap (λ (k : ℕ). drop k page) next)

-- the test of a number, and what remains after it
abbrev pub test : Bool → ℕ → ℕ → Bool
test is_limit left x = if is_limit then nat_le 1 x && nat_le x left else x == 0

abbrev pub rest : Bool → ℕ → ℕ → ℕ
rest is_limit left x = if is_limit then left - x else left

one : (at left n x : ℕ) (xs : List ℕ) (is_limit : Bool) → nat_lt 0 n ≡ is_limit
    → limits_fault at left n (x ∷ xs) ≡ first_fault (unless at (test is_limit left x) ∷ limits_fault (at + 4) (rest is_limit left x) (n - 1) xs ∷ [])
one at left zero x xs true e = cc
one at left zero x xs false e = let none : 0 ≡ 0 - 1 = omega arith in ap (λ (k : ℕ). first_fault (unless at (x == 0) ∷ limits_fault (at + 4) left k xs ∷ [])) none
one at left (suc n) x xs true e = let same : n ≡ suc n - 1 = omega arith in ap (λ (k : ℕ). first_fault (unless at (nat_le 1 x && nat_le x left) ∷ limits_fault (at + 4) (left - x) k xs ∷ [])) same
one at left (suc n) x xs false e = absurd (apart n e)
  where
    apart : (n : ℕ) → nat_lt 0 (suc n) ≡ false → ⊥
    apart n e = grind (arith, nat_tests)

module _ (page : List ℕ) (i count left : ℕ) (less : i < 8) where
  abbrev here : ℕ
  here = u32_at page (64 + 4 * i)

  is_limit : nat_lt 0 (count - i) ≡ nat_lt i count
  is_limit = grind (arith, nat_tests)

  step : limits_fault (64 + 4 * i) left (count - i) (u32s_at (8 - i) (drop (64 + 4 * i) page))
      ≡ first_fault (unless (64 + 4 * i) (test (nat_lt i count) left here) ∷ limits_fault (64 + 4 * (i + 1))
      (rest (nat_lt i count) left here) (count - (i + 1)) (u32s_at (8 - (i + 1)) (drop (64 + 4 * (i + 1)) page)) ∷ [])
  step =
      let next : (64 + 4 * i) + 4 ≡ 64 + 4 * (i + 1) = omega arith in
      let fewer : count - i - 1 ≡ count - (i + 1) = omega arith in
      ap (limits_fault (64 + 4 * i) left (count - i)) (words_left page i less)
      ∙ one (64 + 4 * i) left (count - i) here (u32s_at (8 - (i + 1)) (drop (64 + 4 * (i + 1)) page)) (nat_lt i count) is_limit
      ∙ ap (λ (k : ℕ). first_fault (unless (64 + 4 * i) (test (nat_lt i count) left here) ∷ limits_fault k
      (rest (nat_lt i count) left here) (count - i - 1) (u32s_at (8 - (i + 1)) (drop (64 + 4 * (i + 1)) page)) ∷ [])) next
      ∙ ap (λ (k : ℕ). first_fault (unless (64 + 4 * i) (test (nat_lt i count) left here) ∷ limits_fault
      (64 + 4 * (i + 1)) (rest (nat_lt i count) left here) k (u32s_at (8 - (i + 1)) (drop (64 + 4 * (i + 1)) page)) ∷ [])) fewer

  pub limit_stop : test (nat_lt i count) left here ≡ false → limits_fault (64 + 4 * i) left (count - i) (u32s_at (8 - i) (drop (64 + 4 * i) page)) ≡ Some (64 + 4 * i)
  limit_stop e = step ∙ first_stops (64 + 4 * i) _ _ e

  pub limit_more : test (nat_lt i count) left here ≡ true
      → limits_fault (64 + 4 * (i + 1)) (rest (nat_lt i count) left here) (count - (i + 1))
      (u32s_at (8 - (i + 1)) (drop (64 + 4 * (i + 1)) page)) ≡ limits_fault (64 + 4 * i) left (count - i) (u32s_at (8 - i) (drop (64 + 4 * i) page))
  limit_more e = sym (step ∙ first_goes (64 + 4 * i) _ _ e)

-- after the last of them
pub limit_end : (page : List ℕ) (count left i : ℕ) → 8 ≡ i → limits_fault (64 + 4 * i) left (count - i) (u32s_at (8 - i) (drop (64 + 4 * i) page)) ≡ None
limit_end page count left i e =
    let zero_left : 8 - i ≡ 0 = omega (arith, e) in
    ap (λ (n : ℕ). limits_fault (64 + 4 * i) left (count - i) (u32s_at n (drop (64 + 4 * i) page))) zero_left ∙ none (64 + 4 * i) left (count - i)
  where
    none : (at left n : ℕ) → limits_fault at left n [] ≡ None
    none at left zero = refl
    none at left (suc n) = refl
