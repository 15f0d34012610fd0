-- Tests over consecutive numbers, and lists in which no number occurs twice.
use Rattle.std.proofs.Common.{◌≡◌, inl, inr, ℕ, zero, suc, ◌+◌, ◌<◌, ◌≤◌, Bool, true, false, not, ◌&&◌, ◌||◌, List, [], ◌∷◌, ◌++◌, refl, subst, ◌∙◌, arith, ◌==◌}
use Rattle.std.{specs.List.list_any, specs.List.list_all, specs.List.range_with_len, proofs.lemmas.List.Folds.list_any-append}
use Rattle.std.proofs.lemmas.Bool.{false≢true, or_from, or_cases, or_left, or_right, and_from, and_left, not_from_false, eqb-true, eq-eqb, cases_lt, cases_eq, false_from_ne_true}
use Rattle.pk_rootfmt.specs.Root.{differ}

-- ---- consecutive numbers

here_is : (P : ℕ → Type 0) (a : ℕ) → P (a + 0) → P a
here_is P a h = let e : a + 0 ≡ a = omega arith in subst P e h

next_is : (P : ℕ → Type 0) (a i : ℕ) → P (a + suc i) → P ((a + 1) + i)
next_is P a i h = let e : a + suc i ≡ (a + 1) + i = omega arith in subst P e h

any_none : (p : ℕ → Bool) (a n : ℕ) → ((i : ℕ) → i < n → p (a + i) ≡ false) → list_any p (range_with_len a n) ≡ false
any_none p a zero each = refl
any_none p a (suc n) each =
    or_from (p a) (list_any p (range_with_len (a + 1) n)) (here_is (λ k. p k ≡ false) a (each 0 (omega arith)))
    (any_none p (a + 1) n (λ i less. next_is (λ k. p k ≡ false) a i (each (suc i) (omega arith))))

any_one : (p : ℕ → Bool) (a n i : ℕ) → i < n → p (a + i) ≡ true → list_any p (range_with_len a n) ≡ true
any_one p a zero i less is = absurd (omega arith)
any_one p a (suc n) zero less is = or_left (p a) (list_any p (range_with_len (a + 1) n)) (here_is (λ k. p k ≡ true) a is)
any_one p a (suc n) (suc i) less is = or_right (p a) (list_any p (range_with_len (a + 1) n)) (any_one p (a + 1) n i (omega arith) (next_is (λ k. p k ≡ true) a i is))

all_pass : (p : ℕ → Bool) (a n : ℕ) → ((i : ℕ) → i < n → p (a + i) ≡ true) → list_all p (range_with_len a n) ≡ true
all_pass p a zero each = refl
all_pass p a (suc n) each =
    and_from (p a) (list_all p (range_with_len (a + 1) n)) (here_is (λ k. p k ≡ true) a (each 0 (omega arith)))
    (all_pass p (a + 1) n (λ i less. next_is (λ k. p k ≡ true) a i (each (suc i) (omega arith))))

first_fails : (p : ℕ → Bool) (a n : ℕ) → 0 < n → p a ≡ false → list_all p (range_with_len a n) ≡ false
first_fails p a zero some is = absurd (omega arith)
first_fails p a (suc n) some is = and_left (p a) (list_all p (range_with_len (a + 1) n)) is

-- a test that has one answer at each of them
pub any_same : (p : ℕ → Bool) (a n : ℕ) (b : Bool) → 0 < n → ((i : ℕ) → i < n → p (a + i) ≡ b) → list_any p (range_with_len a n) ≡ b
any_same p a n true some each = any_one p a n 0 some (each 0 some)
any_same p a n false some each = any_none p a n each

pub all_same : (p : ℕ → Bool) (a n : ℕ) (b : Bool) → 0 < n → ((i : ℕ) → i < n → p (a + i) ≡ b) → list_all p (range_with_len a n) ≡ b
all_same p a n true some each = all_pass p a n each
all_same p a n false some each = first_fails p a n some (here_is (λ k. p k ≡ false) a (each 0 some))

-- ---- members

abbrev pub has : ℕ → List ℕ → Bool
has x xs = list_any (λ c. x == c) xs

pub has_range : (x a n : ℕ) → a ≤ x → x < a + n → has x (range_with_len a n) ≡ true
has_range x a zero low high = absurd (omega arith)
has_range x a (suc n) low high = elim (cases_eq x a) [
  | inl e ↦ or_left (x == a) (has x (range_with_len (a + 1) n)) (eq-eqb x a e)
  | inr ne ↦ (
      let below : a + 1 ≤ x = elim (cases_lt a x) as (λ s. a + 1 ≤ x) [ inl less ↦ omega arith | inr more ↦ absurd (ne (omega arith)) ] in
      or_right (x == a) (has x (range_with_len (a + 1) n)) (has_range x (a + 1) n below (omega arith)))
]

pub range_has : (x a n : ℕ) → has x (range_with_len a n) ≡ true → (a ≤ x) × (x < a + n)
range_has x a zero e = absurd (false≢true e)
range_has x a (suc n) e = elim (or_cases (x == a) (has x (range_with_len (a + 1) n)) e) [
  | inl is ↦ (let same = eqb-true x a is in (omega (arith, same), omega (arith, same)))
  | inr rest ↦ (let r = range_has x (a + 1) n rest in (omega (arith, r.0), omega (arith, r.1)))
]

-- a number of the first list is in the second
abbrev pub meets : List ℕ → List ℕ → Bool
meets xs ys = list_any (λ x. has x ys) xs

pub meets_told : (xs ys : List ℕ) → meets xs ys ≡ true → (x : ℕ) × (has x xs ≡ true) × (has x ys ≡ true)
meets_told [] ys e = absurd (false≢true e)
meets_told (x ∷ xs) ys e = elim (or_cases (has x ys) (meets xs ys) e) [
  | inl is ↦ (x, or_left (x == x) (has x xs) (eq-eqb x x refl), is)
  | inr rest ↦ (let r = meets_told xs ys rest in (r.0, or_right (r.0 == x) (has r.0 xs) r.1, r.2))
]

pub meets_from : (x : ℕ) (xs ys : List ℕ) → has x xs ≡ true → has x ys ≡ true → meets xs ys ≡ true
meets_from x [] ys is there = absurd (false≢true is)
meets_from x (y ∷ xs) ys is there = elim (or_cases (x == y) (has x xs) is) [
  | inl e ↦ or_left (has y ys) (meets xs ys) (subst (λ k. has k ys ≡ true) (eqb-true x y e) there)
  | inr rest ↦ or_right (has y ys) (meets xs ys) (meets_from x xs ys rest there)
]

-- ---- lists in which no number occurs twice

five : (a b c d e : Bool) → (not (a || b) && (c && d && not e)) ≡ ((not a && c) && d && not (b || e))
five true b c d e = refl
five false true true true e = refl
five false true true false e = refl
five false true false d e = refl
five false false true true e = refl
five false false true false e = refl
five false false false d e = refl

pub differ_append : (xs ys : List ℕ) → differ (xs ++ ys) ≡ (differ xs && differ ys && not (meets xs ys))
differ_append [] ys = elim (differ ys) as (λ b. b ≡ (true && b && not false)) [ true ↦ refl | false ↦ refl ]
differ_append (x ∷ xs) ys =
    (λ i. not (list_any-append (λ c. x == c) xs ys i) && differ_append xs ys i)
    ∙ five (has x xs) (has x ys) (differ xs) (differ ys) (meets xs ys)

pub differ_range : (a n : ℕ) → differ (range_with_len a n) ≡ true
differ_range a zero = refl
differ_range a (suc n) =
    and_from (not (has a (range_with_len (a + 1) n))) (differ (range_with_len (a + 1) n))
    (not_from_false (has a (range_with_len (a + 1) n)) (false_from_ne_true (has a (range_with_len (a + 1) n)) (λ e. let r = range_has a (a + 1) n e in absurd (omega (arith, r.0)))))
    (differ_range (a + 1) n)
