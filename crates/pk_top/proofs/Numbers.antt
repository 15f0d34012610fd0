-- Words that are the limits of namespaces.
use Rattle.std.proofs.Common.{◌≡◌, ◌≤◌, ◌<◌, ◌+◌, ℕ, zero, suc, List, [], ◌∷◌, length, take, Bool, true, false, nat_lt, Option, Some, None, option_and_then, get_or}
use Rattle.std.proofs.Common.{set, refl, ◌∙◌, sym, ap, arith}
use Rattle.std.{proofs.lemmas.Bool.Decides.nat_tests, proofs.lemmas.List.get_or-set_other, proofs.lemmas.Grind.get_or-set_at, specs.Result.result_ok}
use Rattle.pk_base.{specs.Shape.Shape, specs.declared.sizes.TheConstants.MOST_SPACES}
use Rattle.pk_nvme.specs.Text.{number_of}
use Rattle.pk_asm.proofs.FormLemmas.{both_are}
use Rattle.pk_space.specs.Limits.{are_few, limits_checked}
use Rattle.pk_top.specs.Words.{numbers_of, limits_in_words}

-- with this number in front
abbrev with_front : ℕ → Option (List ℕ) → Option (List ℕ)
with_front n o = option_and_then (λ ns. Some (n ∷ ns)) o

-- each word is the number at its place
pub numbers-all : (ws : List (List ℕ)) (ns : List ℕ) → length ws ≤ length ns → ((k : ℕ) → k < length ws → number_of (get_or ws k []) ≡ Some (get_or ns k 0))
    → numbers_of ws ≡ Some (take (length ws) ns)
numbers-all [] ns few all = refl
numbers-all (w ∷ ws) [] few all = absurd (omega (arith, few))
numbers-all (w ∷ ws) (n ∷ ns) few all =
    let first : number_of w ≡ Some n = all 0 (omega arith) in
    let fewer : length ws ≤ length ns = omega (arith, few) in
    let rest : numbers_of ws ≡ Some (take (length ws) ns) = numbers-all ws ns fewer (λ k less. all (suc k) (omega (arith, less))) in
    ap (λ o. option_and_then (λ x. with_front x (numbers_of ws)) o) first ∙ ap (with_front n) rest

-- one more word is read
pub numbers-more : (ws : List (List ℕ)) (ns : List ℕ) (i n : ℕ) → i < length ns → ((k : ℕ) → k < i → number_of (get_or ws k []) ≡ Some (get_or ns k 0))
    → number_of (get_or ws i []) ≡ Some n → (k : ℕ) → k < i + 1 → number_of (get_or ws k []) ≡ Some (get_or (set ns i n) k 0)
numbers-more ws ns i n within all one k less = by (nat_lt k i) refl
  where
    by : (b : Bool) → nat_lt k i ≡ b → number_of (get_or ws k []) ≡ Some (get_or (set ns i n) k 0)
    by true e =
        let before : k < i = grind (arith, nat_tests, e) in
        all k before ∙ ap (λ x. Some x) (sym (get_or-set_other ns i k n 0 (λ same. omega (arith, before, same))))
    by false e =
        let here : k ≡ i = grind (arith, nat_tests, e, less) in
        ap (λ j. number_of (get_or ws j [])) here ∙ one ∙ ap (λ x. Some x) (sym (get_or-set_at ns i k n 0 here within))

-- one of them is none
pub numbers-none : (ws : List (List ℕ)) (k : ℕ) → k < length ws → number_of (get_or ws k []) ≡ None → numbers_of ws ≡ None
numbers-none [] k less none = absurd (omega (arith, less))
numbers-none (w ∷ ws) zero less none = ap (λ o. option_and_then (λ x. with_front x (numbers_of ws)) o) none
numbers-none (w ∷ ws) (suc k) less none = by (numbers-none ws k (omega (arith, less)) none) (number_of w)
  where
    by : numbers_of ws ≡ None → (o : Option ℕ) → option_and_then (λ x. with_front x (numbers_of ws)) o ≡ None
    by rest None = refl
    by rest (Some n) = ap (with_front n) rest

-- there are as many numbers as words
numbers-length : (ws : List (List ℕ)) (ns : List ℕ) → numbers_of ws ≡ Some ns → length ns ≡ length ws
numbers-length [] ns is = (let same : Some [] ≡ Some ns = is in let e : [] ≡ ns = cc in sym (ap length e))
numbers-length (w ∷ ws) ns is = let h = both_are ◌∷◌ (number_of w) (numbers_of ws) ns is in sym (ap length h.4) ∙ ap (λ k. suc k) (numbers-length ws h.1 h.3)

few_no : (shape : Shape) (ns : List ℕ) → are_few ns ≡ false → result_ok (limits_checked shape ns) ≡ None
unfolding limits_checked
few_no shape ns more = rw more refl

-- more words than namespaces are no limits
limits-many : (shape : Shape) (ws : List (List ℕ)) → MOST_SPACES < length ws → option_and_then (λ ns. result_ok (limits_checked shape ns)) (numbers_of ws) ≡ None
limits-many shape ws many = by (numbers_of ws) refl
  where
    by : (o : Option (List ℕ)) → numbers_of ws ≡ o → option_and_then (λ ns. result_ok (limits_checked shape ns)) o ≡ None
    by None e = refl
    by (Some ns) e =
        let size = numbers-length ws ns e in
        let more : are_few ns ≡ false = grind (arith, nat_tests, size, many) in
        few_no shape ns more

pub limits-none : (shape : Shape) (ws : List (List ℕ)) → MOST_SPACES < length ws → limits_in_words shape ws ≡ None
limits-none shape [] many = absurd (omega (arith, many))
limits-none shape (w ∷ ws) many = limits-many shape (w ∷ ws) many
