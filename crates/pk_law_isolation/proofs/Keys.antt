-- Keys with their namespaces, and their order.
use Rattle.std.{specs.Ordering.eq_by_cmp, specs.Ordering.ordering_then, specs.Cmp.tied_itself, specs.Cmp.nat_cmp_total, specs.Cmp.Lexicographic.slice_cmp}
use Rattle.std.proofs.Common.{◌≡◌, ℕ, ◌≤◌, ◌∷◌, [], List, true, false, cond, refl, sym, ap, ◌∙◌, arith, ◌==◌, eqb-true, is_eq, nat_lt, Less, Equal, Greater, nat_cmp}
use Rattle.pk_base.specs.Key.{Key, key_cmp, space_of, bytes_of}
use Rattle.pk_law_isolation.specs.Isolation.{key_in_first}

-- a key of this namespace
abbrev pub IsIn : ℕ → Key → Type 0
IsIn space k = k ≡ space ∷ bytes_of k

pub is_in : (space : ℕ) (k : Key) → 1 ≤ space → (space_of k == space) ≡ true → IsIn space k
is_in space [] some is = absurd (omega (arith, some, eqb-true 0 space is))
is_in space (s ∷ bytes) some is = ap (λ n. n ∷ bytes) (eqb-true s space is)

-- within one namespace keys are in the order of their bytes
pub tagged_cmp : (space : ℕ) (a b : List ℕ) → key_cmp (space ∷ a) (space ∷ b) ≡ key_cmp a b
tagged_cmp space a b = ap (λ r. ordering_then r (slice_cmp nat_cmp a b)) (tied_itself nat_cmp_total space)

-- and so they do when they are moved to namespace 1
pub moved_cmp : (space : ℕ) (a b : Key) → IsIn space a → IsIn space b → key_cmp (key_in_first a) (key_in_first b) ≡ key_cmp a b
moved_cmp space a b is_a is_b =
    tagged_cmp 1 (bytes_of a) (bytes_of b) ∙ sym (tagged_cmp space (bytes_of a) (bytes_of b)) ∙ (λ i. key_cmp (sym is_a i) (sym is_b i))

-- keys of different namespaces do not tie
pub apart : (s n : ℕ) (a b : List ℕ) → (s == n) ≡ false → eq_by_cmp key_cmp (s ∷ a) (n ∷ b) ≡ false
apart s n a b differ = elim (nat_lt s n) as (λ t. is_eq (ordering_then (cond t Less (cond (s == n) Equal Greater)) (slice_cmp nat_cmp a b)) ≡ false) [
  | true ↦ refl
  | false ↦ ap (λ t. is_eq (ordering_then (cond t Equal Greater) (slice_cmp nat_cmp a b))) differ
]

-- a key ties with one of namespace 1 if it is of namespace 1 and their bytes tie
pub first_tie : (q : Key) (b : List ℕ) → eq_by_cmp key_cmp q (1 ∷ b) ≡ cond (space_of q == 1) (eq_by_cmp key_cmp (bytes_of q) b) false
first_tie [] b = refl
first_tie (s ∷ a) b = elim (s == 1) as (λ t. (s == 1) ≡ t → eq_by_cmp key_cmp (s ∷ a) (1 ∷ b) ≡ cond t (eq_by_cmp key_cmp a b) false) [
  | true ↦ λ e. ap (λ n. eq_by_cmp key_cmp (n ∷ a) (1 ∷ b)) (eqb-true s 1 e) ∙ ap is_eq (tagged_cmp 1 a b)
  | false ↦ λ e. apart s 1 a b e
] refl
