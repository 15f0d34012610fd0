-- The blocks for values that no running reclaim holds.
use Rattle.std.proofs.Common.{◌≡◌, ◌≢◌, inl, inr, ℕ, zero, suc, ◌+◌, true, false, not, ◌&&◌, ◌==◌, List, [], ◌∷◌, length, Some, refl, sym, ap, subst, ◌∙◌, arith, length-set}
use Rattle.std.proofs.lemmas.Bool.{false≢true, or_cases, and_parts, eqb-true, eq-eqb, or_left, or_right, cases_Bool, false_from_ne_true}
use Rattle.std.{specs.Prelude.slice_get, proofs.Math.ListN.set}
use Rattle.pk_plan.specs.declared.owner.Owner.TheVariants.{Values as for_values}
use Rattle.pk_pool.{specs.declared.state.BlockState.BlockState, specs.declared.state.BlockState.TheVariants.Free, specs.declared.state.BlockState.TheVariants.Owned, specs.Blocks.used_by}
use Rattle.pk_pool.{proofs.States.get-set_other, proofs.Sharing.used_given}
use Rattle.pk_rootfmt.specs.Root.{differ}
use Rattle.pk_live.proofs.Ranges.{has}
use Rattle.pk_values.{specs.Placed.IsOutput, specs.Laws.is_for_values}
use mathlib.Core.Bool.{and-true, and-false}

-- ---- members

pub member_of : (k : ℕ) (bs : List ℕ) → has k bs ≡ true → IsOutput bs k
member_of k [] is = absurd (false≢true is)
member_of k (b ∷ bs) is = elim (or_cases (k == b) (has k bs) is) [ inl here ↦ inl (eqb-true k b here) | inr there ↦ inr (member_of k bs there) ]

has_member : (k : ℕ) (bs : List ℕ) → IsOutput bs k → has k bs ≡ true
has_member k [] is = absurd is
has_member k (b ∷ bs) (inl e) = or_left (k == b) (has k bs) (eq-eqb k b e)
has_member k (b ∷ bs) (inr is) = or_right (k == b) (has k bs) (has_member k bs is)

pub no_member : (k : ℕ) (bs : List ℕ) → (IsOutput bs k → ⊥) → has k bs ≡ false
no_member k bs none = false_from_ne_true (has k bs) (λ is. none (member_of k bs is))

-- ---- with these blocks free

pub freed : List BlockState → List ℕ → List BlockState
freed ss [] = ss
freed ss (b ∷ bs) = freed (set ss b Free) bs

pub length-freed : (bs : List ℕ) (ss : List BlockState) → length (freed ss bs) ≡ length ss
unfolding freed
length-freed [] ss = refl
length-freed (b ∷ bs) ss = length-freed bs (set ss b Free) ∙ length-set ss b Free

freed_other : (bs : List ℕ) (ss : List BlockState) (k : ℕ) → has k bs ≡ false → slice_get (freed ss bs) k ≡ slice_get ss k
unfolding freed
freed_other [] ss k other_one = refl
freed_other (b ∷ bs) ss k other_one =
    let later : has k bs ≡ false = false_from_ne_true (has k bs) (λ is. let clash : true ≡ false = sym (or_right (k == b) (has k bs) is) ∙ other_one in cc) in
    let other : k ≢ b = λ e. let clash : true ≡ false = sym (or_left (k == b) (has k bs) (eq-eqb k b e)) ∙ other_one in cc in
    freed_other bs (set ss b Free) k later ∙ get-set_other ss b k Free other

free_one : (ss : List BlockState) (b : ℕ) → is_for_values (slice_get (set ss b Free) b) ≡ false
free_one [] zero = refl
free_one [] (suc b) = refl
free_one (s ∷ ss) zero = refl
free_one (s ∷ ss) (suc b) = free_one ss b

freed_it : (bs : List ℕ) (ss : List BlockState) (k : ℕ) → has k bs ≡ true → is_for_values (slice_get (freed ss bs) k) ≡ false
unfolding freed
freed_it [] ss k is = absurd (false≢true is)
freed_it (b ∷ bs) ss k is = elim (cases_Bool (has k bs)) [
  | inl later ↦ freed_it bs (set ss b Free) k later
  | inr not_later ↦ elim (or_cases (k == b) (has k bs) is) [
    | inl here ↦ ap is_for_values (freed_other bs (set ss b Free) k not_later) ∙ (ap (λ j. is_for_values (slice_get (set ss b Free) j)) (eqb-true k b here) ∙ free_one ss b)
    | inr there ↦ (let clash : true ≡ false = sym there ∙ not_later in cc)
  ]
]

-- a block is for values then if it was, and is none of these
pub freed_is : (bs : List ℕ) (ss : List BlockState) (k : ℕ) → is_for_values (slice_get (freed ss bs) k) ≡ (is_for_values (slice_get ss k) && not (has k bs))
freed_is bs ss k = elim (cases_Bool (has k bs)) [
  | inl is ↦ freed_it bs ss k is ∙ sym (rw is (and-false (is_for_values (slice_get ss k))))
  | inr other_one ↦ ap is_for_values (freed_other bs ss k other_one) ∙ sym (rw other_one (and-true (is_for_values (slice_get ss k))))
]

-- that many fewer are for values
pub used_freed : (bs : List ℕ) (ss : List BlockState) → differ bs ≡ true → ((b : ℕ) → IsOutput bs b → slice_get ss b ≡ Some (Owned for_values))
    → used_by for_values (freed ss bs) + length bs ≡ used_by for_values ss
unfolding freed
used_freed [] ss different owned = omega arith
used_freed (b ∷ bs) ss different owned =
    let parts = and_parts (not (has b bs)) (differ bs) different in
    let others : (c : ℕ) → IsOutput bs c → slice_get (set ss b Free) c ≡ Some (Owned for_values) =
    λ c is. get-set_other ss b c Free (λ e. let clash : true ≡ false = sym parts.0 ∙ ap not (has_member b bs (subst (λ k. IsOutput bs k) e is)) in cc) ∙ owned c (inr is) in
    let later = used_freed bs (set ss b Free) parts.1 others in
    let one = used_given ss b for_values (owned b (inl refl)) in
    omega (arith, later, one)
