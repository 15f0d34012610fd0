-- Lists of two blocks, and what the journal owns.
use Rattle.std.proofs.Common.{◌≡◌, inl, inr, ℕ, List, [], ◌∷◌, Bool, true, false, not, length, slice_index, Some, if◌then◌else◌, refl, sym, subst, ◌∙◌, arith}
use Rattle.std.{specs.Prelude.slice_get, proofs.Math.ListN.set, proofs.lemmas.Bool.cases_eq}
use Rattle.pk_plan.specs.declared.owner.Owner.TheVariants.{Journal}
use Rattle.pk_rootfmt.specs.Held.{two_of}
use Rattle.pk_pool.{specs.declared.state.BlockState.BlockState, specs.declared.state.BlockState.TheVariants.Owned, proofs.States.get-set_other, proofs.States.set_is}

-- a list of two
pub two_are : (xs : List ℕ) → length xs ≡ 2 → slice_index xs 0 ∷ slice_index xs 1 ∷ [] ≡ xs
two_are [] e = absurd (omega (arith, e))
two_are (x ∷ []) e = absurd (omega (arith, e))
two_are (x ∷ y ∷ []) e = refl
two_are (x ∷ y ∷ z ∷ zs) e = absurd (omega (arith, e))

pub two_same : (xs : List ℕ) → length xs ≡ 2 → two_of xs ≡ xs
two_same [] e = absurd (omega (arith, e))
two_same (x ∷ xs) e = refl

-- what the journal owns it still owns when it takes another block
pub still_owned : (states : List BlockState) (a b : ℕ) → slice_get states b ≡ Some (Owned Journal) → slice_get (set states a (Owned Journal)) b ≡ Some (Owned Journal)
still_owned states a b is = elim (cases_eq b a) [
  | inl same ↦ (let P : ℕ → Type 0 = λ x. slice_get (set states a (Owned Journal)) x ≡ Some (Owned Journal) in let Q : ℕ → Type 0 = λ x. slice_get states x ≡ Some (Owned Journal) in
      subst P (sym same) (set_is states a (Owned Journal) (Owned Journal) (subst Q same is)))
  | inr other ↦ get-set_other states a b (Owned Journal) other ∙ is
]

pub turned : (h : Bool) (xs : List ℕ) → (if h then xs else []) ≡ (if not h then [] else xs)
turned true xs = refl
turned false xs = refl
