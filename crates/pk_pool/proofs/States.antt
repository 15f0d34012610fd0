-- Lists of states of which one is written.
use Rattle.std.proofs.Common.{◌≡◌, ◌≢◌, ◌⊎◌, inl, inr, ℕ, zero, suc, List, [], ◌∷◌, Some, refl, sym, ap, ◌∙◌, subst, arith, replicate}
use Rattle.std.{specs.Prelude.slice_get, proofs.Math.ListN.set, proofs.lemmas.Option.slice_get_within, proofs.lemmas.Option.same_Some, proofs.lemmas.Bool.cases_eq}
use Rattle.pk_base.specs.Shape.{Shape}
use Rattle.pk_plan.specs.declared.owner.Owner.{Owner}
use Rattle.pk_pool.{specs.declared.state.BlockState.BlockState, specs.Blocks.unused, specs.Blocks.NoneLeaves}
use Rattle.pk_pool.specs.declared.state.BlockState.TheVariants.{Root, Free, Ready, Owned, Leaving}

pub get-set_other : {X : Type 0} (xs : List X) (i k : ℕ) (y : X) → k ≢ i → slice_get (set xs i y) k ≡ slice_get xs k
get-set_other [] i k y ne = refl
get-set_other (x ∷ xs) zero zero y ne = absurd (ne refl)
get-set_other (x ∷ xs) zero (suc k) y ne = refl
get-set_other (x ∷ xs) (suc i) zero y ne = refl
get-set_other (x ∷ xs) (suc i) (suc k) y ne = get-set_other xs i k y (λ e. ne (ap suc e))

-- what is read if a state was written
pub get-set_same : {X : Type 0} (xs : List X) (i : ℕ) (y z : X) → slice_get (set xs i y) i ≡ Some z → z ≡ y
get-set_same [] i y z h = absurd (omega (arith, slice_get_within [] i z h))
get-set_same (x ∷ xs) zero y z h = same_Some z y (sym h)
get-set_same (x ∷ xs) (suc i) y z h = get-set_same xs i y z h

pub set_is : {X : Type 0} (xs : List X) (i : ℕ) (x y : X) → slice_get xs i ≡ Some x → slice_get (set xs i y) i ≡ Some y
set_is [] i x y h = absurd (omega (arith, slice_get_within [] i x h))
set_is (z ∷ xs) zero x y h = refl
set_is (z ∷ xs) (suc i) x y h = set_is xs i x y h

pub free_is_not_root : Root ≡ Free → ⊥
free_is_not_root e = cc

pub ready_is_not_root : Root ≡ Ready → ⊥
ready_is_not_root e = cc

pub owned_is_not_root : {o : Owner} → Root ≡ Owned o → ⊥
owned_is_not_root e = cc

pub free_is_not_ready : Free ≡ Ready → ⊥
free_is_not_ready e = cc

pub owned_is_not_ready : {o : Owner} → Owned o ≡ Ready → ⊥
owned_is_not_ready e = cc

pub owned_is_not_free : {o : Owner} → Owned o ≡ Free → ⊥
owned_is_not_free e = cc

pub leaving_is_not_root : {o : Owner} → Root ≡ Leaving o → ⊥
leaving_is_not_root e = cc

pub leaving_is_not_free : {o : Owner} → Free ≡ Leaving o → ⊥
leaving_is_not_free e = cc

pub leaving_is_not_ready : {o : Owner} → Leaving o ≡ Ready → ⊥
leaving_is_not_ready e = cc

-- what is in a list of one element, and in one that was written to
pub nowhere_replicate : {X : Type 0} (n k : ℕ) (x y : X) → slice_get (replicate n x) k ≡ Some y → x ≡ y
nowhere_replicate zero k x y h = cc
nowhere_replicate (suc n) zero x y h = same_Some x y h
nowhere_replicate (suc n) (suc k) x y h = nowhere_replicate n k x y h

pub set_one : {X : Type 0} (xs : List X) (i k : ℕ) (x y : X) → slice_get (set xs i x) k ≡ Some y → (y ≡ x) ⊎ (slice_get xs k ≡ Some y)
set_one xs i k x y h = elim (cases_eq k i) [
  | inl same ↦ inl (get-set_same xs i x y (subst (λ j. slice_get (set xs i x) j ≡ Some y) same h))
  | inr other ↦ inr (sym (get-set_other xs i k x other) ∙ h)
]

-- at first a block is a root block or free
of_unused : (shape : Shape) (b : ℕ) (s : BlockState) → slice_get (unused shape).states b ≡ Some s → (s ≡ Root) ⊎ (Free ≡ s)
of_unused shape b s h = elim (set_one (set (replicate shape.blocks Free) 0 Root) 1 b Root s h) [
  | inl root ↦ inl root
  | inr one ↦ elim (set_one (replicate shape.blocks Free) 0 b Root s one) [
    | inl root ↦ inl root
    | inr free ↦ inr (nowhere_replicate shape.blocks b Free s free)
  ]
]

-- so none is erased, and none leaves
pub none_ready_unused : (shape : Shape) (b : ℕ) → slice_get (unused shape).states b ≡ Some Ready → ⊥
none_ready_unused shape b h = elim (of_unused shape b Ready h) [ inl root ↦ ready_is_not_root (sym root) | inr free ↦ free_is_not_ready free ]

pub none_leaves_unused : (shape : Shape) → NoneLeaves (unused shape)
none_leaves_unused shape b o h = elim (of_unused shape b (Leaving o) h) [ inl root ↦ leaving_is_not_root (sym root) | inr free ↦ leaving_is_not_free free ]
