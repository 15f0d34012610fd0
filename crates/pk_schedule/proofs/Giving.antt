-- Blocks of one owner that are freed, and one that is taken: what becomes of the others.
use Rattle.std.proofs.Common.{◌≡◌, ◌≢◌, ◌⊎◌, inl, inr, ℕ, ◌+◌, cond, false, T, List, [], ◌∷◌, length, Some, refl, sym, subst, ◌∙◌, arith, length-set}
use Rattle.std.{specs.Prelude.slice_get, proofs.lemmas.Bool.cases_eq, proofs.lemmas.Option.same_Some}
use Rattle.pk_plan.{specs.declared.owner.Owner.Owner, specs.declared.owner.Owner.TheVariants.Journal, specs.declared.owner.Owner.TheVariants.Meta, specs.declared.owner.Owner.TheVariants.Values}
use Rattle.pk_rootfmt.specs.Root.{differ}
use Rattle.pk_model.proofs.Commits.{apart, rest_differs}
use Rattle.pk_pool.{specs.declared.state.BlockState.BlockState, specs.Unready.unready, proofs.Counting.given_back as one_given, proofs.Leaving.used_left}
use Rattle.pk_pool.specs.declared.state.BlockState.TheVariants.{Free, Ready, Owned, Leaving}
use Rattle.pk_pool.specs.Blocks.{Blocks, IsSpare, with_state, used_by, is_owned_by, same_owner, given_back, left_by}
use Rattle.pk_pool.proofs.Sharing.{count-set, used_given, used_adopted}
use Rattle.pk_pool.proofs.States.{get-set_other, set_is, owned_is_not_free, owned_is_not_ready}
use Rattle.pk_law_steps.proofs.Places.{In}

pub in_or_not : (b : ℕ) (xs : List ℕ) → In b xs ⊎ (In b xs → ⊥)
in_or_not b [] = inr (λ is. is)
in_or_not b (x ∷ xs) = elim (cases_eq b x) [
  | inl same ↦ inl (inl same)
  | inr other ↦ elim (in_or_not b xs) [ inl is ↦ inl (inr is) | inr absent ↦ inr (λ is. elim is [ inl e ↦ other e | inr there ↦ absent there ]) ]
]

-- a state with an owner is neither free nor another owner's
other_owner : (o p : Owner) → (o ≡ p → ⊥) → same_owner p o ≡ false
other_owner Journal Journal differs = absurd (differs refl)
other_owner Meta Meta differs = absurd (differs refl)
other_owner Values Values differs = absurd (differs refl)
other_owner _ _ differs = refl

-- a count of an owner stays if a state of none of his becomes another such
same_count : (p : Owner) (states : List BlockState) (b : ℕ) (s t : BlockState) → is_owned_by p s ≡ false → is_owned_by p t ≡ false → slice_get states b ≡ Some s
    → used_by p (with_state (record { shape = record { page_bytes = 0; block_pages = 0; blocks = 0 }; states = states }) b t).states ≡ used_by p states
same_count p states b s t none none' is =
    let was : cond {A = ℕ} (is_owned_by p s) 1 0 ≡ 0 = rw none refl in
    let now : cond {A = ℕ} (is_owned_by p t) 1 0 ≡ 0 = rw none' refl in
    omega (arith, count-set (is_owned_by p) states b s t is, was, now)

-- These blocks of one owner are free, and all others are what they were.
pub record GivesBack (o : Owner) (blocks : List ℕ) (pool pool' : Blocks) : Type 0 where
  pub same_shape : pool'.shape ≡ pool.shape
  pub size : length pool'.states ≡ length pool.states
  pub others : (b : ℕ) → (In b blocks → ⊥) → slice_get pool'.states b ≡ slice_get pool.states b
  pub gone : (b : ℕ) → In b blocks → slice_get pool'.states b ≡ Some Free
  pub fewer : used_by o pool'.states + length blocks ≡ used_by o pool.states
  pub same_used : (p : Owner) → (o ≡ p → ⊥) → used_by p pool'.states ≡ used_by p pool.states
  pub same_unready : unready pool'.states ≡ unready pool.states

pub gives_back : (o : Owner) (blocks : List ℕ) (pool : Blocks) → T (differ blocks)
    → ((b : ℕ) → In b blocks → slice_get pool.states b ≡ Some (Owned o)) → GivesBack o blocks pool (given_back pool blocks)
gives_back o [] pool d owned = record { same_shape = refl; size = refl; others = λ b away. refl; gone = λ b is. absurd is; fewer = omega arith; same_used = λ p away. refl; same_unready = refl }
gives_back o (x ∷ xs) pool d owned =
    let here : slice_get pool.states x ≡ Some (Owned o) = owned x (inl refl) in
    let not_x : (b : ℕ) → In b xs → b ≢ x = λ b is e. apart x (x ∷ []) xs d (inl refl) (subst (λ y. In y xs) e is) in
    let middle : Blocks = with_state pool x Free in
    let rest : GivesBack o xs middle (given_back middle xs) = gives_back o xs middle (rest_differs x xs d) (λ b is. get-set_other pool.states x b Free (not_x b is) ∙ owned b (inr is)) in
    let one = used_given pool.states x o here in
    let more = rest.fewer in
    record {
      same_shape = rest.same_shape;
      size = rest.size ∙ length-set pool.states x Free;
      others = λ b away. rest.others b (λ is. away (inr is)) ∙ get-set_other pool.states x b Free (λ e. away (inl e));
      gone = λ b is. elim is [
        | inl e ↦ subst (λ y. slice_get (given_back middle xs).states y ≡ Some Free) (sym e) (rest.others x (λ there. not_x x there refl) ∙ set_is pool.states x (Owned o) Free here)
        | inr there ↦ rest.gone b there
      ];
      fewer = omega (arith, one, more);
      same_used = λ p away. rest.same_used p away ∙ same_count p pool.states x (Owned o) Free (other_owner o p away) refl here;
      same_unready = rest.same_unready ∙ one_given pool.states x o here;
    }

-- no block has an owner that it had not before
pub none_more : (blocks : List ℕ) (pool pool' : Blocks) → ((b : ℕ) → (In b blocks → ⊥) → slice_get pool'.states b ≡ slice_get pool.states b)
    → ((b : ℕ) → In b blocks → slice_get pool'.states b ≡ Some Free) → (o : Owner) (b : ℕ) → slice_get pool'.states b ≡ Some (Owned o) → slice_get pool.states b ≡ Some (Owned o)
none_more blocks pool pool' others gone o b owned = elim (in_or_not b blocks) [ inl there ↦ absurd (let free = gone b there in cc) | inr away ↦ sym (others b away) ∙ owned ]

-- blocks that leave count as before
pub left_counted : (o p : Owner) (blocks : List ℕ) (pool : Blocks) → T (differ blocks)
    → ((b : ℕ) → In b blocks → slice_get pool.states b ≡ Some (Owned o)) → used_by p (left_by o pool blocks).states ≡ used_by p pool.states
left_counted o p [] pool d owned = refl
left_counted o p (x ∷ xs) pool d owned =
    let not_x : (b : ℕ) → In b xs → b ≢ x = λ b is e. apart x (x ∷ []) xs d (inl refl) (subst (λ y. In y xs) e is) in
    let middle : Blocks = with_state pool x (Leaving o) in
    left_counted o p xs middle (rest_differs x xs d) (λ b is. get-set_other pool.states x b (Leaving o) (not_x b is) ∙ owned b (inr is)) ∙ used_left pool.states x o p (owned x (inl refl))

-- ---- a spare block that is taken

-- a block with an owner is not spare
pub not_spare : (pool : Blocks) (o : Owner) (b : ℕ) → slice_get pool.states b ≡ Some (Owned o) → IsSpare pool b → ⊥
not_spare pool o b owned (inl free) = owned_is_not_free {o = o} (same_Some (Owned o) Free (sym owned ∙ free))
not_spare pool o b owned (inr ready) = owned_is_not_ready {o = o} (same_Some (Owned o) Ready (sym owned ∙ ready))

-- and has no other owner
pub one_owner : (pool : Blocks) (o p : Owner) (b : ℕ) → slice_get pool.states b ≡ Some (Owned o) → slice_get pool.states b ≡ Some (Owned p) → o ≡ p
one_owner pool o p b is is' = cc

-- What has an owner has it still, and only this owner may have more.
pub record Grown (g : Owner) (pool pool' : Blocks) (more : ℕ) : Type 0 where
  pub shape : pool'.shape ≡ pool.shape
  pub size : length pool'.states ≡ length pool.states
  pub owned : (o : Owner) (b : ℕ) → slice_get pool.states b ≡ Some (Owned o) → slice_get pool'.states b ≡ Some (Owned o)
  pub no_more : (o : Owner) → (g ≡ o → ⊥) → (b : ℕ) → slice_get pool'.states b ≡ Some (Owned o) → slice_get pool.states b ≡ Some (Owned o)
  pub has : used_by g pool'.states ≡ used_by g pool.states + more
  pub others : (o : Owner) → (g ≡ o → ⊥) → used_by o pool'.states ≡ used_by o pool.states

pub grown_none : (g : Owner) (pool pool' : Blocks) → pool' ≡ pool → Grown g pool pool' 0
grown_none g pool pool' same = subst (λ p. Grown g pool p 0) (sym same)
    (record { shape = refl; size = refl; owned = λ o b is. is; no_more = λ o away b is. is; has = omega arith; others = λ o away. refl })

pub grown_one : (g : Owner) (pool pool' : Blocks) (x : ℕ) → IsSpare pool x → pool' ≡ with_state pool x (Owned g) → Grown g pool pool' 1
grown_one g pool pool' x spare is = subst (λ p. Grown g pool p 1) (sym is) (record {
  shape = refl;
  size = length-set pool.states x (Owned g);
  owned = λ o b owned. get-set_other pool.states x b (Owned g) (λ e. not_spare pool o b owned (subst (λ y. IsSpare pool y) (sym e) spare)) ∙ owned;
  no_more = λ o away b owned. elim (cases_eq b x) [
    | inl e ↦ absurd (away (one_owner (with_state pool x (Owned g)) g o b (subst (λ y. slice_get (with_state pool x (Owned g)).states y ≡ Some (Owned g)) (sym e) here) owned))
    | inr other ↦ sym (get-set_other pool.states x b (Owned g) other) ∙ owned
  ];
  has = used_adopted pool.shape pool.states x g spare;
  others = λ o away. elim spare [
    | inl free ↦ same_count o pool.states x Free (Owned g) refl (other_owner g o away) free
    | inr ready ↦ same_count o pool.states x Ready (Owned g) refl (other_owner g o away) ready
  ];
})
  where
    here : slice_get (with_state pool x (Owned g)).states x ≡ Some (Owned g)
    here = elim spare [ inl free ↦ set_is pool.states x Free (Owned g) free | inr ready ↦ set_is pool.states x Ready (Owned g) ready ]
