-- The blocks of a flash whose states pass a test.
use Rattle.std.proofs.Common.{◌≡◌, inl, inr, ℕ, zero, suc, ◌+◌, refl, sym, ap, subst, ◌∙◌, arith, Bool, true, false, cond, T, List, [], ◌∷◌, length, Some}
use Rattle.std.{specs.Prelude.slice_get, specs.Prelude.count_by, specs.List.AllByRecursion, proofs.lemmas.List.Sums.sum_by-cons}
use Rattle.pk_base.proofs.Logic.{some_same}
use Rattle.pk_rootfmt.specs.Root.{differ}
use Rattle.pk_pool.specs.declared.state.BlockState.{BlockState}
use Rattle.pk_law_steps.proofs.Places.{In, differ_cons}

module _ (p : BlockState → Bool) where
  -- the numbers of the states that pass the test, of which the first is this one
  pub blocks_from : ℕ → List BlockState → List ℕ
  blocks_from i [] = []
  blocks_from i (s ∷ ss) = cond (p s) (i ∷ blocks_from (suc i) ss) (blocks_from (suc i) ss)

  -- they are as many as are counted
  pub many_blocks : (i : ℕ) (ss : List BlockState) → length (blocks_from i ss) ≡ count_by p ss
  unfolding blocks_from
  many_blocks i [] = refl
  many_blocks i (s ∷ ss) =
      let rest = many_blocks (suc i) ss in
      sym (sum_by-cons {X = BlockState} (λ x. cond (p x) 1 0) s ss ∙ by (p s) (sym rest))
    where
      by : (b : Bool) → count_by p ss ≡ length (blocks_from (suc i) ss) → cond {A = ℕ} b 1 0 + count_by p ss ≡ length (cond b (i ∷ blocks_from (suc i) ss) (blocks_from (suc i) ss))
      by true e = omega (arith, e)
      by false e = omega (arith, e)

  -- each has such a state
  pub has_state : (i : ℕ) (ss : List BlockState) (b : ℕ) → In b (blocks_from i ss) → (k : ℕ) × (s : BlockState) × (b ≡ i + k) × (slice_get ss k ≡ Some s) × (p s ≡ true)
  unfolding blocks_from
  has_state i [] b is = absurd is
  has_state i (s ∷ ss) b is =
      let behind : In b (blocks_from (suc i) ss) → (k : ℕ) × (t : BlockState) × (b ≡ i + k) × (slice_get (s ∷ ss) k ≡ Some t) × (p t ≡ true) =
      λ rest. let more = has_state (suc i) ss b rest in let e = more.2 in (suc more.0, more.1, omega (arith, e), more.3, more.4) in
      elim (p s) as (λ c. p s ≡ c → In b (cond c (i ∷ blocks_from (suc i) ss) (blocks_from (suc i) ss)) → (k : ℕ) × (t : BlockState) × (b ≡ i + k) × (slice_get (s ∷ ss) k ≡ Some t) × (p t ≡ true)) [
        | true ↦ λ e here. elim here [
          | inl same ↦ (0, s, omega (arith, same), refl, e)
          | inr rest ↦ behind rest
        ]
        | false ↦ λ e rest. behind rest
      ] refl is

  -- no two are the same
  pub blocks_differ : (i : ℕ) (ss : List BlockState) → T (differ (blocks_from i ss))
  unfolding blocks_from
  blocks_differ i [] = tt
  blocks_differ i (s ∷ ss) = elim (p s) as (λ c. T (differ (cond c (i ∷ blocks_from (suc i) ss) (blocks_from (suc i) ss)))) [
    | true ↦ differ_cons i (blocks_from (suc i) ss) (λ is. let more = has_state (suc i) ss i is in let e = more.2 in absurd (omega (arith, e))) (blocks_differ (suc i) ss)
    | false ↦ blocks_differ (suc i) ss
  ]

  -- a block with such a state is one of them
  pub block_in : (i : ℕ) (ss : List BlockState) (k : ℕ) (s : BlockState) → slice_get ss k ≡ Some s → p s ≡ true → In (i + k) (blocks_from i ss)
  unfolding blocks_from
  block_in i [] k s is passes = cc
  block_in i (t ∷ ss) zero s is passes =
      let same : t ≡ s = some_same t s is in
      let here : p t ≡ true = ap p same ∙ passes in
      subst (λ c. In (i + 0) (cond c (i ∷ blocks_from (suc i) ss) (blocks_from (suc i) ss))) (sym here) (inl (omega arith))
  block_in i (t ∷ ss) (suc k) s is passes =
      let rest : In (suc i + k) (blocks_from (suc i) ss) = block_in (suc i) ss k s is passes in
      let moved : In (i + suc k) (blocks_from (suc i) ss) = subst (λ b. In b (blocks_from (suc i) ss)) (omega arith) rest in
      elim (p t) as (λ c. In (i + suc k) (cond c (i ∷ blocks_from (suc i) ss) (blocks_from (suc i) ss))) [ true ↦ inr moved | false ↦ moved ]

-- what holds of each holds of all
pub all_in : (P : ℕ → Type 0) (bs : List ℕ) → ((b : ℕ) → In b bs → P b) → AllByRecursion P bs
all_in P [] each = tt
all_in P (b ∷ bs) each = (each b (inl refl), all_in P bs (λ c is. each c (inr is)))
