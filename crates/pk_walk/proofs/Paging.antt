-- The wanted entries of a page: they are after those that are not, and a search among them.
use Rattle.std.proofs.Common.{◌≡◌, ℕ, ◌+◌, ◌<◌, ◌≤◌, subst, arith, Bool, true, false, T, List, refl}
use Rattle.std.{specs.declared.cmp.Ordering.Ordering, specs.declared.cmp.Ordering.TheVariants.Less, specs.declared.cmp.Ordering.TheVariants.Equal, specs.declared.cmp.Ordering.TheVariants.Greater}
use Rattle.std.proofs.lemmas.Cmp.{tied_itself}
use Rattle.pk_base.{specs.Key.key_cmp, specs.Fields.number_at, specs.Shape.Shape, specs.Shape.IsShape, proofs.Logic.of_true}
use Rattle.pk_meta.{specs.PageChecks.Decodes, proofs.FindLemmas.all_of, proofs.FindLemmas.place_key, proofs.FindLemmas.to_left}
use Rattle.pk_model.proofs.MapLemmas.{key_total, key_antisymm}
use Rattle.pk_walk.{specs.declared.position.Position.Position, specs.Visible.is_wanted, specs.Steps.IsFirstWanted, proofs.Wanting.upward}

greater_equal : (o : Ordering) → o ≡ Greater → o ≡ Equal → ⊥
greater_equal o p q = cc

true_false : (b : Bool) → b ≡ false → T b → ⊥
true_false b is t = subst T is t

module _ (g : Shape) (page : List ℕ) (shape : IsShape g) (decodes : Decodes g page) where
  -- no key is above a later one
  up_to : (i j : ℕ) → i ≤ j → j < number_at 2 10 page → key_cmp (place_key page i) (place_key page j) ≡ Greater → ⊥
  up_to i j le less gt =
      let key : List ℕ = place_key page j in
      let past = to_left g page key shape decodes 0 (number_at 2 10 page) i (all_of key page) (omega arith) (omega (arith, le, less)) gt in
      greater_equal (key_cmp key key) (past.above j le less) (tied_itself key_total key)

  -- after a wanted key all are wanted
  page_upward : (position : Position) (i j : ℕ) → i ≤ j → j < number_at 2 10 page → T (is_wanted position (place_key page i)) → T (is_wanted position (place_key page j))
  page_upward position i j le less one =
      elim (key_cmp (place_key page i) (place_key page j)) as (λ o. key_cmp (place_key page i) (place_key page j) ≡ o → T (is_wanted position (place_key page j))) [
        | Less ↦ λ p. upward position (place_key page i) (place_key page j) p one
        | Equal ↦ λ p. subst (λ (k : List ℕ). T (is_wanted position k)) (key_antisymm (place_key page i) (place_key page j) p) one
        | Greater ↦ λ p. absurd (up_to i j le less p)
      ] refl

  -- before one that is not, none is
  not_before : (position : Position) (i j : ℕ) → i ≤ j → j < number_at 2 10 page → is_wanted position (place_key page j) ≡ false → is_wanted position (place_key page i) ≡ false
  not_before position i j le less none =
      elim (is_wanted position (place_key page i)) as (λ b. is_wanted position (place_key page i) ≡ b → b ≡ false) [
        | true ↦ λ p. absurd (true_false _ none (page_upward position i j le less (of_true _ p)))
        | false ↦ λ p. refl
      ] refl

-- no entry before low is wanted, and the one at high is
pub record Sought (position : Position) (page : List ℕ) (from low high : ℕ) : Type 0 where
  pub forth : from ≤ low
  pub order : low ≤ high
  pub end : high ≤ number_at 2 10 page
  pub before : (k : ℕ) → from ≤ k → k < low → is_wanted position (place_key page k) ≡ false
  pub at : high < number_at 2 10 page → is_wanted position (place_key page high) ≡ true

pub Sought-all : (position : Position) (page : List ℕ) (from high : ℕ) → from ≤ number_at 2 10 page → high ≡ number_at 2 10 page → Sought position page from from high
Sought-all position page from high within all = search (arith)

module _ (position : Position) (page : List ℕ) (from low high middle : ℕ) (s : Sought position page from low high) (within : low ≤ middle) (less : middle < high) where
  -- the first is at the middle or before it
  pub Sought-left : is_wanted position (place_key page middle) ≡ true → Sought position page from low middle
  Sought-left one = search (arith)

  -- it is after the middle
  pub Sought-right : (g : Shape) → IsShape g → Decodes g page → is_wanted position (place_key page middle) ≡ false → Sought position page from (middle + 1) high
  Sought-right g shape decodes none = search (arith, not_before)

pub Sought-found : (position : Position) (page : List ℕ) (from low high : ℕ) → Sought position page from low high → high ≤ low → IsFirstWanted position page from low
Sought-found position page from low high s over = search (arith, s.order, s.end)
