-- Keys with places: one entry more, and one less.
use Rattle.std.proofs.Common.{◌≡◌, ◌⊎◌, inl, inr, ℕ, ◌+◌, true, false, not, cond, T, List, [], ◌∷◌, Some, None, refl, sym, ap, subst, ◌∙◌, arith, ◌==◌}
use Rattle.std.specs.FinMap.Entries.{put, find, is_sorted, below_all, by_order, find-where_key}
use Rattle.std.{specs.List.AllByRecursion, specs.declared.cmp.Ordering.TheVariants.Less, specs.declared.cmp.Ordering.TheVariants.Equal, specs.declared.cmp.Ordering.TheVariants.Greater}
use Rattle.std.{specs.Ordering.is_lt, specs.Ordering.is_eq, specs.Ordering.eq_by_cmp, specs.Cmp.tied_itself, proofs.lemmas.Bool.eq-eqb, proofs.lemmas.Bool.ne_eqb}
use Rattle.pk_base.{specs.Key.Key, specs.Key.key_cmp, specs.Shape.Shape, specs.Shape.IsShape, specs.Shape.charge, specs.Entry.Place, specs.EntryChecks.IsPlace}
use Rattle.pk_base.proofs.Logic.{left_part, right_part, less}
use Rattle.pk_segfmt.{specs.Value.value_pages, proofs.StoredLemmas.charge_some}
use Rattle.pk_rootfmt.specs.Root.{differ}
use Rattle.pk_model.{specs.Values.all_pages, specs.Laws.IsPageOf, proofs.MapLemmas.key_total, proofs.MapLemmas.key_antisymm, proofs.MapLemmas.below_less}
use Rattle.pk_model.proofs.Commits.{apart}
use Rattle.pk_law_steps.{specs.Under.IsValuePage, proofs.Places.range_in, proofs.Places.value_in, proofs.Places.differ_back}
use Rattle.pk_live.specs.Lives.{head_of}
use Rattle.pk_values.specs.Placed.{AreApart, without}

-- ---- keys

-- if all keys are greater, none is taken out
keep_all : (key : Key) (es : List (Key × Place)) → T (below_all key_cmp key es) → without key es ≡ es
keep_all key [] below = refl
keep_all key (e ∷ es) below =
    let is = less (key_cmp key e.0) (left_part (is_lt (key_cmp key e.0)) (below_all key_cmp key es) below) in
    ap (λ r. cond (not (is_eq r)) (e ∷ without key es) (without key es)) is
    ∙ ap (λ (xs : List (Key × Place)). e ∷ xs) (keep_all key es (right_part (is_lt (key_cmp key e.0)) (below_all key_cmp key es) below))

-- and one is put first
put_below : (key : Key) (place : Place) (es : List (Key × Place)) → T (below_all key_cmp key es) → put key_cmp key place es ≡ (key, place) ∷ es
put_below key place [] below = refl
put_below key place (e ∷ es) below =
    ap (λ r. by_order r ((key, place) ∷ e ∷ es) ((e.0, place) ∷ es) (e ∷ put key_cmp key place es)) (less (key_cmp key e.0) (left_part (is_lt (key_cmp key e.0)) (below_all key_cmp key es) below))

-- the keys after one that is the key are greater
tied_below : (key q : Key) (es : List (Key × Place)) → key_cmp key q ≡ Equal → T (below_all key_cmp q es) → T (below_all key_cmp key es)
tied_below key q es tied below = subst (λ x. T (below_all key_cmp x es)) (sym (key_antisymm key q tied)) below

-- a key that is put where it was taken out
pub put_without : (key : Key) (place : Place) (es : List (Key × Place)) → T (is_sorted key_cmp es) → put key_cmp key place (without key es) ≡ put key_cmp key place es
put_without key place [] rising = refl
put_without key place (e ∷ es) rising =
    let below = left_part (below_all key_cmp e.0 es) (is_sorted key_cmp es) rising in
    elim (key_cmp key e.0) as (λ r. key_cmp key e.0 ≡ r
    → put key_cmp key place (cond (not (is_eq r)) (e ∷ without key es) (without key es)) ≡ by_order r ((key, place) ∷ e ∷ es) ((e.0, place) ∷ es) (e ∷ put key_cmp key place es)) [
      | Less ↦ λ r. ap (λ s. by_order s ((key, place) ∷ e ∷ without key es) ((e.0, place) ∷ without key es) (e ∷ put key_cmp key place (without key es))) r
          ∙ ap (λ (xs : List (Key × Place)). (key, place) ∷ e ∷ xs) (keep_all key es (below_less key e.0 es r below))
      | Equal ↦ λ r. let greater = tied_below key e.0 es r below in
          ap (put key_cmp key place) (keep_all key es greater) ∙ put_below key place es greater ∙ ap (λ (q : Key). (q, place) ∷ es) (key_antisymm key e.0 r)
      | Greater ↦ λ r. ap (λ s. by_order s ((key, place) ∷ e ∷ without key es) ((e.0, place) ∷ without key es) (e ∷ put key_cmp key place (without key es))) r
          ∙ ap (λ (xs : List (Key × Place)). e ∷ xs) (put_without key place es (right_part (below_all key_cmp e.0 es) (is_sorted key_cmp es) rising))
    ] refl

-- a key that was taken out is not found
pub find_gone : (key : Key) (es : List (Key × Place)) → find key_cmp key (without key es) ≡ None
find_gone key es =
    find-where_key key_cmp (λ x. not (eq_by_cmp key_cmp key x)) key (λ x e. ap (λ y. not (eq_by_cmp key_cmp key y)) (sym (key_antisymm key x e))) es
    ∙ ap (λ r. cond (not (is_eq r)) (find key_cmp key es) None) (tied_itself key_total key)

-- taking out a key that is not found changes nothing
pub nothing_out : (key : Key) (es : List (Key × Place)) → find key_cmp key es ≡ None → without key es ≡ es
nothing_out key [] none = refl
nothing_out key (e ∷ es) none =
    elim (eq_by_cmp key_cmp key e.0) as (λ b. cond b (Some e.1) (find key_cmp key es) ≡ None → cond (not b) (e ∷ without key es) (without key es) ≡ e ∷ es) [
      | true ↦ λ n. cc
      | false ↦ λ n. ap (λ (xs : List (Key × Place)). e ∷ xs) (nothing_out key es n)
    ] none

-- ---- pages

module _ (shape : Shape) where
  pub page_put : (key : Key) (place : Place) (es : List (Key × Place)) (k : ℕ) → IsValuePage shape (put key_cmp key place es) k → IsPageOf shape k place ⊎ IsValuePage shape es k
  page_put key place [] k is = is
  page_put key place (e ∷ es) k is =
      elim (key_cmp key e.0) as (λ r. IsValuePage shape (by_order r ((key, place) ∷ e ∷ es) ((e.0, place) ∷ es) (e ∷ put key_cmp key place es)) k
      → IsPageOf shape k place ⊎ IsValuePage shape (e ∷ es) k) [
        | Less ↦ λ i. i
        | Equal ↦ λ i. elim i [ inl new ↦ inl new | inr old ↦ inr (inr old) ]
        | Greater ↦ λ i. elim i [ inl here ↦ inr (inl here) | inr there ↦ elim (page_put key place es k there) [ inl new ↦ inl new | inr old ↦ inr (inr old) ] ]
      ] is

  pub page_without : (key : Key) (es : List (Key × Place)) (k : ℕ) → IsValuePage shape (without key es) k → IsValuePage shape es k
  page_without key [] k is = is
  page_without key (e ∷ es) k is =
      elim (eq_by_cmp key_cmp key e.0) as (λ b. IsValuePage shape (cond (not b) (e ∷ without key es) (without key es)) k → IsValuePage shape (e ∷ es) k) [
        | true ↦ λ i. inr (page_without key es k i)
        | false ↦ λ i. elim i [ inl here ↦ inl here | inr there ↦ inr (page_without key es k there) ]
      ] is

  pub found_page : (key : Key) (place : Place) (es : List (Key × Place)) (k : ℕ) → find key_cmp key es ≡ Some place → IsPageOf shape k place → IsValuePage shape es k
  found_page key place [] k found is = cc
  found_page key place (e ∷ es) k found is =
      elim (eq_by_cmp key_cmp key e.0) as (λ b. cond b (Some e.1) (find key_cmp key es) ≡ Some place → IsValuePage shape (e ∷ es) k) [
        | true ↦ λ f. let same : e.1 ≡ place = cc in inl (subst (λ p. IsPageOf shape k p) (sym same) is)
        | false ↦ λ f. inr (found_page key place es k f is)
      ] found

  pub apart_put : (key : Key) (place : Place) (es : List (Key × Place)) → AreApart shape es
      → ((k : ℕ) → IsPageOf shape k place → IsValuePage shape es k → ⊥) → AreApart shape (put key_cmp key place es)
  apart_put key place [] are_apart free = (λ k here there. there, tt)
  apart_put key place (e ∷ es) are_apart free =
      elim (key_cmp key e.0) as (λ r. AreApart shape (by_order r ((key, place) ∷ e ∷ es) ((e.0, place) ∷ es) (e ∷ put key_cmp key place es))) [
        | Less ↦ (free, are_apart)
        | Equal ↦ (λ k here there. free k here (inr there), are_apart.1)
        | Greater ↦ (
          λ k here there. elim (page_put key place es k there) [ inl new ↦ free k new (inl here) | inr old ↦ are_apart.0 k here old ],
          apart_put key place es are_apart.1 (λ k here there. free k here (inr there)),
        )
      ]

  pub apart_without : (key : Key) (es : List (Key × Place)) → AreApart shape es → AreApart shape (without key es)
  apart_without key [] are_apart = tt
  apart_without key (e ∷ es) are_apart =
      elim (eq_by_cmp key_cmp key e.0) as (λ b. AreApart shape (cond (not b) (e ∷ without key es) (without key es))) [
        | true ↦ apart_without key es are_apart.1
        | false ↦ (λ k here there. are_apart.0 k here (page_without key es k there), apart_without key es are_apart.1)
      ]

  -- if no page occurs twice, no page belongs to two values
  pub apart_from : (es : List (Key × Place)) → T (differ (all_pages shape es)) → AreApart shape es
  apart_from [] d = tt
  apart_from (e ∷ es) d = (
    λ k here there. apart k (value_pages shape e.1) (all_pages shape es) d (range_in k e.1.page (charge shape e.1.len) here.0 here.1) (value_in shape es k there),
    apart_from es (differ_back (value_pages shape e.1) (all_pages shape es) d),
  )

  -- ---- places

  pub places_put : (key : Key) (place : Place) (es : List (Key × Place)) → AllByRecursion (λ e. IsPlace shape e.1) es
      → IsPlace shape place → AllByRecursion (λ e. IsPlace shape e.1) (put key_cmp key place es)
  places_put key place [] places is = (is, tt)
  places_put key place (e ∷ es) places is =
      elim (key_cmp key e.0) as (λ r. AllByRecursion (λ e. IsPlace shape e.1) (by_order r ((key, place) ∷ e ∷ es) ((e.0, place) ∷ es) (e ∷ put key_cmp key place es))) [
        | Less ↦ (is, places)
        | Equal ↦ (is, places.1)
        | Greater ↦ (places.0, places_put key place es places.1 is)
      ]

  pub places_without : (key : Key) (es : List (Key × Place)) → AllByRecursion (λ e. IsPlace shape e.1) es → AllByRecursion (λ e. IsPlace shape e.1) (without key es)
  places_without key [] places = tt
  places_without key (e ∷ es) places =
      elim (eq_by_cmp key_cmp key e.0) as (λ b. AllByRecursion (λ e. IsPlace shape e.1) (cond (not b) (e ∷ without key es) (without key es))) [
        | true ↦ places_without key es places.1
        | false ↦ (places.0, places_without key es places.1)
      ]

  pub found_place : (key : Key) (place : Place) (es : List (Key × Place)) → AllByRecursion (λ e. IsPlace shape e.1) es → find key_cmp key es ≡ Some place → IsPlace shape place
  found_place key place [] places found = cc
  found_place key place (e ∷ es) places found =
      elim (eq_by_cmp key_cmp key e.0) as (λ b. cond b (Some e.1) (find key_cmp key es) ≡ Some place → IsPlace shape place) [
        | true ↦ λ f. let same : e.1 ≡ place = cc in subst (λ p. IsPlace shape p) same places.0
        | false ↦ λ f. found_place key place es places.1 f
      ] found

  -- ---- heads

  pub head_put : (key : Key) (place : Place) (es : List (Key × Place)) (h : ℕ) → find key_cmp key es ≡ None
      → head_of shape (put key_cmp key place es) h ≡ head_of shape es h + cond (place.page == h) (charge shape place.len) 0
  head_put key place [] h none = omega arith
  head_put key place (e ∷ es) h none =
      elim (key_cmp key e.0) as (λ r. cond (is_eq r) (Some e.1) (find key_cmp key es) ≡ None
      → head_of shape (by_order r ((key, place) ∷ e ∷ es) ((e.0, place) ∷ es) (e ∷ put key_cmp key place es)) h ≡ head_of shape (e ∷ es) h + cond (place.page == h) (charge shape place.len) 0) [
        | Less ↦ λ n. omega arith
        | Equal ↦ λ n. cc
        | Greater ↦ λ n. let rest = head_put key place es h n in omega (arith, rest)
      ] none

  pub head_without : (key : Key) (place : Place) (es : List (Key × Place)) (h : ℕ) → T (is_sorted key_cmp es) → find key_cmp key es ≡ Some place
      → head_of shape es h ≡ head_of shape (without key es) h + cond (place.page == h) (charge shape place.len) 0
  head_without key place [] h rising found = cc
  head_without key place (e ∷ es) h rising found =
      let below = left_part (below_all key_cmp e.0 es) (is_sorted key_cmp es) rising in
      let others = right_part (below_all key_cmp e.0 es) (is_sorted key_cmp es) rising in
      elim (key_cmp key e.0) as (λ r. key_cmp key e.0 ≡ r → cond (is_eq r) (Some e.1) (find key_cmp key es) ≡ Some place
      → head_of shape (e ∷ es) h ≡ head_of shape (cond (not (is_eq r)) (e ∷ without key es) (without key es)) h + cond (place.page == h) (charge shape place.len) 0) [
        | Less ↦ λ r f. let rest = head_without key place es h others f in omega (arith, rest)
        | Equal ↦ λ r f.
            let same : e.1 ≡ place = cc in
            let own = ap (λ (p : Place). cond (p.page == h) (charge shape p.len) 0) same in
            let left = ap (λ xs. head_of shape xs h) (keep_all key es (tied_below key e.0 es r below)) in
            omega (arith, own, left)
        | Greater ↦ λ r f. let rest = head_without key place es h others f in omega (arith, rest)
      ] refl found

  module _ (is_shape : IsShape shape) where
    -- the first page of a value is one of its pages
    pub first_page : (place : Place) → IsPageOf shape place.page place
    first_page place = (omega arith, omega (arith, charge_some shape is_shape place.len))

    same_first : (place : Place) (h : ℕ) → place.page ≡ h → IsPageOf shape h place
    same_first place h same = subst (λ k. IsPageOf shape k place) same (first_page place)

    pub head_none : (es : List (Key × Place)) (h : ℕ) → (IsValuePage shape es h → ⊥) → head_of shape es h ≡ 0
    head_none [] h none = refl
    head_none (e ∷ es) h none =
        let other : (e.1.page == h) ≡ false = ne_eqb e.1.page h (λ same. none (inl (same_first e.1 h same))) in
        let rest = head_none es h (λ i. none (inr i)) in
        rw other (omega (arith, rest))

    pub head_found : (key : Key) (place : Place) (es : List (Key × Place)) → AreApart shape es → find key_cmp key es ≡ Some place → head_of shape es place.page ≡ charge shape place.len
    head_found key place [] are_apart found = cc
    head_found key place (e ∷ es) are_apart found =
        elim (eq_by_cmp key_cmp key e.0) as (λ b. cond b (Some e.1) (find key_cmp key es) ≡ Some place → head_of shape (e ∷ es) place.page ≡ charge shape place.len) [
          | true ↦ λ f.
              let same : e.1 ≡ place = cc in
              let alone : head_of shape es e.1.page ≡ 0 = head_none es e.1.page (λ i. are_apart.0 e.1.page (first_page e.1) i) in
              let here : (e.1.page == e.1.page) ≡ true = eq-eqb e.1.page e.1.page refl in
              let own : cond (e.1.page == e.1.page) (charge shape e.1.len) 0 + head_of shape es e.1.page ≡ charge shape e.1.len = rw here (omega (arith, alone)) in
              subst (λ (p : Place). cond (e.1.page == p.page) (charge shape e.1.len) 0 + head_of shape es p.page ≡ charge shape p.len) same own
          | false ↦ λ f.
              let there = found_page key place es place.page f (first_page place) in
              let other : (e.1.page == place.page) ≡ false = ne_eqb e.1.page place.page (λ same. are_apart.0 place.page (same_first e.1 place.page same) there) in
              let rest = head_found key place es are_apart.1 f in
              rw other (omega (arith, rest))
        ] found
