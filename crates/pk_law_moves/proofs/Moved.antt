-- Keys whose values go to other places: what is read, and where the pages lie.
use Rattle.std.proofs.Common.{◌≡◌, ◌⊎◌, inl, inr, ℕ, refl, sym, ap, ◌∙◌, arith, true, false, cond, T, List, [], ◌∷◌, ◌++◌, length, Option, Some, length-append, ◌==◌, ◌+◌, if◌then◌else◌}
use Rattle.std.{specs.List.AllByRecursion, specs.declared.cmp.Ordering.TheVariants.Less, specs.declared.cmp.Ordering.TheVariants.Equal, specs.declared.cmp.Ordering.TheVariants.Greater}
use Rattle.std.{specs.Ordering.is_eq, specs.Ordering.eq_by_cmp, proofs.lemmas.List.FromFn.length-range_with_len}
use Rattle.std.specs.FinMap.Entries.{put, find, is_sorted, below_all, by_order, find-put, is_sorted-put}
use Rattle.pk_base.{specs.Key.Key, specs.Key.key_cmp, specs.Key.space_of, specs.Shape.Shape, specs.Shape.charge, specs.Entry.Place, proofs.Logic.left_part, proofs.Logic.right_part}
use Rattle.pk_segfmt.specs.Value.{value_pages}
use Rattle.pk_rootfmt.specs.Root.{differ}
use Rattle.pk_model.{specs.Values.all_pages, specs.Values.pages_of_space, specs.Laws.IsPageOf, proofs.MapLemmas.key_total, proofs.MapLemmas.missing, proofs.MapLemmas.below_less}
use Rattle.pk_model.{proofs.Commits.apart, proofs.Commits.rest_differs, proofs.Lookups.same_key}
use Rattle.pk_law_steps.specs.Under.{IsValuePage}
use Rattle.pk_law_steps.proofs.Places.{differ_append, differ_range, value_in, in_value, range_in, in_range}
use Rattle.pk_law_moves.specs.Moves.{moved, AreApart}

-- a key that exists is put over itself
pub put_same : {X : Type 0} (k : Key) (x : X) (es : List (Key × X)) → T (is_sorted key_cmp es) → find key_cmp k es ≡ Some x → put key_cmp k x es ≡ es
put_same k x [] rising found = cc
put_same {X} k x (e ∷ es) rising found =
    elim (key_cmp k e.0) as (λ r. key_cmp k e.0 ≡ r → cond (is_eq r) (Some e.1) (find key_cmp k es) ≡ Some x → by_order r ((k, x) ∷ e ∷ es) ((e.0, x) ∷ es) (e ∷ put key_cmp k x es) ≡ e ∷ es) [
      | Less ↦ λ p f. let none = missing k es (below_less k e.0 es p (left_part _ _ rising)) in cc
      | Equal ↦ λ p f. let same : e.1 ≡ x = cc in λ i. (e.0, sym same i) ∷ es
      | Greater ↦ λ p f. ap (λ (xs : List (Key × X)). e ∷ xs) (put_same k x es (right_part _ _ rising) f)
    ] refl found

module _ (shape : Shape) where
  -- a page of a value, if one was put
  pub page_put : (key : Key) (place : Place) (es : List (Key × Place)) (k : ℕ) → IsValuePage shape (put key_cmp key place es) k → IsPageOf shape k place ⊎ IsValuePage shape es k
  page_put key place [] k is = is
  page_put key place (e ∷ es) k is =
      elim (key_cmp key e.0) as (λ r. IsValuePage shape (by_order r ((key, place) ∷ e ∷ es) ((e.0, place) ∷ es) (e ∷ put key_cmp key place es)) k
      → IsPageOf shape k place ⊎ IsValuePage shape (e ∷ es) k) [
        | Less ↦ λ i. i
        | Equal ↦ λ i. elim i [ inl new ↦ inl new | inr old ↦ inr (inr old) ]
        | Greater ↦ λ i. elim i [ inl here ↦ inr (inl here) | inr there ↦ elim (page_put key place es k there) [ inl new ↦ inl new | inr old ↦ inr (inr old) ] ]
      ] is

  -- values one after another, no page of which belongs to two of them
  pub differ_both : (e : Place) (es : List (Key × Place)) → T (differ (all_pages shape es))
      → ((k : ℕ) → IsPageOf shape k e → IsValuePage shape es k → ⊥) → T (differ (value_pages shape e ++ all_pages shape es))
  differ_both e es rest none =
      differ_append (value_pages shape e) (all_pages shape es) (differ_range e.page (charge shape e.len)) rest
      (λ k here there. none k (in_range k e.page (charge shape e.len) here) (in_value shape es k there))

  -- and back
  differ_rest : (xs ys : List ℕ) → T (differ (xs ++ ys)) → T (differ ys)
  differ_rest [] ys d = d
  differ_rest (x ∷ xs) ys d = differ_rest xs ys (rest_differs x (xs ++ ys) d)

  differ_put : (key : Key) (place : Place) (es : List (Key × Place)) → T (differ (all_pages shape es))
      → ((k : ℕ) → IsPageOf shape k place → IsValuePage shape es k → ⊥) → T (differ (all_pages shape (put key_cmp key place es)))
  differ_put key place [] d none = differ_both place [] tt (λ k here there. there)
  differ_put key place (e ∷ es) d none =
      let rest = differ_rest (value_pages shape e.1) (all_pages shape es) d in
      elim (key_cmp key e.0) as (λ r. T (differ (all_pages shape (by_order r ((key, place) ∷ e ∷ es) ((e.0, place) ∷ es) (e ∷ put key_cmp key place es))))) [
        | Less ↦ differ_both place (e ∷ es) d none
        | Equal ↦ differ_both place es rest (λ k here there. none k here (inr there))
        | Greater ↦ differ_both e.1 (put key_cmp key place es) (differ_put key place es rest (λ k here there. none k here (inr there))) (λ k here there.
            elim (page_put key place es k there) [
              | inl new ↦ none k new (inl here)
              | inr old ↦ apart k (value_pages shape e.1) (all_pages shape es) d (range_in k e.1.page (charge shape e.1.len) here.0 here.1) (value_in shape es k old)
            ])
      ]

  -- the same of several values
  pub page_moved : (moves es : List (Key × Place)) (k : ℕ) → IsValuePage shape (moved moves es) k → IsValuePage shape moves k ⊎ IsValuePage shape es k
  page_moved [] es k is = inr is
  page_moved (m ∷ moves) es k is = elim (page_moved moves (put key_cmp m.0 m.1 es) k is) [
    | inl new ↦ inl (inr new)
    | inr rest ↦ elim (page_put m.0 m.1 es k rest) [ inl first ↦ inl (inl first) | inr old ↦ inr old ]
  ]

  pub differ_moved : (moves es : List (Key × Place)) → T (differ (all_pages shape es))
      → ((k : ℕ) → IsValuePage shape moves k → IsValuePage shape es k → ⊥) → AreApart shape moves → T (differ (all_pages shape (moved moves es)))
  differ_moved [] es d free are_apart = d
  differ_moved (m ∷ moves) es d free are_apart =
      differ_moved moves (put key_cmp m.0 m.1 es) (differ_put m.0 m.1 es d (λ k here there. free k (inl here) there)) (λ k here there. elim (page_put m.0 m.1 es k there) [
        | inl first ↦ are_apart.0 k first here
        | inr old ↦ free k (inr here) old
      ]) are_apart.1

  -- as many pages, if a value goes to another place
  pub length_put : (k : Key) (old new : Place) (es : List (Key × Place)) → T (is_sorted key_cmp es) → find key_cmp k es ≡ Some old
      → new.len ≡ old.len → length (all_pages shape (put key_cmp k new es)) ≡ length (all_pages shape es)
  length_put k old new [] rising found same = cc
  length_put k old new (e ∷ es) rising found same =
      elim (key_cmp k e.0) as (λ r. key_cmp k e.0 ≡ r → cond (is_eq r) (Some e.1) (find key_cmp k es) ≡ Some old
      → length (all_pages shape (by_order r ((k, new) ∷ e ∷ es) ((e.0, new) ∷ es) (e ∷ put key_cmp k new es))) ≡ length (all_pages shape (e ∷ es))) [
        | Less ↦ λ p f. let none = missing k es (below_less k e.0 es p (left_part _ _ rising)) in cc
        | Equal ↦ λ p f.
            let is : e.1 ≡ old = cc in
            let len : new.len ≡ e.1.len = same ∙ ap (λ (x : Place). x.len) (sym is) in
            let size : charge shape new.len ≡ charge shape e.1.len = ap (charge shape) len in
            let a = length-append (value_pages shape new) (all_pages shape es) in
            let b = length-append (value_pages shape e.1) (all_pages shape es) in
            let c = length-range_with_len new.page (charge shape new.len) in
            let d = length-range_with_len e.1.page (charge shape e.1.len) in
            omega (arith, a, b, c, d, size)
        | Greater ↦ λ p f.
            let rest = length_put k old new es (right_part (below_all key_cmp e.0 es) (is_sorted key_cmp es) rising) f same in
            let a = length-append (value_pages shape e.1) (all_pages shape (put key_cmp k new es)) in
            let b = length-append (value_pages shape e.1) (all_pages shape es) in
            omega (arith, a, b, rest)
      ] refl found

  -- each of these keys has a value of this length
  abbrev pub HaveLength : List (Key × Place) → List (Key × Place) → Type 0
  HaveLength es moves = AllByRecursion (λ m. (old : Place) × (find key_cmp m.0 es ≡ Some old) × (m.1.len ≡ old.len)) moves

  have_put : (k : Key) (place old : Place) (es moves : List (Key × Place)) → find key_cmp k es ≡ Some old → place.len ≡ old.len → HaveLength es moves → HaveLength (put key_cmp k place es) moves
  have_put k place old es [] found same have = tt
  have_put k place old es (m ∷ moves) found same have =
      let after = find-put key_cmp key_total m.0 k place es in (
        elim (eq_by_cmp key_cmp m.0 k) as (λ b. eq_by_cmp key_cmp m.0 k ≡ b → find key_cmp m.0 (put key_cmp k place es) ≡ cond b (Some place) (find key_cmp m.0 es)
            → (p : Place) × (find key_cmp m.0 (put key_cmp k place es) ≡ Some p) × (m.1.len ≡ p.len)) [
              | true ↦ λ tied f.
                  let key : m.0 ≡ k = same_key m.0 k tied in
                  let both : Some have.0.0 ≡ Some old = sym have.0.1 ∙ ap (λ q. find key_cmp q es) key ∙ found in
                  let one : have.0.0 ≡ old = some_same _ _ both in
                  (place, f, have.0.2 ∙ ap (λ (p : Place). p.len) one ∙ sym same)
              | false ↦ λ other f. (have.0.0, f ∙ have.0.1, have.0.2)
            ] refl after,
        have_put k place old es moves found same have.1,
      )
    where
      some_same : (a b : Place) → ◌≡◌ {A = Option Place} (Some a) (Some b) → a ≡ b
      some_same a b e = cc

  pub length_moved : (moves es : List (Key × Place)) → T (is_sorted key_cmp es) → HaveLength es moves → length (all_pages shape (moved moves es)) ≡ length (all_pages shape es)
  length_moved [] es rising have = refl
  length_moved (m ∷ moves) es rising have =
      length_moved moves (put key_cmp m.0 m.1 es) (is_sorted-put key_cmp key_total m.0 m.1 es rising) (have_put m.0 m.1 have.0.0 es moves have.0.1 have.0.2 have.1)
      ∙ length_put m.0 have.0.0 m.1 es rising have.0.1 have.0.2

  -- and as many of each namespace
  pub space_put : (space : ℕ) (k : Key) (old new : Place) (es : List (Key × Place)) → T (is_sorted key_cmp es) → find key_cmp k es ≡ Some old
      → new.len ≡ old.len → pages_of_space shape space (put key_cmp k new es) ≡ pages_of_space shape space es
  space_put space k old new [] rising found same = cc
  space_put space k old new (e ∷ es) rising found same =
      elim (key_cmp k e.0) as (λ r. key_cmp k e.0 ≡ r → cond (is_eq r) (Some e.1) (find key_cmp k es) ≡ Some old
      → pages_of_space shape space (by_order r ((k, new) ∷ e ∷ es) ((e.0, new) ∷ es) (e ∷ put key_cmp k new es)) ≡ pages_of_space shape space (e ∷ es)) [
        | Less ↦ λ p f. let none = missing k es (below_less k e.0 es p (left_part _ _ rising)) in cc
        | Equal ↦ λ p f.
            let is : e.1 ≡ old = cc in
            let len : new.len ≡ e.1.len = same ∙ ap (λ (x : Place). x.len) (sym is) in
            ap (λ n. (if space_of e.0 == space then charge shape n else 0) + pages_of_space shape space es) len
        | Greater ↦ λ p f.
            ap (λ n. (if space_of e.0 == space then charge shape e.1.len else 0) + n) (space_put space k old new es (right_part (below_all key_cmp e.0 es) (is_sorted key_cmp es) rising) f same)
      ] refl found

  pub space_moved : (space : ℕ) (moves es : List (Key × Place)) → T (is_sorted key_cmp es) → HaveLength es moves → pages_of_space shape space (moved moves es) ≡ pages_of_space shape space es
  space_moved space [] es rising have = refl
  space_moved space (m ∷ moves) es rising have =
      space_moved space moves (put key_cmp m.0 m.1 es) (is_sorted-put key_cmp key_total m.0 m.1 es rising) (have_put m.0 m.1 have.0.0 es moves have.0.1 have.0.2 have.1)
      ∙ space_put space m.0 have.0.0 m.1 es rising have.0.1 have.0.2
