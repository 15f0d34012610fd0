-- What remains of a merge of two sorted lists, after the entry that comes next.
use Rattle.std.proofs.Common.{◌≡◌, ℕ, refl, sym, ap, subst, ◌∙◌, true, false, T, List, [], ◌∷◌, ◌++◌, filter, not, ◌||◌, ◌==◌, is_some, if◌then◌else◌, Option, Some, None}
use Rattle.std.{specs.declared.cmp.Ordering.TheVariants.Less, specs.declared.cmp.Ordering.TheVariants.Equal, specs.declared.cmp.Ordering.TheVariants.Greater, specs.Ordering.is_lt}
use Rattle.std.{specs.List.list_all, specs.List.AllByRecursion, specs.Cmp.IsTotalOrder, specs.Cmp.Lexicographic.nat_list_cmp_total}
use Rattle.std.specs.FinMap.Entries.{put, is_sorted, below_all, by_order}
use Rattle.pk_base.{specs.Key.Key, specs.Key.key_cmp, specs.Entry.Entry, specs.Entry.Place, specs.Firsts.firsts, proofs.Logic.left_part, proofs.Logic.right_part, proofs.Logic.both, proofs.Logic.less}
use Rattle.pk_base.proofs.KeyLemmas.{same_key, turned, below_less, firsts_sorted}
use Rattle.pk_meta.specs.Over.{over, kept_at}

key_total : IsTotalOrder key_cmp
key_total = nat_list_cmp_total

-- ---- keys below others

below_put : (k q : Key) (v : Option Place) (es : List Entry) → key_cmp k q ≡ Less → T (below_all key_cmp k es) → T (below_all key_cmp k (put key_cmp q v es))
below_put k q v [] low h = both _ _ (subst (λ o. T (is_lt o)) (sym low) tt) tt
below_put k q v (e ∷ es) low h =
    elim (key_cmp q e.0) as (λ o. T (below_all key_cmp k (by_order o ((q, v) ∷ e ∷ es) ((e.0, v) ∷ es) (e ∷ put key_cmp q v es)))) [
      | Less ↦ both _ _ (subst (λ o. T (is_lt o)) (sym low) tt) h
      | Equal ↦ h
      | Greater ↦ both _ _ (left_part _ _ h) (below_put k q v es low (right_part _ _ h))
    ]

below_firsts : (k : Key) (es : List Entry) → T (below_all key_cmp k es) → T (below_all key_cmp k (firsts es))
below_firsts k [] h = tt
below_firsts k (e ∷ es) h = below_put k e.0 e.1 (firsts es) (less _ (left_part _ _ h)) (below_firsts k es (right_part _ _ h))

below_row : (k : Key) (es fs : List Entry) → T (below_all key_cmp k es) → T (below_all key_cmp k fs) → T (below_all key_cmp k (es ++ fs))
below_row k [] fs h g = g
below_row k (e ∷ es) fs h g = both _ _ (left_part _ _ h) (below_row k es fs (right_part _ _ h) g)

-- ---- the entry that comes next

put_below : (k : Key) (v : Option Place) (es : List Entry) → T (below_all key_cmp k es) → put key_cmp k v es ≡ (k, v) ∷ es
put_below k v [] h = refl
put_below k v (e ∷ es) h = ap (λ o. by_order o ((k, v) ∷ e ∷ es) ((e.0, v) ∷ es) (e ∷ put key_cmp k v es)) (less _ (left_part _ _ h))

put_same : (k : Key) (v : Option Place) (e : Entry) (es : List Entry) → key_cmp k e.0 ≡ Equal → put key_cmp k v (e ∷ es) ≡ (k, v) ∷ es
put_same k v e es same =
    ap (λ o. by_order o ((k, v) ∷ e ∷ es) ((e.0, v) ∷ es) (e ∷ put key_cmp k v es)) same ∙ ap (λ (q : Key). (q, v) ∷ es) (sym (same_key k e.0 same))

put_above : (k : Key) (v : Option Place) (e : Entry) (es : List Entry) → key_cmp k e.0 ≡ Greater → put key_cmp k v (e ∷ es) ≡ e ∷ put key_cmp k v es
put_above k v e es above = ap (λ o. by_order o ((k, v) ∷ e ∷ es) ((e.0, v) ∷ es) (e ∷ put key_cmp k v es)) above

firsts_front : (e : Entry) (es : List Entry) → T (below_all key_cmp e.0 es) → firsts (e ∷ es) ≡ e ∷ firsts es
firsts_front e es h = put_below e.0 e.1 (firsts es) (below_firsts e.0 es h)

-- an entry below all others comes first
firsts_within : (es : List Entry) (e : Entry) (fs : List Entry) → T (below_all key_cmp e.0 es) → T (below_all key_cmp e.0 fs) → firsts (es ++ (e ∷ fs)) ≡ e ∷ firsts (es ++ fs)
firsts_within [] e fs h g = firsts_front e fs g
firsts_within (x ∷ es) e fs h g =
    ap (put key_cmp x.0 x.1) (firsts_within es e fs (right_part _ _ h) g) ∙ put_above x.0 x.1 e (firsts (es ++ fs)) (turned e.0 x.0 Less (less _ (left_part _ _ h)))

pub over_less : (e f : Entry) (es fs : List Entry) → T (is_sorted key_cmp (e ∷ es)) → T (is_sorted key_cmp (f ∷ fs)) → key_cmp e.0 f.0 ≡ Less → over (e ∷ es) (f ∷ fs) ≡ e ∷ over es (f ∷ fs)
over_less e f es fs up vp low =
    firsts_front e (es ++ (f ∷ fs)) (below_row e.0 es (f ∷ fs) (left_part _ _ up) (both _ _ (subst (λ o. T (is_lt o)) (sym low) tt) (below_less e.0 f.0 fs low (left_part _ _ vp))))

pub over_equal : (e f : Entry) (es fs : List Entry) → T (is_sorted key_cmp (e ∷ es)) → T (is_sorted key_cmp (f ∷ fs)) → key_cmp e.0 f.0 ≡ Equal → over (e ∷ es) (f ∷ fs) ≡ e ∷ over es fs
over_equal e f es fs up vp same =
    let key : e.0 ≡ f.0 = same_key e.0 f.0 same in
    ap (put key_cmp e.0 e.1) (firsts_within es f fs (subst (λ (k : Key). T (below_all key_cmp k es)) key (left_part _ _ up)) (left_part _ _ vp)) ∙ put_same e.0 e.1 f (firsts (es ++ fs)) same

pub over_greater : (e f : Entry) (es fs : List Entry) → T (is_sorted key_cmp (e ∷ es)) → T (is_sorted key_cmp (f ∷ fs)) → key_cmp e.0 f.0 ≡ Greater → over (e ∷ es) (f ∷ fs) ≡ f ∷ over (e ∷ es) fs
over_greater e f es fs up vp above =
    let low : key_cmp f.0 e.0 ≡ Less = turned e.0 f.0 Greater above in
    firsts_within (e ∷ es) f fs (both _ _ (subst (λ o. T (is_lt o)) (sym low) tt) (below_less f.0 e.0 es low (left_part _ _ up))) (left_part _ _ vp)

pub over_source : (e : Entry) (es : List Entry) → T (is_sorted key_cmp (e ∷ es)) → over (e ∷ es) [] ≡ e ∷ over es []
over_source e es up = firsts_front e (es ++ []) (below_row e.0 es [] (left_part _ _ up) tt)

pub over_target : (f : Entry) (fs : List Entry) → T (is_sorted key_cmp (f ∷ fs)) → over [] (f ∷ fs) ≡ f ∷ over [] fs
over_target f fs vp = firsts_front f fs (left_part _ _ vp)

-- ---- what run 4 keeps

pub kept_front : (level : ℕ) (e : Entry) (es : List Entry) → kept_at level (e ∷ es) ≡ kept_at level (e ∷ []) ++ kept_at level es
kept_front level e es =
    elim (level == 4) as (λ b. (if b then filter (λ x. is_some x.1) (e ∷ es) else e ∷ es)
    ≡ (if b then filter (λ x. is_some x.1) (e ∷ []) else e ∷ []) ++ (if b then filter (λ x. is_some x.1) es else es)) [
      | true ↦ elim (is_some e.1) as (λ b. (if b then e ∷ filter (λ x. is_some x.1) es else filter (λ x. is_some x.1) es)
          ≡ (if b then e ∷ [] else []) ++ filter (λ x. is_some x.1) es) [ true ↦ refl | false ↦ refl ]
      | false ↦ refl
    ]

below_put_only : (k : Key) (es : List Entry) → T (below_all key_cmp k es) → T (below_all key_cmp k (filter (λ x. is_some x.1) es))
below_put_only k [] h = tt
below_put_only k ((q, Some v) ∷ es) h = both _ _ (left_part _ _ h) (below_put_only k es (right_part _ _ h))
below_put_only k ((q, None) ∷ es) h = below_put_only k es (right_part _ _ h)

put_only_sorted : (es : List Entry) → T (is_sorted key_cmp es) → T (is_sorted key_cmp (filter (λ x. is_some x.1) es))
put_only_sorted [] h = tt
put_only_sorted ((q, Some v) ∷ es) h = both _ _ (below_put_only q es (left_part _ _ h)) (put_only_sorted es (right_part _ _ h))
put_only_sorted ((q, None) ∷ es) h = put_only_sorted es (right_part _ _ h)

put_only_all : (es : List Entry) → T (list_all (λ e. is_some e.1) (filter (λ x. is_some x.1) es))
put_only_all [] = tt
put_only_all ((q, Some v) ∷ es) = put_only_all es
put_only_all ((q, None) ∷ es) = put_only_all es

-- the output of a merge rises, and has no deleted keys in run 4
pub output_sorted : (level : ℕ) (es fs : List Entry) → T (is_sorted key_cmp (kept_at level (over es fs)))
output_sorted level es fs =
    elim (level == 4) as (λ b. T (is_sorted key_cmp (if b then filter (λ x. is_some x.1) (over es fs) else over es fs))) [
      | true ↦ put_only_sorted (over es fs) (firsts_sorted (es ++ fs))
      | false ↦ firsts_sorted (es ++ fs)
    ]

pub output_deepest : (level : ℕ) (es fs : List Entry) → T (not (level == 4) || list_all (λ e. is_some e.1) (kept_at level (over es fs)))
output_deepest level es fs =
    elim (level == 4) as (λ b. T (not b || list_all (λ e. is_some e.1) (if b then filter (λ x. is_some x.1) (over es fs) else over es fs))) [
      | true ↦ put_only_all (over es fs)
      | false ↦ tt
    ]

-- ---- what holds of each entry

module _ (P : Entry → Type 0) where
  all_row : (es fs : List Entry) → AllByRecursion P es → AllByRecursion P fs → AllByRecursion P (es ++ fs)
  all_row [] fs h g = g
  all_row (e ∷ es) fs h g = (h.0, all_row es fs h.1 g)

  pub all_left : (es fs : List Entry) → AllByRecursion P (es ++ fs) → AllByRecursion P es
  all_left [] fs h = tt
  all_left (e ∷ es) fs h = (h.0, all_left es fs h.1)

  pub all_right : (es fs : List Entry) → AllByRecursion P (es ++ fs) → AllByRecursion P fs
  all_right [] fs h = h
  all_right (e ∷ es) fs h = all_right es fs h.1

  all_put : (k : Key) (v : Option Place) (es : List Entry) → P (k, v) → AllByRecursion P es → AllByRecursion P (put key_cmp k v es)
  all_put k v [] p h = (p, tt)
  all_put k v (e ∷ es) p h =
      elim (key_cmp k e.0) as (λ o. key_cmp k e.0 ≡ o → AllByRecursion P (by_order o ((k, v) ∷ e ∷ es) ((e.0, v) ∷ es) (e ∷ put key_cmp k v es))) [
        | Less ↦ λ q. (p, h)
        | Equal ↦ λ q. (subst (λ (x : Key). P (x, v)) (same_key k e.0 q) p, h.1)
        | Greater ↦ λ q. (h.0, all_put k v es p h.1)
      ] refl

  all_firsts : (es : List Entry) → AllByRecursion P es → AllByRecursion P (firsts es)
  all_firsts [] h = tt
  all_firsts (e ∷ es) h = all_put e.0 e.1 (firsts es) h.0 (all_firsts es h.1)

  all_put_only : (es : List Entry) → AllByRecursion P es → AllByRecursion P (filter (λ x. is_some x.1) es)
  all_put_only [] h = tt
  all_put_only ((q, Some v) ∷ es) h = (h.0, all_put_only es h.1)
  all_put_only ((q, None) ∷ es) h = all_put_only es h.1

  -- what holds of each entry of both holds of each of the output
  pub output_all : (level : ℕ) (es fs : List Entry) → AllByRecursion P es → AllByRecursion P fs → AllByRecursion P (kept_at level (over es fs))
  output_all level es fs h g =
      elim (level == 4) as (λ b. AllByRecursion P (if b then filter (λ x. is_some x.1) (over es fs) else over es fs)) [
        | true ↦ all_put_only (over es fs) (all_firsts (es ++ fs) (all_row es fs h g))
        | false ↦ all_firsts (es ++ fs) (all_row es fs h g)
      ]
