-- Entries that rise by key, and follow others: it is enough to compare the last key with the next one.
use Rattle.std.proofs.Common.{◌≡◌, T, List, [], ◌∷◌, ◌++◌, sym, subst, Less}
use Rattle.std.{specs.Ordering.is_lt, specs.FinMap.Entries.is_sorted, specs.FinMap.Entries.below_all, proofs.lemmas.Cmp.nat_list_cmp_total}
use Rattle.pk_base.{specs.Key.Key, specs.Key.key_cmp, specs.Entry.Entry, specs.Entry.key_of, proofs.Logic.left_part, proofs.Logic.right_part, proofs.Logic.both, proofs.Logic.less}

-- what is above a key is above a smaller one
below_less : (a b : Key) (es : List Entry) → T (is_lt (key_cmp a b)) → T (below_all key_cmp b es) → T (below_all key_cmp a es)
below_less a b [] p h = tt
below_less a b (e ∷ es) p h =
    let first : key_cmp b e.0 ≡ Less = less _ (left_part _ _ h) in
    both _ _ (subst (λ o. T (is_lt o)) (sym (nat_list_cmp_total.trans a b e.0 (less _ p) first)) tt) (below_less a b es p (right_part _ _ h))

below_both : (key : Key) (xs ys : List Entry) → T (below_all key_cmp key xs) → T (below_all key_cmp key ys) → T (below_all key_cmp key (xs ++ ys))
below_both key [] ys p q = q
below_both key (x ∷ xs) ys p q = both _ _ (left_part _ _ p) (below_both key xs ys (right_part _ _ p) q)

below_back : (key : Key) (xs ys : List Entry) → T (below_all key_cmp key (xs ++ ys)) → T (below_all key_cmp key ys)
below_back key [] ys p = p
below_back key (x ∷ xs) ys p = below_back key xs ys (right_part _ _ p)

-- the last entry is below the next
pub rises_behind : (front : List Entry) (last next : Entry) (more : List Entry) → T (is_sorted key_cmp (front ++ last ∷ []))
    → T (is_sorted key_cmp (next ∷ more)) → T (is_lt (key_cmp (key_of last) (key_of next)))
    → T (is_sorted key_cmp ((front ++ last ∷ []) ++ next ∷ more))
rises_behind [] last next more up up' less_than =
    both _ _ (both _ _ less_than (below_less last.0 next.0 more less_than (left_part _ _ up'))) up'
rises_behind (x ∷ front) last next more up up' less_than =
    let low : T (is_lt (key_cmp x.0 last.0)) = left_part _ _ (below_back x.0 front (last ∷ []) (left_part _ _ up)) in
    let all : T (below_all key_cmp x.0 (last ∷ next ∷ more)) = both _ _ low
    (below_less x.0 last.0 (next ∷ more) low (both _ _ less_than (below_less last.0 next.0 more less_than (left_part _ _ up')))) in
    both _ _ (below_both x.0 (front ++ last ∷ []) (next ∷ more) (left_part _ _ up) (right_part _ _ all)) (rises_behind front last next more (right_part _ _ up) up' less_than)

-- the other way round
pub lies_behind : (front : List Entry) (last next : Entry) (more : List Entry) → T (is_sorted key_cmp ((front ++ last ∷ []) ++ next ∷ more)) → T (is_lt (key_cmp (key_of last) (key_of next)))
lies_behind [] last next more up = left_part _ _ (left_part _ _ up)
lies_behind (x ∷ front) last next more up = lies_behind front last next more (right_part _ _ up)
