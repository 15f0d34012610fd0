-- A tree's entries as a finite map.
use Rattle.std.proofs.Common.{◌≡◌, ℕ, refl, sym, ap, ◌∙◌, cond, T, List, [], ◌∷◌, length, Some, None}
use Rattle.std.specs.FinMap.{get, insert, remove, len, entries, from_entries, from_sorted, get-from_entries, get-from_sorted, entries-from_sorted, get-insert, get-remove, len-entries, same_map}
use Rattle.std.{specs.declared.cmp.Ordering.TheVariants.Less, specs.Ordering.is_eq, specs.Ordering.eq_by_cmp, specs.Cmp.eq_by_cmp_equiv, specs.List.AllByRecursion, specs.Map.lookup, specs.Map.keys_of}
use Rattle.std.{specs.List.Sorted.IsStrictlySortedBy, specs.FinMap.Entries.find, specs.FinMap.Entries.is_sorted, specs.FinMap.Entries.below_all}
use Rattle.pk_base.{specs.Key.Key, specs.Key.key_cmp, proofs.Logic.both}
use Rattle.pk_model.proofs.MapLemmas.{key_total, key_antisymm}

pub find-lookup : (q : Key) (es : List (Key × List ℕ)) → find key_cmp q es ≡ lookup (λ k. is_eq (key_cmp q k)) es
find-lookup q [] = refl
find-lookup q (e ∷ es) = ap (cond (is_eq (key_cmp q e.0)) (Some e.1)) (find-lookup q es)

pub get-tree : (es : List (Key × List ℕ)) (q : Key) → get (from_entries {R = key_cmp} es) q ≡ lookup (λ k. is_eq (key_cmp q k)) es
get-tree es q = get-from_entries key_total es q ∙ find-lookup q es

turned : (k q : Key) → eq_by_cmp key_cmp k q ≡ eq_by_cmp key_cmp q k
turned k q = (eq_by_cmp_equiv key_total).symm k q

-- a tree in which a key has this value, and everything else is unchanged
pub insert-tree : (es new : List (Key × List ℕ)) (k : Key) (v : List ℕ)
    → ((q : Key) → lookup (λ x. is_eq (key_cmp q x)) new ≡ cond (is_eq (key_cmp k q)) (Some v) (lookup (λ x. is_eq (key_cmp q x)) es))
    → from_entries {R = key_cmp} new ≡ insert (from_entries {R = key_cmp} es) k v
insert-tree es new k v h = same_map key_total key_antisymm _ _ (λ q.
    get-tree new q ∙ h q ∙ ap (λ b. cond b (Some v) (lookup (λ x. is_eq (key_cmp q x)) es)) (turned k q)
    ∙ ap (cond (eq_by_cmp key_cmp q k) (Some v)) (sym (get-tree es q)) ∙ sym (get-insert key_total (from_entries es) k v q))

-- a tree from which a key was removed
pub remove-tree : (es new : List (Key × List ℕ)) (k : Key)
    → ((q : Key) → lookup (λ x. is_eq (key_cmp q x)) new ≡ cond (is_eq (key_cmp k q)) None (lookup (λ x. is_eq (key_cmp q x)) es))
    → from_entries {R = key_cmp} new ≡ remove (from_entries {R = key_cmp} es) k
remove-tree es new k h = same_map key_total key_antisymm _ _ (λ q.
    get-tree new q ∙ h q ∙ ap (λ b. cond b None (lookup (λ x. is_eq (key_cmp q x)) es)) (turned k q)
    ∙ ap (cond (eq_by_cmp key_cmp q k) None) (sym (get-tree es q)) ∙ sym (get-remove key_total (from_entries es) k q))

below : (k : Key) (es : List (Key × List ℕ)) → AllByRecursion (λ y. key_cmp k y ≡ Less) (keys_of es) → T (below_all key_cmp k es)
below k [] h = tt
below k (e ∷ es) h = rw h.0 (below k es h.1)

pub sorted-tree : (es : List (Key × List ℕ)) → IsStrictlySortedBy key_cmp (keys_of es) → T (is_sorted key_cmp es)
unfolding IsStrictlySortedBy
sorted-tree [] h = tt
sorted-tree (e ∷ es) h = both _ _ (below e.0 es h.0) (sorted-tree es h.1)

-- the entries of a tree are those of its map, in order
pub entries-tree : (es : List (Key × List ℕ)) → IsStrictlySortedBy key_cmp (keys_of es) → entries (from_entries {R = key_cmp} es) ≡ es
entries-tree es h =
    let rising : T (is_sorted key_cmp es) = sorted-tree es h in
    let same : from_entries {R = key_cmp} es ≡ from_sorted es = same_map key_total key_antisymm _ _ (λ q. get-from_entries key_total es q ∙ sym (get-from_sorted key_cmp es q rising)) in
    ap entries same ∙ entries-from_sorted key_cmp es rising

pub len-tree : (es : List (Key × List ℕ)) → IsStrictlySortedBy key_cmp (keys_of es) → length es ≡ len (from_entries {R = key_cmp} es)
len-tree es h = ap length (sym (entries-tree es h)) ∙ sym (len-entries (from_entries es))
