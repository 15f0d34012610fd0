-- What holds of every entry of a map, after one is put in or removed.
use Rattle.std.proofs.Common.{◌≡◌, ℕ, ◌≤◌, refl, sym, ap, subst, ◌∙◌, true, false, cond, T, List, [], ◌∷◌, length, Option, Some, None}
use Rattle.std.{proofs.lemmas.List.nil_from_length, specs.Ordering.is_eq, specs.Ordering.eq_by_cmp, specs.Cmp.tied_itself, specs.List.AllByRecursion}
use Rattle.std.specs.FinMap.{get, insert, remove, empty, entries, entries_sorted, get-entries, get-insert, get-remove, len-entries, len-empty}
use Rattle.std.specs.FinMap.Entries.{find, is_sorted, below_all}
use Rattle.pk_base.{specs.Key.Key, specs.Key.IsKey, specs.Key.key_cmp, specs.Fields.AreBytes, specs.Shape.Shape, specs.Shape.greatest, specs.Map.Map, specs.Map.IsMap}
use Rattle.pk_base.proofs.Logic.{left_part, right_part, equal, some_same}
use Rattle.pk_model.proofs.MapLemmas.{key_total, key_antisymm, missing}

module _ (P : Key × List ℕ → Type 0) where
  -- an entry that is found is one of them
  found_in : (es : List (Key × List ℕ)) → AllByRecursion P es → (q : Key) (v : List ℕ) → find key_cmp q es ≡ Some v → P (q, v)
  found_in [] h q v e = cc
  found_in (x ∷ es) h q v e =
      elim (eq_by_cmp key_cmp q x.0) as (λ b. eq_by_cmp key_cmp q x.0 ≡ b → cond b (Some x.1) (find key_cmp q es) ≡ Some v → P (q, v)) [
        | true ↦ λ t f. subst P (λ i. (sym (key_antisymm q x.0 (equal (key_cmp q x.0) t)) i, some_same x.1 v f i)) h.0
        | false ↦ λ t f. found_in es h.1 q v f
      ] refl e

  -- each of them is found
  all_found : (es : List (Key × List ℕ)) → T (is_sorted key_cmp es) → ((q : Key) (v : List ℕ) → find key_cmp q es ≡ Some v → P (q, v)) → AllByRecursion P es
  all_found [] s h = tt
  all_found (x ∷ es) s h = (
    h x.0 x.1 (ap (λ r. cond (is_eq r) (Some x.1) (find key_cmp x.0 es)) (tied_itself key_total x.0)),
    all_found es (right_part (below_all key_cmp x.0 es) (is_sorted key_cmp es) s) (λ q v e. h q v (
        elim (eq_by_cmp key_cmp q x.0) as (λ b. eq_by_cmp key_cmp q x.0 ≡ b → cond b (Some x.1) (find key_cmp q es) ≡ Some v) [
          | true ↦ λ t. absurd (
              let none : find key_cmp q es ≡ None =
              ap (λ k. find key_cmp k es) (key_antisymm q x.0 (equal (key_cmp q x.0) t)) ∙ missing x.0 es (left_part (below_all key_cmp x.0 es) (is_sorted key_cmp es) s) in cc)
          | false ↦ λ t. e
        ] refl)),
  )

  all_entries : (m : Map) → ((q : Key) (v : List ℕ) → get m q ≡ Some v → P (q, v)) → AllByRecursion P (entries m)
  all_entries m h = all_found (entries m) (entries_sorted m) (λ q v e. h q v (get-entries m q ∙ e))

  entry_of : (m : Map) → AllByRecursion P (entries m) → (q : Key) (v : List ℕ) → get m q ≡ Some v → P (q, v)
  entry_of m h q v e = found_in (entries m) h q v (sym (get-entries m q) ∙ e)

  all_insert : (m : Map) (k : Key) (v : List ℕ) → AllByRecursion P (entries m) → P (k, v) → AllByRecursion P (entries (insert m k v))
  all_insert m k v h p = all_entries (insert m k v) (λ q w e.
      elim (eq_by_cmp key_cmp q k) as (λ b. eq_by_cmp key_cmp q k ≡ b → cond b (Some v) (get m q) ≡ Some w → P (q, w)) [
        | true ↦ λ t f. subst P (λ i. (sym (key_antisymm q k (equal (key_cmp q k) t)) i, some_same v w f i)) p
        | false ↦ λ t f. entry_of m h q w f
      ] refl (sym (get-insert key_total m k v q) ∙ e))

  all_remove : (m : Map) (k : Key) → AllByRecursion P (entries m) → AllByRecursion P (entries (remove m k))
  all_remove m k h = all_entries (remove m k) (λ q w e.
      elim (eq_by_cmp key_cmp q k) as (λ b. cond b None (get m q) ≡ Some w → P (q, w)) [
        | true ↦ λ f. absurd (let clash : ◌≡◌ {A = Option (List ℕ)} None (Some w) = f in cc)
        | false ↦ λ f. entry_of m h q w f
      ] (sym (get-remove key_total m k q) ∙ e))

-- ---- maps of a shape

pub map_empty : (shape : Shape) → IsMap shape empty
map_empty shape =
    let none : entries {R = key_cmp} empty ≡ [] = nil_from_length (entries {R = key_cmp} empty) (sym (len-entries empty) ∙ len-empty key_cmp (List ℕ)) in
    record {
      keys = subst (AllByRecursion (λ (e : Key × List ℕ). IsKey e.0 × AreBytes e.0)) (sym none) tt;
      values = subst (AllByRecursion (λ (e : Key × List ℕ). (length e.1 ≤ greatest shape) × AreBytes e.1)) (sym none) tt;
    }

pub map_insert : (shape : Shape) (m : Map) (k : Key) (v : List ℕ) → IsMap shape m → IsKey k → AreBytes k → length v ≤ greatest shape → AreBytes v → IsMap shape (insert m k v)
map_insert shape m k v h key key_bytes small bytes = record {
  keys = all_insert (λ e. IsKey e.0 × AreBytes e.0) m k v h.keys (key, key_bytes);
  values = all_insert (λ e. (length e.1 ≤ greatest shape) × AreBytes e.1) m k v h.values (small, bytes);
}

pub map_remove : (shape : Shape) (m : Map) (k : Key) → IsMap shape m → IsMap shape (remove m k)
map_remove shape m k h = record {
  keys = all_remove (λ e. IsKey e.0 × AreBytes e.0) m k h.keys;
  values = all_remove (λ e. (length e.1 ≤ greatest shape) × AreBytes e.1) m k h.values;
}
