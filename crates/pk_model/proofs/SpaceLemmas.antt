-- One namespace of a map: which keys it has, and what a change of the map does to it.
use Rattle.std.proofs.Common.{◌≡◌, ℕ, ◌≤◌, List, [], ◌∷◌, Bool, true, false, cond, ◌==◌, T, Option, Some, None, refl, sym, ap, subst, ◌∙◌, arith, eqb-true, eq-eqb, filter, is_eq, Equal}
use Rattle.std.{specs.List.AllByRecursion, specs.Ordering.eq_by_cmp}
use Rattle.std.specs.FinMap.{FinMap, get, insert, remove, empty, entries, entries_sorted, entries-from_sorted, get-entries, get-insert, get-remove, get-empty, same_map}
use Rattle.std.specs.FinMap.Entries.{find, where_key, find-where_key, is_sorted-where_key}
use Rattle.pk_base.{specs.Key.Key, specs.Key.key_cmp, specs.Key.space_of, specs.Map.Map, proofs.Logic.equal, proofs.KeyLemmas.same_key}
use Rattle.pk_model.{specs.Spaces.in_space, proofs.MapLemmas.key_total}

pub entries_in : (space : ℕ) (m : Map) → entries (in_space space m) ≡ where_key key_cmp (λ k. space_of k == space) (entries m)
unfolding in_space
entries_in space m = entries-from_sorted key_cmp _ (is_sorted-where_key key_cmp (λ k. space_of k == space) (entries m) (entries_sorted m))

-- keys that tie are the same
pub same_tied : (q k : Key) → eq_by_cmp key_cmp q k ≡ true → q ≡ k
same_tied q k tie = same_key q k (equal (key_cmp q k) tie)

pub by_keys : (m n : Map) → ((q : Key) → get m q ≡ get n q) → m ≡ n
by_keys = same_map key_total same_key

pub get_in_space : (space : ℕ) (m : Map) (q : Key) → get (in_space space m) q ≡ cond (space_of q == space) (get m q) None
get_in_space space m q =
    get-entries (in_space space m) q ∙ ap (find key_cmp q) (entries_in space m)
    ∙ find-where_key key_cmp (λ k. space_of k == space) q (λ x tie. ap (λ k. space_of k == space) (sym (same_key q x tie))) (entries m)
    ∙ ap (λ x. cond (space_of q == space) x None) (sym (get-entries m q))

-- a key of the namespace
pub get_own : (space : ℕ) (m : Map) (bytes : List ℕ) → get (in_space space m) (space ∷ bytes) ≡ get m (space ∷ bytes)
get_own space m bytes = get_in_space space m (space ∷ bytes) ∙ ap (λ t. cond t (get m (space ∷ bytes)) None) (eq-eqb space space refl)

-- ---- a map of which each key is of one namespace

all_pass : (p : Key → Bool) (es : List (Key × List ℕ)) → AllByRecursion (λ e. p e.0 ≡ true) es → where_key key_cmp p es ≡ es
all_pass p [] all = refl
all_pass p (e ∷ es) all = (λ i. cond (all.0 i) (e ∷ where_key key_cmp p es) (where_key key_cmp p es)) ∙ ap (λ more. e ∷ more) (all_pass p es all.1)

pub whole_map : (space : ℕ) (m : Map) → AllByRecursion (λ e. (space_of e.0 == space) ≡ true) (entries m) → in_space space m ≡ m
whole_map space m all = by_keys (in_space space m) m (λ q.
    get-entries (in_space space m) q ∙ ap (find key_cmp q) (entries_in space m ∙ all_pass (λ k. space_of k == space) (entries m) all) ∙ sym (get-entries m q))

pub in_space-empty : (space : ℕ) → in_space space empty ≡ empty
in_space-empty space = by_keys (in_space space empty) empty (λ q. get_in_space space empty q ∙ ap (λ x. cond (space_of q == space) x None) (get-empty key_cmp q) ∙ same_both (space_of q == space) ∙ sym (get-empty key_cmp q))
  where
    same_both : (t : Bool) → ◌≡◌ {A = Option (List ℕ)} (cond t None None) None
    same_both true = refl
    same_both false = refl

-- ---- changes

put_both : {X : Type 0} (tie own : Bool) (v g : Option X) → (tie ≡ true → own ≡ true) → cond own (cond tie v g) None ≡ cond tie v (cond own g None)
put_both true own v g of_own = ap (λ t. cond t v None) (of_own refl)
put_both false own v g of_own = refl

module _ (space : ℕ) (m : Map) (k : Key) (own : space_of k ≡ space) where
  tied_own : (q : Key) → eq_by_cmp key_cmp q k ≡ true → (space_of q == space) ≡ true
  tied_own q tie = eq-eqb (space_of q) space (ap space_of (same_tied q k tie) ∙ own)

  pub in_space-insert : (v : List ℕ) → in_space space (insert m k v) ≡ insert (in_space space m) k v
  in_space-insert v = by_keys _ _ (λ q.
      get_in_space space (insert m k v) q ∙ ap (λ x. cond (space_of q == space) x None) (get-insert key_total m k v q)
      ∙ put_both (eq_by_cmp key_cmp q k) (space_of q == space) (Some v) (get m q) (tied_own q)
      ∙ ap (cond (eq_by_cmp key_cmp q k) (Some v)) (sym (get_in_space space m q)) ∙ sym (get-insert key_total (in_space space m) k v q))

  pub in_space-remove : in_space space (remove m k) ≡ remove (in_space space m) k
  in_space-remove = by_keys _ _ (λ q.
      get_in_space space (remove m k) q ∙ ap (λ x. cond (space_of q == space) x None) (get-remove key_total m k q)
      ∙ put_both (eq_by_cmp key_cmp q k) (space_of q == space) None (get m q) (tied_own q)
      ∙ ap (cond (eq_by_cmp key_cmp q k) None) (sym (get_in_space space m q)) ∙ sym (get-remove key_total (in_space space m) k q))

-- ---- a change in another namespace

module _ (space : ℕ) (m : Map) (k : Key) (other : (space_of k == space) ≡ false) where
  put_other : (own tie : Bool) (v g : Option (List ℕ)) → (tie ≡ true → own ≡ false) → cond own (cond tie v g) None ≡ cond own g None
  put_other own true v g apart = ap (λ t. cond t v None) (apart refl) ∙ ap (λ t. cond t g None) (sym (apart refl))
  put_other own false v g apart = refl

  tied_other : (q : Key) → eq_by_cmp key_cmp q k ≡ true → (space_of q == space) ≡ false
  tied_other q tie = ap (λ x. space_of x == space) (same_tied q k tie) ∙ other

  pub in_space-insert-other : (v : List ℕ) → in_space space (insert m k v) ≡ in_space space m
  in_space-insert-other v = by_keys _ _ (λ q.
      get_in_space space (insert m k v) q ∙ ap (λ x. cond (space_of q == space) x None) (get-insert key_total m k v q)
      ∙ put_other (space_of q == space) (eq_by_cmp key_cmp q k) (Some v) (get m q) (tied_other q) ∙ sym (get_in_space space m q))
