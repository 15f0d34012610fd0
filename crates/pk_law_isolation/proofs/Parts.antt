-- One namespace of a map, and the map of a drive that has it alone.
use Rattle.std.proofs.Common.{◌≡◌, ℕ, ◌≤◌, ◌∷◌, List, length, Bool, true, false, cond, refl, sym, ap, ◌∙◌, ◌==◌, T, subst, Some, None, Option, is_eq, arith}
use Rattle.std.specs.FinMap.{get, insert, remove, len, entries, entries_sorted, entries-from_sorted, get-entries, get-insert, get-remove, len-entries}
use Rattle.std.{specs.Ordering.eq_by_cmp, specs.FinMap.Entries.find}
use Rattle.pk_base.{specs.Key.Key, specs.Key.key_cmp, specs.Key.space_of, specs.Key.bytes_of, specs.Shape.Shape, specs.Map.Map, specs.Map.live, specs.Map.pages_in}
use Rattle.pk_model.{specs.Spaces.in_space, proofs.MapLemmas.key_total, proofs.SpaceLemmas.entries_in, proofs.SpaceLemmas.by_keys, proofs.SpaceLemmas.get_in_space, proofs.SpaceLemmas.get_own}
use Rattle.pk_law_isolation.{specs.Isolation.entries_moved, specs.Isolation.map_alone, proofs.Keys.first_tie, proofs.Keys.tagged_cmp, proofs.Keys.apart, proofs.Keys.is_in}
use Rattle.pk_law_isolation.proofs.Lists.{AllIn, all_in, sorted_moved, find_moved, find_other, pages_moved, length_moved}

module _ (space : ℕ) (some : 1 ≤ space) where
  pub part_in : (m : Map) → AllIn space (entries (in_space space m))
  part_in m = subst (AllIn space) (sym (entries_in space m)) (all_in space (entries m) some)

  pub entries_alone : (m : Map) → entries (map_alone space m) ≡ entries_moved (entries (in_space space m))
  entries_alone m = entries-from_sorted key_cmp (entries_moved (entries (in_space space m)))
      (subst T (sym (sorted_moved space (entries (in_space space m)) (part_in m))) (entries_sorted (in_space space m)))

  -- the value of a key of that drive
  pub get_alone : (m : Map) (q : Key) → get (map_alone space m) q ≡ cond (space_of q == 1) (get m (space ∷ bytes_of q)) None
  get_alone m q = get-entries (map_alone space m) q ∙ ap (find key_cmp q) (entries_alone m)
      ∙ elim (space_of q == 1) as (λ t. (space_of q == 1) ≡ t → find key_cmp q (entries_moved (entries (in_space space m))) ≡ cond t (get m (space ∷ bytes_of q)) None) [
        | true ↦ λ is. ap (λ k. find key_cmp k (entries_moved (entries (in_space space m)))) (of_first q is)
            ∙ find_moved space (bytes_of q) (entries (in_space space m)) (part_in m) ∙ sym (get-entries (in_space space m) (space ∷ bytes_of q)) ∙ get_own space m (bytes_of q)
        | false ↦ λ is. find_other q (entries (in_space space m)) is
      ] refl
    where
      of_first : (k : Key) → (space_of k == 1) ≡ true → k ≡ 1 ∷ bytes_of k
      of_first k is = is_in 1 k (omega arith) is

  pub get_first : (m : Map) (b : List ℕ) → get (map_alone space m) (1 ∷ b) ≡ get m (space ∷ b)
  get_first m b = get_alone m (1 ∷ b)

  pub live_alone : (shape : Shape) (m : Map) → live shape (map_alone space m) ≡ live shape (in_space space m)
  live_alone shape m = ap (pages_in shape) (entries_alone m) ∙ pages_moved shape (entries (in_space space m))

  pub len_alone : (m : Map) → len (map_alone space m) ≡ len (in_space space m)
  len_alone m = len-entries (map_alone space m) ∙ ap length (entries_alone m) ∙ length_moved (entries (in_space space m)) ∙ sym (len-entries (in_space space m))

  -- ---- changes in this namespace, and in another one

  twice : {A : Type 0} (t e : Bool) (x y z : A) → cond t (cond e x y) z ≡ cond (cond t e false) x (cond t y z)
  twice true e x y z = refl
  twice false e x y z = refl

  ties : (b c : List ℕ) → eq_by_cmp key_cmp (space ∷ b) (space ∷ c) ≡ eq_by_cmp key_cmp b c
  ties b c = ap is_eq (tagged_cmp space b c)

  -- a map with one other value in this namespace, and one with it in the first
  set_alike : (m n a : Map) (b : List ℕ) (v : Option (List ℕ)) → ((d : List ℕ) → get n (space ∷ d) ≡ cond (eq_by_cmp key_cmp (space ∷ d) (space ∷ b)) v (get m (space ∷ d)))
      → ((q : Key) → get a q ≡ cond (eq_by_cmp key_cmp q (1 ∷ b)) v (get (map_alone space m) q)) → map_alone space n ≡ a
  set_alike m n a b v here there = by_keys _ _ (λ q.
      get_alone n q
      ∙ ap (λ x. cond (space_of q == 1) x None) (here (bytes_of q) ∙ ap (λ e. cond e v (get m (space ∷ bytes_of q))) (ties (bytes_of q) b))
      ∙ twice (space_of q == 1) (eq_by_cmp key_cmp (bytes_of q) b) v (get m (space ∷ bytes_of q)) None
      ∙ (λ i. cond (sym (first_tie q b) i) v (sym (get_alone m q) i))
      ∙ sym (there q))

  pub alone_insert : (m : Map) (b : List ℕ) (v : List ℕ) → map_alone space (insert m (space ∷ b) v) ≡ insert (map_alone space m) (1 ∷ b) v
  alone_insert m b v = set_alike m _ _ b (Some v) (λ d. get-insert key_total m (space ∷ b) v (space ∷ d)) (get-insert key_total (map_alone space m) (1 ∷ b) v)

  pub alone_remove : (m : Map) (b : List ℕ) → map_alone space (remove m (space ∷ b)) ≡ remove (map_alone space m) (1 ∷ b)
  alone_remove m b = set_alike m _ _ b None (λ d. get-remove key_total m (space ∷ b) (space ∷ d)) (get-remove key_total (map_alone space m) (1 ∷ b))

  -- a map with the same values in this namespace
  alike : (m n : Map) → ((b : List ℕ) → get n (space ∷ b) ≡ get m (space ∷ b)) → map_alone space n ≡ map_alone space m
  alike m n same = by_keys _ _ (λ q. get_alone n q ∙ ap (λ x. cond (space_of q == 1) x None) (same (bytes_of q)) ∙ sym (get_alone m q))

  module _ (other : ℕ) (differ : (space == other) ≡ false) where
    pub insert_elsewhere : (m : Map) (b : List ℕ) (v : List ℕ) → map_alone space (insert m (other ∷ b) v) ≡ map_alone space m
    insert_elsewhere m b v = alike m (insert m (other ∷ b) v) (λ d.
        get-insert key_total m (other ∷ b) v (space ∷ d) ∙ ap (λ e. cond e (Some v) (get m (space ∷ d))) (apart space other d b differ))

    pub remove_elsewhere : (m : Map) (b : List ℕ) → map_alone space (remove m (other ∷ b)) ≡ map_alone space m
    remove_elsewhere m b = alike m (remove m (other ∷ b)) (λ d. get-remove key_total m (other ∷ b) (space ∷ d) ∙ ap (λ e. cond e None (get m (space ∷ d))) (apart space other d b differ))

  -- the drive that has this namespace alone has nothing outside its first one
  pub first_alone : (m : Map) → in_space 1 (map_alone space m) ≡ map_alone space m
  first_alone m = by_keys _ _ (λ q. get_in_space 1 (map_alone space m) q ∙ ap (λ x. cond (space_of q == 1) x None) (get_alone m q)
      ∙ once (space_of q == 1) (get m (space ∷ bytes_of q)) ∙ sym (get_alone m q))
    where
      once : (t : Bool) (x : Option (List ℕ)) → cond t (cond t x None) None ≡ cond t x None
      once true x = refl
      once false x = refl
