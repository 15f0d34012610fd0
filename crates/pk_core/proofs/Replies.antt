-- The keys that a List gives are those of the map.
use Rattle.std.proofs.Common.{◌≡◌, ◌==◌, ℕ, suc, ◌<◌, ◌≤◌, Bool, true, false, T, cond, refl, sym, ap, subst, ◌∙◌, not, List, [], ◌∷◌, ◌++◌, length, map, reverse, Option, if◌then◌else◌, arith, eq-eqb}
use Rattle.std.proofs.Common.{ne_eqb}
use Rattle.std.{proofs.lemmas.Cmp.ranked, specs.declared.cmp.Ordering.TheVariants.Less, specs.declared.cmp.Ordering.TheVariants.Equal, specs.declared.cmp.Ordering.TheVariants.Greater}
use Rattle.std.{proofs.lemmas.Bool.Decides.nat_tests, specs.List.flat_map, specs.List.AllByRecursion, specs.FinMap.entries, specs.FinMap.entries_sorted}
use Rattle.std.specs.Ordering.{MatchOrdering, nat_cmp, is_lt, ordering_then}
use Rattle.std.specs.FinMap.Entries.{find, is_sorted, below_all, where_key}
use Rattle.pk_base.{specs.Fields.AreBytes, specs.Key.Key, specs.Key.IsKey, specs.Key.key_cmp, specs.Key.space_of, proofs.KeyLemmas.least_key, proofs.Logic.left_part, proofs.Logic.right_part}
use Rattle.pk_base.{specs.Shape.Shape, specs.Shape.IsShape, specs.Page.Flash, specs.Entry.Entry, specs.Entry.Place, specs.Firsts.firsts, specs.Map.Map, specs.Map.IsMap, specs.Map.keys_from}
use Rattle.pk_model.{specs.Spaces.in_space, proofs.SpaceLemmas.entries_in, specs.Found.Found, specs.Found.entries_in_order, proofs.Lookups.flat, proofs.Lookups.find-firsts}
use Rattle.pk_model.proofs.Merges.{first_some, first_some_assoc, find-append_lists, same_placed}
use Rattle.pk_rootfmt.specs.Root.{Root}
use Rattle.pk_law_steps.{specs.Under.places, proofs.Counting.counts}
use Rattle.pk_walk.specs.Visible.{visible}
use Rattle.pk_parts.{specs.Parts.Parts, specs.Agreeing.DriveOnFlashWith}
use Rattle.pk_parts.specs.Keys.{keys_of, not_below, keys_there}
use Rattle.pk_core.specs.Listed.{least_in, own_keys}

-- ---- the keys that exist

-- the entry that counts of a key, in the buffers and the runs, and among the entries that they have
same_found : (q : Key) (n o r : List Entry) → find key_cmp q (firsts n ++ (firsts o ++ r)) ≡ find key_cmp q ((n ++ o) ++ r)
same_found q n o r =
    find-append_lists q (firsts n) (firsts o ++ r)
    ∙ (λ i. first_some (find-firsts q n i) (find-append_lists q (firsts o) r i))
    ∙ ap (λ (x : Option (Option Place)). first_some (find key_cmp q n) (first_some x (find key_cmp q r))) (find-firsts q o)
    ∙ sym (first_some_assoc (find key_cmp q n) (find key_cmp q o) (find key_cmp q r))
    ∙ ap (λ (x : Option (Option Place)). first_some x (find key_cmp q r)) (sym (find-append_lists q n o))
    ∙ sym (find-append_lists q (n ++ o) r)

pub places_visible : (found : Found) (pending : List Entry) → visible (firsts (reverse (found.newest ++ pending)) ∷ firsts (reverse found.older) ∷ found.runs) ≡ places found pending
places_visible found pending =
    let n = reverse (found.newest ++ pending) in
    let o = reverse found.older in
    let r = flat_map (λ es. es) found.runs in
    same_placed (firsts n ++ (firsts o ++ r)) (entries_in_order found pending) (λ q. ap flat (same_found q n o r))

pub keys_listed : (d : Parts) (shape : Shape) (flash : Flash) (top : ℕ × Root) (found : Found) (without all : Map) (from : Key) → DriveOnFlashWith d shape flash top found without all
    → keys_there from (d.log.active.entries ∷ d.log.frozen.entries ∷ found.runs) ≡ keys_from from all
keys_listed d shape flash top found without all from with =
    let is_shape = subst IsShape with.shape_is with.index.logs.is_shape in
    ap (λ (es : List (Key × Place)). not_below from (keys_of es))
    ((λ i. visible ((with.index.logs.active_is i).entries ∷ (with.index.logs.frozen_is i).entries ∷ found.runs)) ∙ places_visible found d.log.pending)
    ∙ ap (not_below from) (sym (counts shape flash d.log.pending top found all is_shape with.is_flash with.pending).keys_are)

-- ---- the keys from the least of a namespace on

pub least_of_none : (values : ℕ) (bytes : List ℕ) → true ≡ (length bytes == 0) → values ∷ 0 ∷ [] ≡ least_in values bytes
least_of_none values [] e = refl
least_of_none values (b ∷ bytes) e = let some : (suc (length bytes) == 0) ≡ false = grind (arith, nat_tests) in cc

pub least_of_some : (values : ℕ) (bytes : List ℕ) → false ≡ (length bytes == 0) → values ∷ bytes ≡ least_in values bytes
least_of_some values [] e = absurd (let clash : false ≡ true = e in cc)
least_of_some values (b ∷ bytes) e = refl

not_lower : (values : ℕ) (bytes : List ℕ) (key : Key) → IsKey key → is_lt (key_cmp key (least_in values bytes)) ≡ is_lt (key_cmp key (values ∷ bytes))
not_lower values [] key is = least_key values key is
not_lower values (b ∷ bytes) key is = refl

kept_from : (values : ℕ) (bytes : List ℕ) (es : List (Key × List ℕ)) → AllByRecursion (λ (e : Key × List ℕ). IsKey e.0 × AreBytes e.0) es
    → not_below (least_in values bytes) (map (λ e. e.0) es) ≡ not_below (values ∷ bytes) (map (λ e. e.0) es)
kept_from values bytes [] all = refl
kept_from values bytes (e ∷ es) all =
    ap (λ b. if not b then e.0 ∷ not_below (least_in values bytes) (map (λ e. e.0) es) else not_below (least_in values bytes) (map (λ e. e.0) es)) (not_lower values bytes e.0 all.0.0)
    ∙ ap (λ (ks : List Key). if not (is_lt (key_cmp e.0 (values ∷ bytes))) then e.0 ∷ ks else ks) (kept_from values bytes es all.1)

pub keys_begun : (shape : Shape) (m : Map) (values : ℕ) (bytes : List ℕ) → IsMap shape m → keys_from (least_in values bytes) m ≡ keys_from (values ∷ bytes) m
keys_begun shape m values bytes is = kept_from values bytes (entries m) is.keys

-- ---- those of a namespace

-- a key that is not below one of a namespace is of no earlier one
space_least : (space : ℕ) (bytes : List ℕ) (k : Key) → is_lt (key_cmp k (space ∷ bytes)) ≡ false → space ≤ space_of k
space_least space bytes [] e = let clash : true ≡ false = e in cc
space_least space bytes (s ∷ k) e =
    elim (nat_cmp s space) as (λ o. MatchOrdering o (s < space) (s ≡ space) (space < s) → is_lt (ordering_then o (key_cmp k bytes)) ≡ false → space ≤ s) [
      | Less ↦ λ low f. let clash : true ≡ false = f in cc
      | Equal ↦ λ same f. omega (arith, same)
      | Greater ↦ λ high f. omega (arith, high)
    ] (ranked s space (nat_cmp s space) refl) e

-- nor is a later key
space_later : (a b : Key) → T (is_lt (key_cmp a b)) → space_of a ≤ space_of b
space_later [] b less = omega arith
space_later (s ∷ a) [] less = absurd less
space_later (s ∷ a) (t ∷ b) less =
    elim (nat_cmp s t) as (λ o. MatchOrdering o (s < t) (s ≡ t) (t < s) → T (is_lt (ordering_then o (key_cmp a b))) → s ≤ t) [
      | Less ↦ λ low f. omega (arith, low)
      | Equal ↦ λ same f. omega (arith, same)
      | Greater ↦ λ high f. absurd f
    ] (ranked s t (nat_cmp s t) refl) less

abbrev Kept : ℕ → List (Key × List ℕ) → List (Key × List ℕ)
Kept space es = where_key key_cmp (λ k. space_of k == space) es

abbrev only_keys : List (Key × List ℕ) → List Key
only_keys es = map (λ e. e.0) es

-- none of this namespace follows a key of a later one
none_later : (space : ℕ) (k : Key) (es : List (Key × List ℕ)) → space < space_of k → T (below_all key_cmp k es) → Kept space es ≡ []
none_later space k [] later below = refl
none_later space k (e ∷ es) later below =
    let up = space_later k e.0 (left_part (is_lt (key_cmp k e.0)) (below_all key_cmp k es) below) in
    let other : (space_of e.0 == space) ≡ false = ne_eqb (space_of e.0) space (λ same. omega (arith, same, up, later)) in
    ap (λ (b : Bool). cond b (e ∷ Kept space es) (Kept space es)) other ∙ none_later space k es later (right_part (is_lt (key_cmp k e.0)) (below_all key_cmp k es) below)

own_from : (space : ℕ) (bytes : List ℕ) (es : List (Key × List ℕ)) → T (is_sorted key_cmp es)
    → own_keys space (not_below (space ∷ bytes) (only_keys es)) ≡ not_below (space ∷ bytes) (only_keys (Kept space es))
own_from space bytes [] rising = refl
own_from space bytes (e ∷ es) rising =
    let from : Key = space ∷ bytes in
    let below = left_part (below_all key_cmp e.0 es) (is_sorted key_cmp es) rising in
    let rest = own_from space bytes es (right_part (below_all key_cmp e.0 es) (is_sorted key_cmp es) rising) in
    let here : List Key = not_below from (only_keys es) in
    let kept : List Key = not_below from (only_keys (Kept space es)) in
    elim (is_lt (key_cmp e.0 from)) as (λ b. is_lt (key_cmp e.0 from) ≡ b → own_keys space (not_below from (only_keys (e ∷ es))) ≡ not_below from (only_keys (Kept space (e ∷ es)))) [
      | true ↦ λ low.
          let one : not_below from (only_keys (e ∷ es)) ≡ here = ap (λ (b : Bool). if not b then e.0 ∷ here else here) low in
          let first : (ks : List (Key × List ℕ)) → not_below from (only_keys (e ∷ ks)) ≡ not_below from (only_keys ks) =
          λ ks. ap (λ (b : Bool). if not b then e.0 ∷ not_below from (only_keys ks) else not_below from (only_keys ks)) low in
          let two : not_below from (only_keys (Kept space (e ∷ es))) ≡ kept =
          elim (space_of e.0 == space) as (λ t. not_below from (only_keys (cond t (e ∷ Kept space es) (Kept space es))) ≡ kept) [ true ↦ first (Kept space es) | false ↦ refl ] in
          ap (own_keys space) one ∙ rest ∙ sym two
      | false ↦ λ high.
          let stays : (ks : List (Key × List ℕ)) → not_below from (only_keys (e ∷ ks)) ≡ e.0 ∷ not_below from (only_keys ks) =
          λ ks. ap (λ (b : Bool). if not b then e.0 ∷ not_below from (only_keys ks) else not_below from (only_keys ks)) high in
          ap (own_keys space) (stays es)
          ∙ elim (space_of e.0 == space) as (λ t. (space_of e.0 == space) ≡ t
          → (if t then e.0 ∷ own_keys space here else []) ≡ not_below from (only_keys (cond t (e ∷ Kept space es) (Kept space es)))) [
            | true ↦ λ own. ap (λ (ks : List Key). e.0 ∷ ks) rest ∙ sym (stays (Kept space es))
            | false ↦ λ other.
                let least = space_least space bytes e.0 high in
                let apart : space ≡ space_of e.0 → ⊥ = λ same. let is = eq-eqb (space_of e.0) space (sym same) in let clash : true ≡ false = sym is ∙ other in cc in
                let later : space < space_of e.0 = grind (arith, least, apart) in
                sym (ap (λ (ks : List (Key × List ℕ)). not_below from (only_keys ks)) (none_later space e.0 es later below))
          ] refl
    ] refl

-- a List of a namespace gives the keys of that part of the map
pub keys_own : (shape : Shape) (m : Map) (space : ℕ) (bytes : List ℕ) → IsMap shape m → own_keys space (keys_from (least_in space bytes) m) ≡ keys_from (space ∷ bytes) (in_space space m)
keys_own shape m space bytes is =
    ap (own_keys space) (keys_begun shape m space bytes is) ∙ own_from space bytes (entries m) (entries_sorted m)
    ∙ ap (λ (es : List (Key × List ℕ)). not_below (space ∷ bytes) (only_keys es)) (sym (entries_in space m))
