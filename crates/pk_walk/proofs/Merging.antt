-- The first wanted entry of several sorted lists is the least of the first wanted entries of each.
use Rattle.std.proofs.Common.{◌≡◌, refl, sym, ap, subst, ◌∙◌, Bool, true, false, cond, T, if◌then◌else◌, List, [], ◌∷◌, ◌++◌, Option, Some, None}
use Rattle.std.{specs.Prelude.⊤, specs.List.flat_map, specs.declared.cmp.Ordering.Ordering, specs.Ordering.is_lt, specs.Ordering.is_gt, specs.Ordering.is_eq, specs.Ordering.eq_by_cmp}
use Rattle.std.{specs.declared.cmp.Ordering.TheVariants.Less, specs.declared.cmp.Ordering.TheVariants.Equal, specs.declared.cmp.Ordering.TheVariants.Greater, proofs.lemmas.Cmp.tied_itself}
use Rattle.std.specs.FinMap.Entries.{find, is_sorted, below_all}
use Rattle.pk_base.{specs.Key.Key, specs.Key.key_cmp, specs.Entry.Entry, specs.Entry.Place, specs.Firsts.firsts, proofs.KeyLemmas.turned, proofs.KeyLemmas.firsts_sorted}
use Rattle.pk_base.proofs.Logic.{of_true, left_part, right_part, both}
use Rattle.pk_model.{proofs.MapLemmas.key_total, proofs.MapLemmas.key_antisymm, proofs.MapLemmas.missing, proofs.MapLemmas.below_less, proofs.Lookups.find-firsts}
use Rattle.pk_walk.specs.Visible.{wanted, first_of, lesser, least_first}

-- ---- the order of keys

-- a key is not below another
abbrev pub IsNotBelow : Key → Key → Type 0
IsNotBelow a b = key_cmp a b ≡ Less → ⊥

below_not_above : (a b c : Key) (o : Ordering) → key_cmp b c ≡ o → T (if is_gt o then false else true) → key_cmp a b ≡ Less → key_cmp a c ≡ Less
below_not_above a b c Less q p low = key_total.trans a b c low q
below_not_above a b c Equal q p low = subst (λ (k : Key). key_cmp a k ≡ Less) (key_antisymm b c q) low
below_not_above a b c Greater q p low = absurd p

-- ---- the least wanted key of what is found

-- what is found by f has this least entry among those wanted
abbrev pub IsLeast : (Key → Option (Option Place)) → (Key → Bool) → Option Entry → Type 0
IsLeast f w None = (q : Key) → T (w q) → f q ≡ None
IsLeast f w (Some e) = T (w e.0) × (f e.0 ≡ Some e.1) × ((q : Key) (v : Option Place) → T (w q) → f q ≡ Some v → IsNotBelow q e.0)

-- only what is found at wanted keys counts
pub agree : (f g : Key → Option (Option Place)) (w : Key → Bool) (o : Option Entry) → ((q : Key) → T (w q) → f q ≡ g q) → IsLeast f w o → IsLeast g w o
agree f g w None same least = λ q is. sym (same q is) ∙ least q is
agree f g w (Some e) same least = (least.0, sym (same e.0 least.0) ∙ least.1, λ q v is found. least.2 q v is (same q is ∙ found))

own : (e : Entry) (es : List Entry) → find key_cmp e.0 (e ∷ es) ≡ Some e.1
own e es = ap (λ (o : Ordering). cond (is_eq o) (Some e.1) (find key_cmp e.0 es)) (tied_itself key_total e.0)

not_found : (v : Option Place) → ◌≡◌ {A = Option (Option Place)} None (Some v) → ⊥
not_found v e = cc

-- nothing is found below the first key
first_is_least : (e : Entry) (es : List Entry) → T (below_all key_cmp e.0 es) → (q : Key) (v : Option Place) → find key_cmp q (e ∷ es) ≡ Some v → IsNotBelow q e.0
first_is_least e es above q v found low =
    let none : find key_cmp q (e ∷ es) ≡ None = missing q (e ∷ es) (both _ _ (subst (λ o. T (is_lt o)) (sym low) tt) (below_less q e.0 es low above)) in
    not_found v (sym none ∙ found)

other_key : (w : Key → Bool) (e : Entry) (es : List Entry) → w e.0 ≡ false → (q : Key) → T (w q) → find key_cmp q es ≡ find key_cmp q (e ∷ es)
other_key w e es not_one q is =
    elim (key_cmp q e.0) as (λ o. key_cmp q e.0 ≡ o → find key_cmp q es ≡ cond (is_eq o) (Some e.1) (find key_cmp q es)) [
      | Less ↦ λ p. refl
      | Equal ↦ λ p. absurd (subst T (ap w (key_antisymm q e.0 p) ∙ not_one) is)
      | Greater ↦ λ p. refl
    ] refl

-- the first wanted entry of a sorted list is its least
pub least_of_sorted : (w : Key → Bool) (es : List Entry) → T (is_sorted key_cmp es) → IsLeast (λ q. find key_cmp q es) w (first_of (wanted w es))
least_of_sorted w [] up = λ q is. refl
least_of_sorted w (e ∷ es) up =
    elim (w e.0) as (λ b. w e.0 ≡ b → IsLeast (λ q. find key_cmp q (e ∷ es)) w (first_of (if b then e ∷ wanted w es else wanted w es))) [
      | true ↦ λ p. (of_true _ p, own e es, λ q v is found. first_is_least e es (left_part _ _ up) q v found)
      | false ↦ λ p. agree (λ q. find key_cmp q es) (λ q. find key_cmp q (e ∷ es)) w (first_of (wanted w es)) (other_key w e es p) (least_of_sorted w es (right_part _ _ up))
    ] refl

same_some : (x y : Option Place) → ◌≡◌ {A = Option (Option Place)} (Some x) (Some y) → x ≡ y
same_some x y e = cc

-- there is one least
pub one_least : (f : Key → Option (Option Place)) (w : Key → Bool) (a b : Option Entry) → IsLeast f w a → IsLeast f w b → a ≡ b
one_least f w None None p q = refl
one_least f w None (Some y) p q = absurd (not_found y.1 (sym (p y.0 q.0) ∙ q.1))
one_least f w (Some x) None p q = absurd (not_found x.1 (sym (q x.0 p.0) ∙ p.1))
one_least f w (Some x) (Some y) p q =
    elim (key_cmp x.0 y.0) as (λ o. key_cmp x.0 y.0 ≡ o → ◌≡◌ {A = Option Entry} (Some x) (Some y)) [
      | Less ↦ λ e. absurd (q.2 x.0 x.1 p.0 p.1 e)
      | Equal ↦ λ e.
          let key : x.0 ≡ y.0 = key_antisymm x.0 y.0 e in
          let value : x.1 ≡ y.1 = same_some x.1 y.1 (sym p.1 ∙ ap f key ∙ q.1) in
          λ i. Some (key i, value i)
      | Greater ↦ λ e. absurd (p.2 y.0 y.1 q.0 q.1 (turned x.0 y.0 Greater e))
    ] refl

-- ---- of two lists

-- the first of two, if there is one
abbrev either_of : Option (Option Place) → Option (Option Place) → Option (Option Place)
either_of (Some x) later = Some x
either_of None later = later

find-row : (q : Key) (xs ys : List Entry) → find key_cmp q (xs ++ ys) ≡ either_of (find key_cmp q xs) (find key_cmp q ys)
find-row q [] ys = refl
find-row q (x ∷ xs) ys = elim (eq_by_cmp key_cmp q x.0) as (λ b. cond b (Some x.1) (find key_cmp q (xs ++ ys))
    ≡ either_of (cond b (Some x.1) (find key_cmp q xs)) (find key_cmp q ys)) [ true ↦ refl | false ↦ find-row q xs ys ]

some_left : (a b : Option (Option Place)) (v : Option Place) → a ≡ Some v → either_of a b ≡ Some v
some_left a b v e = rw e refl

none_left : (a b : Option (Option Place)) → a ≡ None → either_of a b ≡ b
none_left a b e = rw e refl

none_right : (a b : Option (Option Place)) → b ≡ None → a ≡ either_of a b
none_right None b e = sym e
none_right (Some x) b e = refl

-- what is found in one of two is found in the first, or not there and in the second
from_either : (a b : Option (Option Place)) (v : Option Place) → either_of a b ≡ Some v → (P : Type 0) → ((u : Option Place) → a ≡ Some u → P) → (b ≡ Some v → P) → P
from_either None b v e P left right = right e
from_either (Some u) b v e P left right = left u refl

module _ (f g : Key → Option (Option Place)) (w : Key → Bool) where
  abbrev either : Key → Option (Option Place)
  either q = either_of (f q) (g q)

  left_least : (x y : Entry) → IsLeast f w (Some x) → IsLeast g w (Some y) → T (if is_gt (key_cmp x.0 y.0) then false else true) → IsLeast either w (Some x)
  left_least x y p q le = (
    p.0,
    some_left (f x.0) (g x.0) x.1 p.1,
    λ k v is found low.
        from_either (f k) (g k) v found ⊥ (λ u there. p.2 k u is there low) (λ there. q.2 k v is there (below_not_above k x.0 y.0 (key_cmp x.0 y.0) refl le low)),
  )

  right_least : (x y : Entry) → IsLeast f w (Some x) → IsLeast g w (Some y) → key_cmp x.0 y.0 ≡ Greater → IsLeast either w (Some y)
  right_least x y p q gt =
      let lower : key_cmp y.0 x.0 ≡ Less = turned x.0 y.0 Greater gt in
      let none : (r : Option (Option Place)) → f y.0 ≡ r → f y.0 ≡ None = λ r. elim r as (λ r. f y.0 ≡ r → f y.0 ≡ None) [
        | None ↦ λ e. e
        | Some v ↦ λ e. absurd (p.2 y.0 v q.0 e lower)
      ] in (
        q.0,
        none_left (f y.0) (g y.0) (none (f y.0) refl) ∙ q.1,
        λ k v is found low.
            from_either (f k) (g k) v found ⊥ (λ u there. p.2 k u is there (key_total.trans k y.0 x.0 low lower)) (λ there. q.2 k v is there low),
      )

  -- the least of two lists together is the lesser
  pub least_of_both : (a b : Option Entry) → IsLeast f w a → IsLeast g w b → IsLeast either w (lesser a b)
  least_of_both None b p q = agree g either w b (λ k is. sym (none_left (f k) (g k) (p k is))) q
  least_of_both (Some x) None p q = agree f either w (Some x) (λ k is. none_right (f k) (g k) (q k is)) p
  least_of_both (Some x) (Some y) p q =
      elim (key_cmp x.0 y.0) as (λ o. key_cmp x.0 y.0 ≡ o → IsLeast either w (if is_gt o then Some y else Some x)) [
        | Less ↦ λ e. left_least x y p q (rw e tt)
        | Equal ↦ λ e. left_least x y p q (rw e tt)
        | Greater ↦ λ e. right_least x y p q e
      ] refl

-- the first wanted entry that counts of a sorted list before others
pub first_of_row : (w : Key → Bool) (es fs : List Entry) → T (is_sorted key_cmp es) → first_of (wanted w (firsts (es ++ fs))) ≡ lesser (first_of (wanted w es)) (first_of (wanted w (firsts fs)))
first_of_row w es fs up =
    let others : IsLeast (λ q. find key_cmp q fs) w (first_of (wanted w (firsts fs))) = agree (λ q. find key_cmp q (firsts fs))
    (λ q. find key_cmp q fs) w _ (λ q is. find-firsts q fs) (least_of_sorted w (firsts fs) (firsts_sorted fs)) in
    let two = least_of_both (λ q. find key_cmp q es) (λ q. find key_cmp q fs) w _ _ (least_of_sorted w es up) others in
    let all : IsLeast (λ q. find key_cmp q (es ++ fs)) w (first_of (wanted w (firsts (es ++ fs)))) = agree (λ q. find key_cmp q (firsts (es ++ fs)))
    (λ q. find key_cmp q (es ++ fs)) w _ (λ q is. find-firsts q (es ++ fs)) (least_of_sorted w (firsts (es ++ fs)) (firsts_sorted (es ++ fs))) in
    one_least (λ q. find key_cmp q (es ++ fs)) w _ _ all (agree (λ q. either_of (find key_cmp q es) (find key_cmp q fs)) (λ q. find key_cmp q (es ++ fs)) w _ (λ q is. sym (find-row q es fs)) two)

-- lists that each rise
abbrev pub EachSorted : List (List Entry) → Type 0
EachSorted [] = ⊤
EachSorted (es ∷ ess) = T (is_sorted key_cmp es) × EachSorted ess

-- of several lists together
pub first_of_lists : (w : Key → Bool) (lists : List (List Entry)) → EachSorted lists → first_of (wanted w (firsts (flat_map (λ es. es) lists))) ≡ least_first w lists
first_of_lists w [] up = refl
first_of_lists w (es ∷ ess) up = first_of_row w es (flat_map (λ es. es) ess) up.0 ∙ ap (lesser (first_of (wanted w es))) (first_of_lists w ess up.1)
