-- Keys as their namespace and their bytes, their order, and lists of entries whose keys rise.
use Rattle.std.proofs.Common.{◌≡◌, ℕ, ◌≤◌, Bool, true, false, cond, T, List, [], ◌∷◌, length, refl, ap, sym, subst, ◌∙◌, arith, None, Ordering, Less, Equal, Greater}
use Rattle.std.{specs.Prelude.nat_lt, specs.Prelude.◌==◌, proofs.lemmas.Bool.Decides.nat_tests, specs.FinMap.slice_cmp-IsAntisymmetric, specs.FinMap.nat_cmp-IsAntisymmetric}
use Rattle.std.{specs.Ordering.nat_cmp, specs.Ordering.is_lt, specs.Ordering.ordering_then, specs.Ordering.ordering_reverse, proofs.lemmas.Cmp.nat_list_cmp_total}
use Rattle.std.specs.FinMap.Entries.{find, is_sorted, below_all, is_sorted-put}
use Rattle.pk_base.{specs.Key.Key, specs.Key.IsKey, specs.Key.key_cmp, specs.Entry.Entry, specs.Firsts.firsts}
use Rattle.pk_base.proofs.Logic.{left_part, right_part, both, less}

pub same_key : (a b : Key) → key_cmp a b ≡ Equal → a ≡ b
same_key = slice_cmp-IsAntisymmetric nat_cmp-IsAntisymmetric

pub turned : (a b : Key) (o : Ordering) → key_cmp a b ≡ o → key_cmp b a ≡ ordering_reverse o
turned a b o q = nat_list_cmp_total.antisymm b a ∙ ap ordering_reverse q

-- what is above a key is above a smaller one
pub below_less : (a b : Key) (es : List Entry) → key_cmp a b ≡ Less → T (below_all key_cmp b es) → T (below_all key_cmp a es)
below_less a b [] p h = tt
below_less a b (e ∷ es) p h =
    let first : key_cmp b e.0 ≡ Less = less _ (left_part _ _ h) in
    both _ _ (subst (λ o. T (is_lt o)) (sym (nat_list_cmp_total.trans a b e.0 p first)) tt) (below_less a b es p (right_part _ _ h))

-- a key below all others is not found
pub missing : (k : Key) (es : List Entry) → T (below_all key_cmp k es) → find key_cmp k es ≡ None
missing k [] h = refl
missing k (e ∷ es) h =
    let up : key_cmp k e.0 ≡ Less = less _ (left_part _ _ h) in
    rw up (missing k es (right_part _ _ h))

-- the first entries of all keys rise
pub firsts_sorted : (es : List Entry) → T (is_sorted key_cmp (firsts es))
firsts_sorted [] = tt
firsts_sorted (e ∷ es) = is_sorted-put key_cmp nat_list_cmp_total e.0 e.1 (firsts es) (firsts_sorted es)

-- ---- a namespace and bytes

none_below : (bytes : List ℕ) → is_lt (key_cmp bytes []) ≡ false
none_below [] = refl
none_below (x ∷ xs) = refl

not_below : (b : ℕ) (bytes : List ℕ) → is_lt (key_cmp (b ∷ bytes) (0 ∷ [])) ≡ false
not_below b bytes =
    let no : nat_lt b 0 ≡ false = grind (arith, nat_tests) in
    rw no (elim (b == 0) as (λ e. is_lt (ordering_then (cond e Equal Greater) (key_cmp bytes [])) ≡ false) [ true ↦ none_below bytes | false ↦ refl ])

-- In a namespace no key is below the one of the byte 0, since each has a byte.
pub least_key : (n : ℕ) (key : Key) → IsKey key → is_lt (key_cmp key (n ∷ 0 ∷ [])) ≡ is_lt (key_cmp key (n ∷ []))
least_key n [] h = let some = h.some in absurd (omega arith)
least_key n (m ∷ []) h = let some = h.some in absurd (omega arith)
least_key n (m ∷ b ∷ bytes) h =
    elim (nat_cmp m n) as (λ o. is_lt (ordering_then o (key_cmp (b ∷ bytes) (0 ∷ []))) ≡ is_lt (ordering_then o Greater)) [
      | Less ↦ refl
      | Equal ↦ not_below b bytes
      | Greater ↦ refl
    ]
