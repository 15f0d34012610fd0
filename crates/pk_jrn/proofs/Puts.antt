-- Entries that are written one after another: the later one of a key counts.
use Rattle.std.proofs.Common.{◌≡◌, ℕ, suc, ◌+◌, ◌<◌, ◌≤◌, refl, sym, ap, subst, ◌∙◌, arith, Bool, true, false, cond, ◌&&◌, ◌||◌, T, List, [], ◌∷◌, ◌++◌, reverse, length, append_assoc, append-nil}
use Rattle.std.proofs.Common.{Option, Some, None, is_some}
use Rattle.std.{specs.Prelude.⊤, specs.Prelude.MatchOption, specs.Ordering.is_lt, specs.Ordering.eq_by_cmp, specs.Cmp.Lexicographic.nat_list_cmp_total, proofs.lemmas.List.reverse-append}
use Rattle.std.specs.FinMap.{IsAntisymmetric, slice_cmp-IsAntisymmetric, nat_cmp-IsAntisymmetric}
use Rattle.std.specs.FinMap.Entries.{put, find, is_sorted, below_all, find-put, is_sorted-put, length-put, same_entries}
use Rattle.pk_base.{specs.Key.Key, specs.Key.key_cmp, specs.Entry.Entry, specs.Entry.Place, specs.declared.entry.Entry.Entry as RustEntry, specs.Firsts.firsts, proofs.KeyLemmas.firsts_sorted}
use Rattle.pk_jrn.specs.Replays.{puts}

key_antisymm : IsAntisymmetric key_cmp
key_antisymm = slice_cmp-IsAntisymmetric nat_cmp-IsAntisymmetric

-- ---- writes one after another

pub puts-snoc : (es : List Entry) (e : Entry) (table : List Entry) → puts (es ++ e ∷ []) table ≡ put key_cmp e.0 e.1 (puts es table)
puts-snoc [] e table = refl
puts-snoc (x ∷ es) e table = puts-snoc es e (put key_cmp x.0 x.1 table)

pub puts-append : (es fs table : List Entry) → puts (es ++ fs) table ≡ puts fs (puts es table)
puts-append [] fs table = refl
puts-append (x ∷ es) fs table = puts-append es fs (put key_cmp x.0 x.1 table)

-- after writes of earlier entries, the table is that of all of them
pub puts_are_firsts : (before es : List Entry) → puts es (firsts (reverse before)) ≡ firsts (reverse (before ++ es))
puts_are_firsts before [] = ap (λ x. firsts (reverse x)) (sym (append-nil before))
puts_are_firsts before (e ∷ es) =
    let one : firsts (reverse (before ++ e ∷ [])) ≡ put key_cmp e.0 e.1 (firsts (reverse before)) = ap firsts (reverse-append before (e ∷ [])) in
    ap (puts es) (sym one) ∙ puts_are_firsts (before ++ e ∷ []) es ∙ ap (λ x. firsts (reverse x)) (append_assoc before (e ∷ []) es)

-- ---- a table grows

pub puts_sorted : (es table : List Entry) → T (is_sorted key_cmp table) → T (is_sorted key_cmp (puts es table))
puts_sorted [] table up = up
puts_sorted (e ∷ es) table up = puts_sorted es (put key_cmp e.0 e.1 table) (is_sorted-put key_cmp nat_list_cmp_total e.0 e.1 table up)

put_longer : (b : Bool) (n m : ℕ) → m ≡ cond b n (n + 1) → n ≤ m
put_longer true n m e = omega (arith, e)
put_longer false n m e = omega (arith, e)

pub put_grows : (k : Key) (v : Option Place) (table : List Entry) → T (is_sorted key_cmp table) → length table ≤ length (put key_cmp k v table)
put_grows k v table up = put_longer (is_some (find key_cmp k table)) (length table) _ (length-put key_cmp nat_list_cmp_total k v table up)

pub puts_grow : (es table : List Entry) → T (is_sorted key_cmp table) → length table ≤ length (puts es table)
puts_grow [] table up = omega arith
puts_grow (e ∷ es) table up =
    let one = put_grows e.0 e.1 table up in
    let more = puts_grow es (put key_cmp e.0 e.1 table) (is_sorted-put key_cmp nat_list_cmp_total e.0 e.1 table up) in
    omega (arith, one, more)

-- a key that is not there makes it longer
pub put_new : (k : Key) (v : Option Place) (table : List Entry) → T (is_sorted key_cmp table) → find key_cmp k table ≡ None → length (put key_cmp k v table) ≡ length table + 1
put_new k v table up none = length-put key_cmp nat_list_cmp_total k v table up ∙ ap (λ (o : Option (Option Place)). cond (is_some o) (length table) (length table + 1)) none

-- if the first of the writes are too many, all are
pub puts_too_many : (n : ℕ) (es fs table : List Entry) → T (is_sorted key_cmp table) → n < length (puts es table) → n < length (puts (es ++ fs) table)
puts_too_many n es fs table up many =
    let grows = puts_grow fs (puts es table) (puts_sorted es table up) in
    rw (puts-append es fs table) (omega (arith, grows, many))

-- ---- the keys of a list, whatever their order

pub find-firsts : (q : Key) (es : List Entry) → find key_cmp q (firsts es) ≡ find key_cmp q es
find-firsts q [] = refl
find-firsts q (e ∷ es) = find-put key_cmp nat_list_cmp_total q e.0 e.1 (firsts es) ∙ ap (cond (eq_by_cmp key_cmp q e.0) (Some e.1)) (find-firsts q es)

has : Key → List Entry → Bool
has q [] = false
has q (e ∷ es) = eq_by_cmp key_cmp q e.0 || has q es

find-has : (q : Key) (es : List Entry) → is_some (find key_cmp q es) ≡ has q es
unfolding has
find-has q [] = refl
find-has q (e ∷ es) = elim (eq_by_cmp key_cmp q e.0) as (λ b. is_some (cond b (Some e.1) (find key_cmp q es)) ≡ (b || has q es)) [ true ↦ refl | false ↦ find-has q es ]

has-append : (q : Key) (xs ys : List Entry) → has q (xs ++ ys) ≡ (has q xs || has q ys)
unfolding has
has-append q [] ys = refl
has-append q (x ∷ xs) ys = elim (eq_by_cmp key_cmp q x.0) as (λ b. (b || has q (xs ++ ys)) ≡ ((b || has q xs) || has q ys)) [ true ↦ refl | false ↦ has-append q xs ys ]

or_turned : (a b : Bool) → (a || (b || false)) ≡ (b || a)
or_turned true true = refl
or_turned _ _ = refl

has-reverse : (q : Key) (xs : List Entry) → has q (reverse xs) ≡ has q xs
unfolding has
has-reverse q [] = refl
has-reverse q (x ∷ xs) =
    ap (has q) (reverse-append (x ∷ []) xs) ∙ has-append q (reverse xs) (x ∷ []) ∙ or_turned (has q (reverse xs)) (eq_by_cmp key_cmp q x.0) ∙ ap (λ b. eq_by_cmp key_cmp q x.0 || b) (has-reverse q xs)

-- the keys alone
bare : List Entry → List (Key × ⊤)
bare [] = []
bare (e ∷ es) = (e.0, tt) ∷ bare es

length-bare : (es : List Entry) → length (bare es) ≡ length es
unfolding bare
length-bare [] = refl
length-bare (e ∷ es) = ap suc (length-bare es)

below-bare : (q : Key) (es : List Entry) → below_all key_cmp q (bare es) ≡ below_all key_cmp q es
unfolding bare
below-bare q [] = refl
below-bare q (e ∷ es) = ap (λ b. is_lt (key_cmp q e.0) && b) (below-bare q es)

sorted-bare : (es : List Entry) → is_sorted key_cmp (bare es) ≡ is_sorted key_cmp es
unfolding bare
sorted-bare [] = refl
sorted-bare (e ∷ es) = λ i. below-bare e.0 es i && sorted-bare es i

find-bare : (q : Key) (es : List Entry) → find key_cmp q (bare es) ≡ cond (has q es) (Some tt) None
unfolding bare has
find-bare q [] = refl
find-bare q (e ∷ es) = elim (eq_by_cmp key_cmp q e.0) as (λ b. cond b (Some tt) (find key_cmp q (bare es)) ≡ cond (b || has q es) (Some tt) None) [ true ↦ refl | false ↦ find-bare q es ]

-- rising lists with the same keys have the same length
same_length : (xs ys : List Entry) → T (is_sorted key_cmp xs) → T (is_sorted key_cmp ys) → ((q : Key) → has q xs ≡ has q ys) → length xs ≡ length ys
same_length xs ys up down same =
    let bares : bare xs ≡ bare ys = same_entries key_cmp nat_list_cmp_total key_antisymm (bare xs) (bare ys) (subst T (sym (sorted-bare xs)) up) (subst T (sym (sorted-bare ys)) down)
    (λ q. find-bare q xs ∙ ap (λ b. cond b (Some tt) None) (same q) ∙ sym (find-bare q ys)) in
    sym (length-bare xs) ∙ ap length bares ∙ length-bare ys

-- as many keys from either end
pub firsts-reverse : (es : List Entry) → length (firsts (reverse es)) ≡ length (firsts es)
firsts-reverse es = same_length (firsts (reverse es)) (firsts es) (firsts_sorted (reverse es)) (firsts_sorted es) (λ q.
    sym (find-has q (firsts (reverse es))) ∙ ap is_some (find-firsts q (reverse es)) ∙ find-has q (reverse es) ∙ has-reverse q es
    ∙ sym (find-has q es) ∙ ap is_some (sym (find-firsts q es)) ∙ find-has q (firsts es))

-- if there is no room and the key is not there, the entry makes it too long
pub full : (n room : ℕ) (k : Key) (v : Option Place) (table : List Entry) → T (is_sorted key_cmp table)
    → room + length table ≡ n → room ≡ 0 → find key_cmp k table ≡ None → n < length (put key_cmp k v table)
full n room k v table up is none absent = let more = put_new k v table up absent in omega (arith, is, none, more)

pub none_of : (o : Option RustEntry) (P : Type 0) (Q : RustEntry → Type 0) → MatchOption o P Q → is_some o ≡ false → P
none_of None P Q is none = is
none_of (Some x) P Q is none = cc
