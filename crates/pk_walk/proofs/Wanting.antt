-- What a sorted list has of the wanted keys: its first, what is after it, and where it begins.
use Rattle.std.proofs.Common.{◌≡◌, ℕ, zero, suc, ◌+◌, ◌≤◌, refl, sym, ap, subst, ◌∙◌, arith, Bool, true, false, cond, not, T, if◌then◌else◌, List, [], ◌∷◌, length, drop, slice_get, option_map, Option}
use Rattle.std.proofs.Common.{Some, None}
use Rattle.std.{specs.declared.cmp.Ordering.Ordering, specs.declared.cmp.Ordering.TheVariants.Less, specs.declared.cmp.Ordering.TheVariants.Equal, specs.declared.cmp.Ordering.TheVariants.Greater}
use Rattle.std.{specs.Ordering.is_lt, specs.Ordering.is_gt, specs.Ordering.is_eq, specs.FinMap.Entries.is_sorted, specs.FinMap.Entries.below_all, proofs.lemmas.Cmp.tied_itself}
use Rattle.pk_base.{specs.Key.Key, specs.Key.key_cmp, specs.Entry.Entry, specs.Entry.Place, specs.Entry.key_of, proofs.KeyLemmas.turned}
use Rattle.pk_base.proofs.Logic.{of_true, is_true, left_part, right_part, less, equal}
use Rattle.pk_buf.specs.Table.{place_of}
use Rattle.pk_model.{specs.Values.placed, proofs.MapLemmas.key_total, proofs.MapLemmas.key_antisymm}
use Rattle.pk_walk.{specs.declared.position.Position.Position, specs.Visible.is_wanted, specs.Visible.wanted, specs.Visible.first_of, specs.Visible.WantsFrom}
use Rattle.pk_walk.specs.declared.position.Position.TheVariants.{First, From, Above}

pub same_entry : (x e : Entry) → ◌≡◌ {A = Option Entry} (Some x) (Some e) → x ≡ e
same_entry x e p = cc

no_entry : (e : Entry) → ◌≡◌ {A = Option Entry} None (Some e) → ⊥
no_entry e p = cc

-- ---- narrower wishes

-- what is wanted of what is wanted more widely
pub narrowed : {X : Type 0} (v w : Key → Bool) (es : List (Key × X)) → ((k : Key) → T (v k) → T (w k)) → wanted v (wanted w es) ≡ wanted v es
narrowed v w [] within = refl
narrowed v w (e ∷ es) within =
    let rest = narrowed v w es within in
    elim (w e.0) as (λ b. w e.0 ≡ b → wanted v (if b then e ∷ wanted w es else wanted w es) ≡ wanted v (e ∷ es)) [
      | true ↦ λ p. ap (λ (xs : List _). if v e.0 then e ∷ xs else xs) rest
      | false ↦ λ p.
          elim (v e.0) as (λ c. v e.0 ≡ c → wanted v (wanted w es) ≡ (if c then e ∷ wanted v es else wanted v es)) [
            | true ↦ λ q. absurd (subst T p (within e.0 (of_true _ q)))
            | false ↦ λ q. rest
          ] refl
    ] refl

-- if nothing wanted is before a place, nothing that is wanted more narrowly is
pub narrowed_behind : (v w : Key → Bool) (es : List Entry) (n : ℕ) → ((k : Key) → T (v k) → T (w k)) → wanted w es ≡ wanted w (drop n es) → wanted v es ≡ wanted v (drop n es)
narrowed_behind v w es n within left = sym (narrowed v w es within) ∙ ap (wanted v) left ∙ narrowed v w (drop n es) within

-- ---- places

pub dropped : (es : List Entry) (n : ℕ) (e : Entry) → slice_get es n ≡ Some e → drop n es ≡ e ∷ drop (suc n) es
dropped [] n e got = absurd (no_entry e got)
dropped (x ∷ es) zero e got = ap (λ (y : Entry). y ∷ es) (same_entry x e got)
dropped (x ∷ es) (suc n) e got = dropped es n e got

-- a place whose key is not wanted is passed
pub passed_by : (w : Key → Bool) (es : List Entry) (n : ℕ) (e : Entry) → slice_get es n ≡ Some e → w e.0 ≡ false → wanted w es ≡ wanted w (drop n es) → wanted w es ≡ wanted w (drop (suc n) es)
passed_by w es n e got not_one left = left ∙ ap (wanted w) (dropped es n e got) ∙ ap (λ (b : Bool). if b then e ∷ wanted w (drop (suc n) es) else wanted w (drop (suc n) es)) not_one

-- and one whose key is wanted is the first
pub first_here : (w : Key → Bool) (es : List Entry) (n : ℕ) (e : Entry) → slice_get es n ≡ Some e → w e.0 ≡ true → wanted w es ≡ wanted w (drop n es) → Some e ≡ first_of (wanted w es)
first_here w es n e got one left =
    sym (ap first_of (left ∙ ap (wanted w) (dropped es n e got) ∙ ap (λ (b : Bool). if b then e ∷ wanted w (drop (suc n) es) else wanted w (drop (suc n) es)) one))

dropped_all : (es : List Entry) (n : ℕ) → length es ≤ n → drop n es ≡ []
dropped_all [] zero h = refl
dropped_all [] (suc n) h = refl
dropped_all (x ∷ es) zero h = absurd (omega arith)
dropped_all (x ∷ es) (suc n) h = dropped_all es n (omega arith)

pub none_here : (w : Key → Bool) (es : List Entry) (n : ℕ) → length es ≤ n → wanted w es ≡ wanted w (drop n es) → None ≡ first_of (wanted w es)
none_here w es n past left = sym (ap first_of (left ∙ ap (wanted w) (dropped_all es n past)))

pub above_at : (k : Key) (es : List Entry) (n : ℕ) (e : Entry) → T (below_all key_cmp k es) → slice_get es n ≡ Some e → key_cmp k e.0 ≡ Less
above_at k [] n e h got = absurd (no_entry e got)
above_at k (x ∷ es) zero e h got = subst (λ (y : Entry). key_cmp k y.0 ≡ Less) (same_entry x e got) (less _ (left_part _ _ h))
above_at k (x ∷ es) (suc n) e h got = above_at k es n e (right_part _ _ h) got

-- ---- if a walk from a key begins

-- a key that is not above another
abbrev pub IsUpTo : Key → Key → Type 0
IsUpTo a b = key_cmp a b ≡ Greater → ⊥

below_up_to : (a b c : Key) (o : Ordering) → key_cmp b c ≡ o → key_cmp a b ≡ Less → IsUpTo b c → key_cmp a c ≡ Less
below_up_to a b c Less q low le = key_total.trans a b c low q
below_up_to a b c Equal q low le = subst (λ (k : Key). key_cmp a k ≡ Less) (key_antisymm b c q) low
below_up_to a b c Greater q low le = absurd (le q)

pub from_wants : (key : Key) → WantsFrom (is_wanted (From key)) key
from_wants key k low = rw low refl

-- nothing wanted is before an entry that is not above the key
pub begun_at : (w : Key → Bool) (key : Key) (es : List Entry) (n : ℕ) (e : Entry) → WantsFrom w key
    → T (is_sorted key_cmp es) → slice_get es n ≡ Some e → IsUpTo e.0 key → wanted w es ≡ wanted w (drop n es)
begun_at w key es zero e from up got le = refl
begun_at w key [] (suc n) e from up got le = refl
begun_at w key (x ∷ es) (suc n) e from up got le =
    let low = below_up_to x.0 e.0 key (key_cmp e.0 key) refl (above_at x.0 es n e (left_part _ _ up) got) le in
    ap (λ (b : Bool). if b then x ∷ wanted w es else wanted w es) (from x.0 low) ∙ begun_at w key es n e from (right_part _ _ up) got le

-- of all keys the first entry is the first
pub first_of_all : (es : List Entry) → slice_get es 0 ≡ first_of (wanted (is_wanted First) es)
first_of_all [] = refl
first_of_all (e ∷ es) = refl

-- of the keys that are not below one the first is at its place
pub first_from : (key : Key) (es : List Entry) → slice_get es (place_of key es) ≡ first_of (wanted (is_wanted (From key)) es)
first_from key [] = refl
first_from key (e ∷ es) =
    elim (is_lt (key_cmp e.0 key)) as (λ b. slice_get (e ∷ es) (cond b (suc (place_of key es)) 0)
    ≡ first_of (if not b then e ∷ wanted (is_wanted (From key)) es else wanted (is_wanted (From key)) es)) [
      | true ↦ first_from key es
      | false ↦ refl
    ]

first_is_wanted : (w : Key → Bool) (es : List Entry) → ((e : Entry) → slice_get es 0 ≡ Some e → w e.0 ≡ true) → slice_get es 0 ≡ first_of (wanted w es)
first_is_wanted w [] one = refl
first_is_wanted w (e ∷ es) one = sym (ap (λ (b : Bool). first_of (if b then e ∷ wanted w es else wanted w es)) (one e refl))

-- the key is at its place, or not
abbrev pub stands_at : Key → Entry → Bool
stands_at key e = is_eq (key_cmp e.0 key)

-- of the keys above one the first is at its place, or after the key itself
pub first_above_itself : (key : Key) (es : List Entry) (e : Entry) → T (is_sorted key_cmp es) → slice_get es (place_of key es) ≡ Some e
    → key_cmp e.0 key ≡ Equal → slice_get es (suc (place_of key es)) ≡ first_of (wanted (is_wanted (Above key)) es)
first_above_itself key [] e up got same = absurd (no_entry e got)
first_above_itself key (x ∷ es) e up got same =
    elim (key_cmp x.0 key) as (λ o. key_cmp x.0 key ≡ o → slice_get (x ∷ es) (cond (is_lt o) (suc (place_of key es)) 0) ≡ Some e
    → slice_get (x ∷ es) (suc (cond (is_lt o) (suc (place_of key es)) 0)) ≡ first_of (if is_gt o then x ∷ wanted (is_wanted (Above key)) es else wanted (is_wanted (Above key)) es)) [
      | Less ↦ λ p got. first_above_itself key es e (right_part _ _ up) got same
      | Equal ↦ λ p got. first_is_wanted (is_wanted (Above key)) es (λ f is.
          let high : key_cmp key f.0 ≡ Less = subst (λ (k : Key). key_cmp k f.0 ≡ Less) (key_antisymm x.0 key p) (above_at x.0 es 0 f (left_part _ _ up) is) in
          rw (turned key f.0 Less high) refl)
      | Greater ↦ λ p got. absurd (equal_greater (key_cmp e.0 key) same (ap (λ (y : Entry). key_cmp y.0 key) (sym (same_entry x e got)) ∙ p))
    ] refl got
  where
    equal_greater : (o : Ordering) → o ≡ Equal → o ≡ Greater → ⊥
    equal_greater o p q = cc

pub first_above_other : (key : Key) (es : List Entry) → ((e : Entry) → slice_get es (place_of key es) ≡ Some e → key_cmp e.0 key ≡ Equal → ⊥)
    → slice_get es (place_of key es) ≡ first_of (wanted (is_wanted (Above key)) es)
first_above_other key [] other = refl
first_above_other key (x ∷ es) other =
    elim (key_cmp x.0 key) as (λ o. key_cmp x.0 key ≡ o → ((e : Entry) → slice_get (x ∷ es) (cond (is_lt o) (suc (place_of key es)) 0) ≡ Some e → key_cmp e.0 key ≡ Equal → ⊥)
    → slice_get (x ∷ es) (cond (is_lt o) (suc (place_of key es)) 0) ≡ first_of (if is_gt o then x ∷ wanted (is_wanted (Above key)) es else wanted (is_wanted (Above key)) es)) [
      | Less ↦ λ p other. first_above_other key es other
      | Equal ↦ λ p other. absurd (other x refl p)
      | Greater ↦ λ p other. refl
    ] refl other

-- ---- after the first

-- with a key all above it are wanted
abbrev pub IsUpward : (Key → Bool) → Type 0
IsUpward w = (a b : Key) → key_cmp a b ≡ Less → T (w a) → T (w b)

pub upward : (position : Position) → IsUpward (is_wanted position)
upward First a b low is = tt
upward (From from) a b low is =
    elim (key_cmp b from) as (λ o. key_cmp b from ≡ o → T (not (is_lt o))) [
      | Less ↦ λ p. subst (λ o. T (not (is_lt o))) (key_total.trans a b from low p) is
      | Equal ↦ λ p. tt
      | Greater ↦ λ p. tt
    ] refl
upward (Above from) a b low is =
    elim (key_cmp b from) as (λ o. key_cmp b from ≡ o → T (is_gt o)) [
      | Less ↦ λ p. subst (λ o. T (is_gt o)) (key_total.trans a b from low p) is
      | Equal ↦ λ p. subst (λ o. T (is_gt o)) (subst (λ (k : Key). key_cmp a k ≡ Less) (key_antisymm b from p) low) is
      | Greater ↦ λ p. tt
    ] refl

-- what is above a wanted key is wanted
pub above_is_narrower : (position : Position) (key : Key) → T (is_wanted position key) → (k : Key) → T (is_wanted (Above key) k) → T (is_wanted position k)
above_is_narrower position key is k above =
    let high : key_cmp k key ≡ Greater = greater (key_cmp k key) above in
    upward position key k (turned k key Greater high) is
  where
    greater : (o : Ordering) → T (is_gt o) → o ≡ Greater
    greater Less p = absurd p
    greater Equal p = absurd p
    greater Greater p = refl

all_kept : (w : Key → Bool) (k : Key) (es : List Entry) → ((q : Key) → key_cmp k q ≡ Less → w q ≡ true) → T (below_all key_cmp k es) → wanted w es ≡ es
all_kept w k [] kept above = refl
all_kept w k (e ∷ es) kept above =
    ap (λ (b : Bool). if b then e ∷ wanted w es else wanted w es) (kept e.0 (less _ (left_part _ _ above))) ∙ ap (λ (xs : List Entry). e ∷ xs) (all_kept w k es kept (right_part _ _ above))

first_above : (w : Key → Bool) (k : Key) (es : List Entry) (e : Entry) → T (below_all key_cmp k es) → first_of (wanted w es) ≡ Some e → key_cmp k e.0 ≡ Less
first_above w k [] e above first = absurd (no_entry e first)
first_above w k (x ∷ es) e above first =
    elim (w x.0) as (λ b. first_of (if b then x ∷ wanted w es else wanted w es) ≡ Some e → key_cmp k e.0 ≡ Less) [
      | true ↦ λ first. subst (λ (y : Entry). key_cmp k y.0 ≡ Less) (same_entry x e first) (less _ (left_part _ _ above))
      | false ↦ λ first. first_above w k es e (right_part _ _ above) first
    ] first

-- after the first wanted entry come those above it
pub behind_first : (position : Position) (es : List Entry) (e : Entry) → T (is_sorted key_cmp es) → first_of (wanted (is_wanted position) es) ≡ Some e
    → wanted (is_wanted position) es ≡ e ∷ wanted (is_wanted (Above e.0)) es
behind_first position [] e up first = absurd (no_entry e first)
behind_first position (x ∷ es) e up first =
    let w = is_wanted position in
    elim (w x.0) as (λ b. w x.0 ≡ b → first_of (if b then x ∷ wanted w es else wanted w es) ≡ Some e → (if b then x ∷ wanted w es else wanted w es) ≡ e ∷ wanted (is_wanted (Above e.0)) (x ∷ es)) [
      | true ↦ λ p first.
          let same = same_entry x e first in
          let above = left_part _ _ up in
          let all = all_kept w x.0 es (λ q low. is_true _ (upward position x.0 q low (of_true _ p))) above in
          let higher = all_kept (is_wanted (Above x.0)) x.0 es (λ q low. rw (turned x.0 q Less low) refl) above in
          let not_itself : is_gt (key_cmp x.0 x.0) ≡ false = ap is_gt (tied_itself key_total x.0) in
          subst (λ (y : Entry). x ∷ wanted w es ≡ y ∷ wanted (is_wanted (Above y.0)) (x ∷ es)) same
          (ap (λ (xs : List Entry). x ∷ xs) (all ∙ sym higher ∙ sym (ap (λ (b : Bool). if b then x ∷ wanted (is_wanted (Above x.0)) es else wanted (is_wanted (Above x.0)) es) not_itself)))
      | false ↦ λ p first.
          let low = first_above w x.0 es e (left_part _ _ up) first in
          let not_above : is_gt (key_cmp x.0 e.0) ≡ false = ap is_gt low in
          behind_first position es e (right_part _ _ up) first
          ∙ sym (ap (λ (b : Bool). e ∷ (if b then x ∷ wanted (is_wanted (Above e.0)) es else wanted (is_wanted (Above e.0)) es)) not_above)
    ] refl first

-- a first wanted entry is wanted
pub first_wanted : (w : Key → Bool) (es : List Entry) (e : Entry) → first_of (wanted w es) ≡ Some e → T (w e.0)
first_wanted w [] e first = absurd (no_entry e first)
first_wanted w (x ∷ es) e first =
    elim (w x.0) as (λ b. w x.0 ≡ b → first_of (if b then x ∷ wanted w es else wanted w es) ≡ Some e → T (w e.0)) [
      | true ↦ λ p first. subst (λ (y : Entry). T (w y.0)) (same_entry x e first) (of_true _ p)
      | false ↦ λ p first. first_wanted w es e first
    ] refl first

-- if there is no first there is none
pub none_wanted : (xs : List Entry) → first_of xs ≡ None → xs ≡ []
none_wanted [] e = refl
none_wanted (x ∷ xs) e = cc

-- ---- keys that exist

-- the wanted ones of the keys that exist are among the wanted
pub placed_wanted : (w : Key → Bool) (es : List Entry) → wanted w (placed es) ≡ placed (wanted w es)
placed_wanted w [] = refl
placed_wanted w ((key, Some place) ∷ es) =
    elim (w key) as (λ b. (if b then (key, place) ∷ wanted w (placed es) else wanted w (placed es)) ≡ placed (if b then (key, Some place) ∷ wanted w es else wanted w es)) [
      | true ↦ ap (λ (xs : List (Key × Place)). (key, place) ∷ xs) (placed_wanted w es)
      | false ↦ placed_wanted w es
    ]
placed_wanted w ((key, None) ∷ es) =
    elim (w key) as (λ b. wanted w (placed es) ≡ placed (if b then (key, None) ∷ wanted w es else wanted w es)) [
      | true ↦ placed_wanted w es
      | false ↦ placed_wanted w es
    ]

-- ---- the place of a key in a buffer, as it is found

pub above_here : (key : Key) (es : List Entry) (at : ℕ) (e : Entry) → T (is_sorted key_cmp es) → at ≡ place_of key es → slice_get es at ≡ Some e → is_eq (key_cmp (key_of e) key) ≡ true
    → slice_get es (at + 1) ≡ first_of (wanted (is_wanted (Above key)) es)
above_here key es at e up is got same =
    let on : at + 1 ≡ suc at = omega arith in
    ap (slice_get es) (on ∙ ap (λ (n : ℕ). suc n) is) ∙ first_above_itself key es e up (ap (slice_get es) (sym is) ∙ got) (equal _ same)

pub above_not_here : (key : Key) (es : List Entry) (at : ℕ) (e : Entry) → at ≡ place_of key es → slice_get es at ≡ Some e → is_eq (key_cmp (key_of e) key) ≡ false
    → slice_get es at ≡ first_of (wanted (is_wanted (Above key)) es)
above_not_here key es at e is got other =
    ap (slice_get es) is ∙ first_above_other key es (λ f found tied.
    let same : e ≡ f = same_entry e f (sym got ∙ ap (slice_get es) is ∙ found) in
    equal_not (key_cmp (key_of f) key) tied (ap (λ (y : Entry). is_eq (key_cmp (key_of y) key)) (sym same) ∙ other))
  where
    equal_not : (o : Ordering) → o ≡ Equal → is_eq o ≡ false → ⊥
    equal_not o p q = let r = ap is_eq (sym p) ∙ q in cc

pub above_past : (key : Key) (es : List Entry) (at : ℕ) → at ≡ place_of key es → length es ≤ at → slice_get es at ≡ first_of (wanted (is_wanted (Above key)) es)
above_past key es at is past =
    ap (slice_get es) is ∙ first_above_other key es (λ f found tied. no_entry f (sym (past_end es at past) ∙ ap (slice_get es) is ∙ found))
  where
    past_end : (es : List Entry) (n : ℕ) → length es ≤ n → slice_get es n ≡ None
    past_end [] n h = refl
    past_end (x ∷ es) zero h = absurd (omega arith)
    past_end (x ∷ es) (suc n) h = past_end es n (omega arith)

-- ---- the place of a key in a buffer, as it is found from a hint

pub entry_with : (o : Option Entry) (k : Key) → option_map key_of o ≡ Some k → (e : Entry) × (o ≡ Some e) × (key_of e ≡ k)
entry_with None k is = absurd (no_key k is)
  where
    no_key : (k : Key) → ◌≡◌ {A = Option Key} None (Some k) → ⊥
    no_key k e = cc
entry_with (Some e) k is = (e, refl, same_key (key_of e) k is)
  where
    same_key : (a b : Key) → ◌≡◌ {A = Option Key} (Some a) (Some b) → a ≡ b
    same_key a b e = cc

above_wants : (key : Key) → WantsFrom (is_wanted (Above key)) key
above_wants key k low = rw low refl

next_of : (key : Key) (es : List Entry) (n : ℕ) (e : Entry) → T (is_sorted key_cmp es) → slice_get es n ≡ Some e
    → key_cmp e.0 key ≡ Equal → slice_get es (suc n) ≡ first_of (wanted (is_wanted (Above key)) es)
next_of key [] n e up got same = absurd (no_entry e got)
next_of key (x ∷ es) zero e up got same =
    let equal : key_cmp x.0 key ≡ Equal = ap (λ (y : Entry). key_cmp y.0 key) (same_entry x e got) ∙ same in
    let first = first_is_wanted (is_wanted (Above key)) es (λ f is.
    let high : key_cmp key f.0 ≡ Less = subst (λ (k : Key). key_cmp k f.0 ≡ Less) (key_antisymm x.0 key equal) (above_at x.0 es 0 f (left_part _ _ up) is) in
    rw (turned key f.0 Less high) refl) in
    first ∙ sym (ap (λ (o : Ordering). first_of (if is_gt o then x ∷ wanted (is_wanted (Above key)) es else wanted (is_wanted (Above key)) es)) equal)
next_of key (x ∷ es) (suc n) e up got same =
    let low : key_cmp x.0 key ≡ Less = subst (λ (k : Key). key_cmp x.0 k ≡ Less) (key_antisymm e.0 key same) (above_at x.0 es n e (left_part _ _ up) got) in
    next_of key es n e (right_part _ _ up) got same ∙ sym (ap (λ (o : Ordering). first_of (if is_gt o then x ∷ wanted (is_wanted (Above key)) es else wanted (is_wanted (Above key)) es)) low)

-- after the key itself comes the first above it
pub above_next : (key : Key) (es : List Entry) (n : ℕ) (k : Key) → T (is_sorted key_cmp es) → option_map key_of (slice_get es n) ≡ Some k
    → key_cmp k key ≡ Equal → slice_get es (n + 1) ≡ first_of (wanted (is_wanted (Above key)) es)
above_next key es n k up got same =
    let e = entry_with (slice_get es n) k got in
    let on : n + 1 ≡ suc n = omega arith in
    ap (slice_get es) on ∙ next_of key es n e.0 up e.1 (ap (λ (q : Key). key_cmp q key) e.2 ∙ same)

-- after a key that is not above another come all that are
pub above_behind : (key : Key) (es : List Entry) (n : ℕ) (k : Key) → T (is_sorted key_cmp es) → option_map key_of (slice_get es n) ≡ Some k → is_gt (key_cmp k key) ≡ false
    → wanted (is_wanted (Above key)) es ≡ wanted (is_wanted (Above key)) (drop (suc n) es)
above_behind key es n k up got not_one =
    let e = entry_with (slice_get es n) k got in
    let own = ap (λ (q : Key). is_gt (key_cmp q key)) e.2 ∙ not_one in
    passed_by (is_wanted (Above key)) es n e.0 e.1 own (begun_at (is_wanted (Above key)) key es n e.0 (above_wants key) up e.1 (λ high. let r = ap is_gt (sym high) ∙ own in cc))

-- from a place on that is wanted it is the first
pub above_there : (key : Key) (es : List Entry) (n : ℕ) (k : Key) → option_map key_of (slice_get es n) ≡ Some k
    → is_gt (key_cmp k key) ≡ true → slice_get es n ≡ first_of (wanted (is_wanted (Above key)) (drop n es))
above_there key es n k got one =
    let e = entry_with (slice_get es n) k got in
    let own = ap (λ (q : Key). is_gt (key_cmp q key)) e.2 ∙ one in
    e.1 ∙ sym (ap first_of (ap (wanted (is_wanted (Above key))) (dropped es n e.0 e.1)
    ∙ ap (λ (b : Bool). if b then e.0 ∷ wanted (is_wanted (Above key)) (drop (suc n) es) else wanted (is_wanted (Above key)) (drop (suc n) es)) own))

-- from the end on there is none
pub above_end : (key : Key) (es : List Entry) → slice_get es (length es) ≡ first_of (wanted (is_wanted (Above key)) (drop (length es) es))
above_end key [] = refl
above_end key (x ∷ es) = above_end key es
