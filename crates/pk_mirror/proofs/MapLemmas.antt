-- Maps of which one is part of the other.
use Rattle.std.proofs.Common.{◌≡◌, inl, inr, ℕ, zero, suc, ◌-◌, ◌≤◌, cond, List, [], ◌∷◌, length, map, true, false, Option, Some, None, is_some, refl, sym, ap, subst, ◌∙◌, arith}
use Rattle.std.specs.FinMap.{get, contains_key, insert, remove, entries, keys, len, get-entries, get-insert, get-remove, len-entries, len-remove, empty_of_len, same_map}
use Rattle.std.{specs.List.AllByRecursion, specs.Ordering.is_eq, specs.Ordering.eq_by_cmp, specs.Cmp.tied_itself, specs.FinMap.Entries.find}
use Rattle.pk_base.{specs.Fields.AreBytes, specs.Key.Key, specs.Key.key_cmp, specs.Shape.Shape, specs.Shape.greatest, specs.Map.Map, specs.Map.IsMap, specs.Map.live, specs.Map.pages_if_some}
use Rattle.pk_base.proofs.Logic.{equal, some_same}
use Rattle.pk_model.{proofs.MapLemmas.key_total, proofs.MapLemmas.key_antisymm, proofs.Machines.live-empty, proofs.Machines.live-remove}
use Rattle.pk_mirror.specs.Agreement.{NoOther, HaveSame, IsPart}

-- ---- entries

module _ (P : Key → List ℕ → Type 0) where
  found_in : (es : List (Key × List ℕ)) → AllByRecursion (λ e. P e.0 e.1) es → (q : Key) (v : List ℕ) → find key_cmp q es ≡ Some v → P q v
  found_in [] h q v e = cc
  found_in (x ∷ es) h q v e =
      elim (eq_by_cmp key_cmp q x.0) as (λ b. eq_by_cmp key_cmp q x.0 ≡ b → cond b (Some x.1) (find key_cmp q es) ≡ Some v → P q v) [
        | true ↦ λ t f. subst (λ (k : Key). P k v) (sym (key_antisymm q x.0 (equal (key_cmp q x.0) t))) (subst (P x.0) (some_same x.1 v f) h.0)
        | false ↦ λ t f. found_in es h.1 q v f
      ] refl e

  -- what holds of all entries holds of the one that is found
  pub entry_of : (m : Map) → AllByRecursion (λ e. P e.0 e.1) (entries m) → (q : Key) (v : List ℕ) → get m q ≡ Some v → P q v
  entry_of m h q v e = found_in (entries m) h q v (sym (get-entries m q) ∙ e)

module _ (P : Key → Type 0) where
  of_names : (es : List (Key × List ℕ)) → AllByRecursion P (map (λ e. e.0) es) → AllByRecursion (λ e. P e.0) es
  of_names [] h = tt
  of_names (e ∷ es) h = (h.0, of_names es h.1)

  -- what holds of all keys holds of the one that is found
  pub key_of : (m : Map) → AllByRecursion P (keys m) → (q : Key) (v : List ℕ) → get m q ≡ Some v → P q
  key_of m h q v e = entry_of (λ k w. P k) m (of_names (entries m) h) q v e

-- a value of a map is no longer than the greatest
pub value_fits : (shape : Shape) (m : Map) → IsMap shape m → (q : Key) (v : List ℕ) → get m q ≡ Some v → length v ≤ greatest shape
value_fits shape m h q v e = entry_of (λ k w. length w ≤ greatest shape) m (lengths (entries m) h.values) q v e
  where
    lengths : (es : List (Key × List ℕ)) → AllByRecursion (λ e. (length e.1 ≤ greatest shape) × AreBytes e.1) es → AllByRecursion (λ e. length e.1 ≤ greatest shape) es
    lengths [] h = tt
    lengths (e ∷ es) h = (h.0.0, lengths es h.1)

-- ---- one key

-- a key is the one that it ties with
tied : (q k : Key) → eq_by_cmp key_cmp q k ≡ true → q ≡ k
tied q k e = key_antisymm q k (equal (key_cmp q k) e)

-- at the key itself, and at any other
pub by_key : (q k : Key) (P : Type 0) → (q ≡ k → P) → (eq_by_cmp key_cmp q k ≡ false → P) → P
by_key q k P same other = elim (eq_by_cmp key_cmp q k) as (λ b. eq_by_cmp key_cmp q k ≡ b → P) [
  | true ↦ λ e. same (tied q k e)
  | false ↦ λ e. other e
] refl

pub get_removed : (m : Map) (k : Key) → get (remove m k) k ≡ None
get_removed m k = get-remove key_total m k k ∙ ap (λ b. cond b None (get m k)) (ap is_eq (tied_itself key_total k))

pub get_removed_other : (m : Map) (k q : Key) → eq_by_cmp key_cmp q k ≡ false → get (remove m k) q ≡ get m q
get_removed_other m k q other = get-remove key_total m k q ∙ ap (λ b. cond b None (get m q)) other

pub get_inserted : (m : Map) (k : Key) (v : List ℕ) → get (insert m k v) k ≡ Some v
get_inserted m k v = get-insert key_total m k v k ∙ ap (λ b. cond b (Some v) (get m k)) (ap is_eq (tied_itself key_total k))

pub get_inserted_other : (m : Map) (k q : Key) (v : List ℕ) → eq_by_cmp key_cmp q k ≡ false → get (insert m k v) q ≡ get m q
get_inserted_other m k q v other = get-insert key_total m k v q ∙ ap (λ b. cond b (Some v) (get m q)) other

pub missing_key : (m : Map) (k : Key) → contains_key m k ≡ false → get m k ≡ None
missing_key m k e = by (get m k) refl e
  where
    by : (o : Option (List ℕ)) → get m k ≡ o → is_some o ≡ false → get m k ≡ None
    by None is e = is
    by (Some v) is e = cc

-- ---- parts

-- a key taken from both
part_remove : (a b : Map) (k : Key) → IsPart a b → IsPart (remove a k) (remove b k)
part_remove a b k h q = by_key q k (NoOther (remove a k) (remove b k) q)
    (λ same. inl (ap (get (remove b k)) same ∙ get_removed b k))
    (λ other. elim (h q) as (λ x. NoOther (remove a k) (remove b k) q) [
      | inl none ↦ inl (get_removed_other b k q other ∙ none)
      | inr same ↦ inr (get_removed_other b k q other ∙ same ∙ sym (get_removed_other a k q other))
    ])

-- a key of the whole put into the part
pub part_insert : (a b : Map) (k : Key) (v : List ℕ) → get a k ≡ Some v → IsPart a b → IsPart a (insert b k v)
part_insert a b k v there h q = by_key q k (NoOther a (insert b k v) q)
    (λ same. inr (ap (get (insert b k v)) same ∙ get_inserted b k v ∙ sym there ∙ ap (get a) (sym same)))
    (λ other. elim (h q) as (λ x. NoOther a (insert b k v) q) [
      | inl none ↦ inl (get_inserted_other b k q v other ∙ none)
      | inr same ↦ inr (get_inserted_other b k q v other ∙ same)
    ])

first_found : (m : Map) (es : List (Key × List ℕ)) (n : ℕ) → entries m ≡ es → length es ≡ suc n → (k : Key) × (v : List ℕ) × (get m k ≡ Some v)
first_found m [] n is e = absurd (omega (arith, e))
first_found m (x ∷ es) n is e = (
  x.0,
  x.1,
  get-entries m x.0 ∙ ap (find key_cmp x.0) is ∙ ap (λ b. cond b (Some x.1) (find key_cmp x.0 es)) (ap is_eq (tied_itself key_total x.0)),
)

-- a map that has a key is not empty
pub some_len : (m : Map) (k : Key) (v : List ℕ) → get m k ≡ Some v → 1 ≤ len m
some_len m k v there = by (entries m) refl
  where
    by : (es : List (Key × List ℕ)) → entries m ≡ es → 1 ≤ len m
    by [] e = absurd (let clash : ◌≡◌ {A = Option (List ℕ)} (Some v) None = sym there ∙ get-entries m k ∙ ap (find key_cmp k) e in cc)
    by (x ∷ es) e = let size = len-entries m in let more = ap (λ (l : List (Key × List ℕ)). length l) e in omega (arith, size, more)

part_live : (n : ℕ) (shape : Shape) (a b : Map) → len b ≡ n → IsPart a b → live shape b ≤ live shape a
part_live zero shape a b e h = let none = ap (live shape) (empty_of_len b e) ∙ live-empty shape in omega (arith, none)
part_live (suc n) shape a b e h =
    let (k, v, there) = first_found b (entries b) n refl (sym (len-entries b) ∙ e) in
    let less : len (remove b k) ≡ n = (let f = len-remove key_total b k ∙ ap (λ o. cond (is_some o) (len b - 1) (len b)) there in omega (arith, f, e)) in
    let rest = part_live n shape (remove a k) (remove b k) less (part_remove a b k h) in
    let mine = live-remove shape b k in
    let same : get b k ≡ get a k = elim (h k) as (λ x. get b k ≡ get a k) [
      | inl none ↦ absurd (let clash : ◌≡◌ {A = Option (List ℕ)} (Some v) None = sym there ∙ none in cc)
      | inr same ↦ same
    ] in
    let other = live-remove shape a k in
    let pages = ap (pages_if_some shape) same in
    omega (arith, rest, mine, other, pages)

-- what is part of a map has no more live pages
pub live_of_part : (shape : Shape) (a b : Map) → IsPart a b → live shape b ≤ live shape a
live_of_part shape a b h = part_live (len b) shape a b refl h

part_len : (n : ℕ) (a b : Map) → len b ≡ n → IsPart a b → len b ≤ len a
part_len zero a b e h = omega (arith, e)
part_len (suc n) a b e h =
    let (k, v, there) = first_found b (entries b) n refl (sym (len-entries b) ∙ e) in
    let less : len (remove b k) ≡ n = (let f = len-remove key_total b k ∙ ap (λ o. cond (is_some o) (len b - 1) (len b)) there in omega (arith, f, e)) in
    let rest = part_len n (remove a k) (remove b k) less (part_remove a b k h) in
    let same : get b k ≡ get a k = elim (h k) as (λ x. get b k ≡ get a k) [
      | inl none ↦ absurd (let clash : ◌≡◌ {A = Option (List ℕ)} (Some v) None = sym there ∙ none in cc)
      | inr same ↦ same
    ] in
    let one : 1 ≤ len a = some_len a k v (sym same ∙ there) in
    let gone : len (remove a k) ≡ len a - 1 = len-remove key_total a k ∙ ap (λ o. cond (is_some o) (len a - 1) (len a)) (sym same ∙ there) in
    omega (arith, e, less, rest, one, gone)

-- what is part of a map has no more keys
pub len_of_part : (a b : Map) → IsPart a b → len b ≤ len a
len_of_part a b h = part_len (len b) a b refl h

-- maps that have the same of every key are one
pub same_by_keys : (a b : Map) → ((key : Key) → HaveSame a b key) → b ≡ a
same_by_keys a b h = same_map key_total key_antisymm b a h
