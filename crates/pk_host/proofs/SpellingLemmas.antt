-- The keys that a List spells are read back.
use Rattle.std.proofs.Common.{◌≡◌, ℕ, ◌+◌, ◌-◌, ◌*◌, ◌%◌, ◌≤◌, min, if◌then◌else◌, List, [], ◌∷◌, ◌++◌, length, take, drop, filter, map, flat_map, replicate, Bool, true, false, not, ◌&&◌, nat_le}
use Rattle.std.proofs.Common.{Some, None, refl, sym, ap, subst, cond, ◌==◌, ◌∙◌, arith, append_assoc, length-append}
use Rattle.std.{proofs.lemmas.List.take_at, proofs.lemmas.List.length-replicate, proofs.lemmas.Bool.le-leb, proofs.lemmas.Bool.leb-true, proofs.lemmas.Bool.eqb-true, specs.List.AllByRecursion}
use Rattle.std.{specs.Ordering.is_lt, specs.FinMap.keys, specs.FinMap.entries, specs.FinMap.Entries.where_key}
use Rattle.pk_base.{specs.Key.Key, specs.Key.IsKey, specs.Key.key_cmp, specs.Key.bytes_of, specs.Key.space_of, specs.Fields.AreBytes, specs.Fields.u16, specs.Fields.u16_at, specs.Fields.u32_at}
use Rattle.pk_base.{specs.Shape.Shape, specs.Map.Map, specs.Map.IsMap, specs.Map.keys_from, proofs.Tables.stands_number}
use Rattle.pk_model.{specs.Answer.listed, specs.Answer.fitting, specs.Answer.list_bytes, specs.Spaces.in_space, proofs.SpaceLemmas.entries_in}
use Rattle.pk_host.{specs.declared.sizes.TheConstants.MOST_KEYS, specs.Listing.list_room, specs.Listing.first_key, specs.Listing.and_then, specs.Listing.keys_in, specs.Listing.keys_of}

drop_front : (a b : List ℕ) → drop (length a) (a ++ b) ≡ b
drop_front [] b = refl
drop_front (x ∷ a) b = drop_front a b

-- ---- one key

-- a key of namespace 1
abbrev pub IsFirstKey : Key → Type 0
IsFirstKey k = IsKey k × (space_of k ≡ 1)

pub in_first : (k : Key) → IsFirstKey k → 1 ∷ bytes_of k ≡ k
in_first [] h = let some = h.0.some in absurd (omega (arith, some))
in_first (n ∷ bytes) h = ap (λ (m : ℕ). m ∷ bytes) (sym h.1)

size_at : (k : Key) (rest : List ℕ) → IsKey k → u16_at (listed k ++ rest) 0 ≡ length (bytes_of k)
size_at k rest h = stands_number 2 0 (length (bytes_of k)) _ (listed k ++ rest) (append_assoc (u16 (length (bytes_of k))) _ rest) (omega (arith, h.most))

bytes_at : (k : Key) (rest : List ℕ) → take (length (bytes_of k)) (drop 2 (listed k ++ rest)) ≡ bytes_of k
bytes_at k rest = ap (take (length (bytes_of k))) (append_assoc (bytes_of k) _ rest) ∙ take_at (bytes_of k) _ (length (bytes_of k)) refl

room_at : (k : Key) (rest : List ℕ) → 2 + length (bytes_of k) ≤ length (listed k ++ rest)
room_at k rest =
    let a = length-append (listed k) rest in
    let b = length-append (bytes_of k) (replicate ((6 - (length (bytes_of k) % 4)) % 4) 0) in
    omega (arith, a, b)

spelled_first : (k : Key) (rest : List ℕ) → IsFirstKey k → first_key (listed k ++ rest) ≡ Some k
spelled_first k rest h =
    let bytes : List ℕ = listed k ++ rest in
    let n : ℕ = length (bytes_of k) in
    let size = size_at k rest h.0 in
    let fits : (nat_le 1 (u16_at bytes 0) && nat_le (u16_at bytes 0) 16 && nat_le (2 + u16_at bytes 0) (length bytes)) ≡ true =
    ap (λ (n : ℕ). nat_le 1 n && nat_le n 16 && nat_le (2 + n) (length bytes)) size
    ∙ rw (le-leb 1 n h.0.some, le-leb n 16 h.0.most, le-leb (2 + n) (length bytes) (room_at k rest)) refl in
    ap (λ b. if b then Some (1 ∷ take (u16_at bytes 0) (drop 2 bytes)) else None) fits ∙ ap (λ (n : ℕ). Some (1 ∷ take n (drop 2 bytes))) size
    ∙ ap (λ (xs : List ℕ). Some (1 ∷ xs)) (bytes_at k rest) ∙ ap (λ (x : Key). Some x) (in_first k h)

-- ---- all keys

pub keys_in-listed : (ks : List Key) → AllByRecursion IsFirstKey ks → keys_in (length ks) (flat_map listed ks) ≡ ks
keys_in-listed [] h = refl
keys_in-listed (k ∷ ks) h =
    ap (λ o. and_then o (λ key. keys_in (length ks) (drop (length (listed key)) (listed k ++ flat_map listed ks)))) (spelled_first k (flat_map listed ks) h.0)
    ∙ ap (λ (xs : List ℕ). k ∷ keys_in (length ks) xs) (drop_front (listed k) (flat_map listed ks))
    ∙ ap (λ (xs : List Key). k ∷ xs) (keys_in-listed ks h.1)

-- the data of a List give its keys
pub keys_of-list_bytes : (ks : List Key) → AllByRecursion IsFirstKey ks → length ks ≤ MOST_KEYS → keys_of (list_bytes ks) ≡ ks
keys_of-list_bytes ks h few =
    let count : u32_at (list_bytes ks) 0 ≡ length ks = stands_number 4 0 (length ks) (flat_map listed ks) (list_bytes ks) refl (omega (arith, few)) in
    let all : min (u32_at (list_bytes ks) 0) MOST_KEYS ≡ length ks = omega (arith, count, few) in
    ap (λ (n : ℕ). keys_in n (flat_map listed ks)) all ∙ keys_in-listed ks h

-- ---- how many keys fit

pub listed_least : (k : Key) → IsKey k → (4 ≤ length (listed k)) × (length (listed k) ≤ 20)
listed_least k h =
    let a = length-append (bytes_of k) (replicate ((6 - (length (bytes_of k) % 4)) % 4) 0) in
    let b = length-replicate {A = ℕ} ((6 - (length (bytes_of k) % 4)) % 4) 0 in
    (omega (arith, a, b, h.some), omega (arith, a, b, h.most))

pub fitting_all : (P : Key → Type 0) (room : ℕ) (ks : List Key) → AllByRecursion P ks → AllByRecursion P (fitting room ks)
fitting_all P room [] h = tt
fitting_all P room (k ∷ ks) h = elim (nat_le (length (listed k)) room) as (λ b. AllByRecursion P (if b then k ∷ fitting (room - length (listed k)) ks else [])) [
  | true ↦ (h.0, fitting_all P (room - length (listed k)) ks h.1)
  | false ↦ tt
]

pub fitting_few : (room : ℕ) (ks : List Key) → AllByRecursion IsKey ks → 4 * length (fitting room ks) ≤ room
fitting_few room [] h = omega arith
fitting_few room (k ∷ ks) h = elim (nat_le (length (listed k)) room) as (λ b. nat_le (length (listed k)) room ≡ b → 4 * length (if b then k ∷ fitting (room - length (listed k)) ks else []) ≤ room) [
  | true ↦ λ e.
      let fits = leb-true (length (listed k)) room e in
      let rest = fitting_few (room - length (listed k)) ks h.1 in
      let least = (listed_least k h.0).0 in
      omega (arith, fits, rest, least)
  | false ↦ λ e. omega arith
] refl

-- ---- the keys of a map

pub filter_all : (P : Key → Type 0) (p : Key → Bool) (ks : List Key) → AllByRecursion P ks → AllByRecursion P (filter p ks)
filter_all P p [] h = tt
filter_all P p (k ∷ ks) h = elim (p k) as (λ b. AllByRecursion P (if b then k ∷ filter p ks else filter p ks)) [
  | true ↦ (h.0, filter_all P p ks h.1)
  | false ↦ filter_all P p ks h.1
]

names_all : (es : List (Key × List ℕ)) → AllByRecursion (λ e. IsKey e.0 × AreBytes e.0) es → AllByRecursion IsKey (map (λ e. e.0) es)
names_all [] h = tt
names_all (e ∷ es) h = (h.0.0, names_all es h.1)

pub are_keys : (shape : Shape) (m : Map) → IsMap shape m → AllByRecursion IsKey (keys m)
are_keys shape m h = names_all (entries m) h.keys

-- of a map of namespace 1 alone
spaced_all : (es : List (Key × List ℕ)) → AllByRecursion (λ k. space_of k ≡ 1) (map (λ e. e.0) (where_key key_cmp (λ k. space_of k == 1) es))
spaced_all [] = tt
spaced_all (e ∷ es) =
    elim (space_of e.0 == 1) as (λ b. (space_of e.0 == 1) ≡ b
    → AllByRecursion (λ k. space_of k ≡ 1) (map (λ e. e.0) (cond b (e ∷ where_key key_cmp (λ k. space_of k == 1) es) (where_key key_cmp (λ k. space_of k == 1) es)))) [
      | true ↦ λ is. (eqb-true (space_of e.0) 1 is, spaced_all es)
      | false ↦ λ other. spaced_all es
    ] refl

both_all : (ks : List Key) → AllByRecursion IsKey ks → AllByRecursion (λ k. space_of k ≡ 1) ks → AllByRecursion IsFirstKey ks
both_all [] h g = tt
both_all (k ∷ ks) h g = ((h.0, g.0), both_all ks h.1 g.1)

pub are_first_keys : (shape : Shape) (m : Map) → IsMap shape m → in_space 1 m ≡ m → AllByRecursion IsFirstKey (keys m)
are_first_keys shape m h alone = both_all (keys m) (are_keys shape m h)
    (subst (λ (es : List (Key × List ℕ)). AllByRecursion (λ k. space_of k ≡ 1) (map (λ e. e.0) es)) (sym (entries_in 1 m) ∙ ap entries alone) (spaced_all (entries m)))

-- the data of one List, read back
pub read_back : (shape : Shape) (m : Map) (from : Key) → IsMap shape m → in_space 1 m ≡ m → keys_of (list_bytes (fitting list_room (keys_from from m))) ≡ fitting list_room (keys_from from m)
read_back shape m from h alone =
    let all : AllByRecursion IsKey (keys_from from m) = filter_all IsKey (λ k. not (is_lt (key_cmp k from))) (keys m) (are_keys shape m h) in
    let first : AllByRecursion IsFirstKey (keys_from from m) = filter_all IsFirstKey (λ k. not (is_lt (key_cmp k from))) (keys m) (are_first_keys shape m h alone) in
    let few = fitting_few list_room (keys_from from m) all in
    keys_of-list_bytes (fitting list_room (keys_from from m)) (fitting_all IsFirstKey list_room (keys_from from m) first) (omega (arith, few))
