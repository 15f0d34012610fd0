-- Pages of keys, one after another, are all keys.
use Rattle.std.proofs.Common.{◌≡◌, inl, inr, ℕ, ◌-◌, ◌≤◌, ◌==◌, nat_lt, if◌then◌else◌, List, [], ◌∷◌, ◌++◌, length, filter, Bool, true, false, not, nat_le, Option, Some, None, Result, Ok, Err, IfOk}
use Rattle.std.proofs.Common.{zero, suc, IfSome, OnOk, refl, sym, ap, subst, ◌∙◌, arith, append_assoc}
use Rattle.std.specs.FinMap.{keys}
use Rattle.std.{proofs.lemmas.List.append-nil, proofs.lemmas.Bool.le-leb, specs.List.AllByRecursion, specs.List.slice_get, specs.Ordering.is_lt, specs.Ordering.ordering_then}
use Rattle.std.{specs.declared.cmp.Ordering.TheVariants.Equal, specs.declared.cmp.Ordering.TheVariants.Greater, proofs.lemmas.Bool.Decides.nat_tests}
use Rattle.pk_base.{specs.Key.Key, specs.Key.IsKey, specs.Key.key_cmp, specs.Key.IsBelow, specs.Key.IsRising, specs.Key.bytes_of, specs.Shape.Shape}
use Rattle.pk_base.specs.Map.{Map, IsMap, keys_from}
use Rattle.pk_nvme.{specs.Command.Command, specs.Command.key, specs.Command.key_or_none, specs.Reply.Reply, specs.Opcode.op_of, specs.declared.opcode.Opcode.Opcode}
use Rattle.pk_nvme.{specs.declared.opcode.Opcode.TheVariants.List as ListKeys, specs.declared.opcode.TheConstants.LIST, specs.declared.limits.TheConstants.MOST_LIST_BYTES}
use Rattle.pk_model.specs.Answer.{refused, map_after, effect, listed, fitting, list_bytes}
use Rattle.pk_host.{specs.declared.types.HostError.HostError, specs.Port.PortState, specs.Port.Replies, specs.Port.Took, specs.Port.LeftBySome, specs.Calls.of_bytes, specs.Calls.IsOwnKey}
use Rattle.pk_host.specs.Outcomes.{list_of, Leaves, AreLists, TookSome}
use Rattle.pk_host.specs.Listing.{IsStart, list_room, above, keys_of, page_after, Pages, Follows, TellsKeys, ListsAll}
use Rattle.pk_host.proofs.CommandLemmas.{success_served, list_by, key_named}
use Rattle.pk_host.proofs.SpellingLemmas.{in_first, read_back, listed_least, are_keys, filter_all}
use Rattle.pk_host.proofs.RisingLemmas.{above-append, above_split, above_above, above_from, are_above, rising_filter, all_middle, last_of, snoc_of, keys_rising, second_above}

-- what holds of each of two lists
pub all_append : {X : Type 0} (P : X → Type 0) (xs ys : List X) → AllByRecursion P xs → AllByRecursion P ys → AllByRecursion P (xs ++ ys)
all_append P [] ys front back = back
all_append P (x ∷ xs) ys front back = (front.0, all_append P xs ys front.1 back)

-- ---- Lists leave the map

pub map_after_same : (shape : Shape) (most : ℕ) (m : Map) (c : Command) (k : Opcode) → op_of c.opcode ≡ Some k → effect m c (Some k) ≡ m → map_after shape (most ∷ []) m c ≡ m
unfolding map_after
map_after_same shape most m c k is stays = elim (refused shape (most ∷ []) m c) as (λ r. refused shape (most ∷ []) m c ≡ r → map_after shape (most ∷ []) m c ≡ m) [
  | None ↦ λ e. (let left : map_after shape (most ∷ []) m c ≡ effect m c (Some k) = rw (e, is) refl in left ∙ stays)
  | Some s ↦ λ e. rw e refl
] refl

lists_leave : (shape : Shape) (most : ℕ) (m : Map) (cs : List Command) (m' : Map) → AreLists cs → LeftBySome shape most m cs m' → m' ≡ m
lists_leave shape most m [] m' h l = l
lists_leave shape most m (c ∷ cs) m' h (inl l) = lists_leave shape most m cs m' h.1 l
lists_leave shape most m (c ∷ cs) m' h (inr l) =
    lists_leave shape most (map_after shape (most ∷ []) m c) cs m' h.1 l ∙ ap (map_after shape (most ∷ []) m) h.0.1 ∙ map_after_same shape most m (list_of h.0.0) ListKeys refl refl

pub took_lists : (old new : PortState) (cs : List Command) → Took old new cs → AreLists cs → Leaves old new (λ m. m)
took_lists old new cs h are m told = let t = h.told m told in t.1 ∙ ap (λ (n : Map). Some n) (lists_leave old.shape old.limit m cs t.0 are t.2)

-- so does a command that only asks
pub took_one : (old new : PortState) (c : Command) (k : Opcode) → op_of c.opcode ≡ Some k → ((m : Map) → effect m c (Some k) ≡ m) → Took old new (c ∷ []) → Leaves old new (λ m. m)
took_one old new c k is stays h m told =
    let t = h.told m told in t.1 ∙ ap (λ (n : Map). Some n) (elim t.2 as (λ x. t.0 ≡ m) [
      | inl same ↦ same
      | inr after ↦ after ∙ map_after_same old.shape old.limit m c k is (stays m)
    ])

-- ---- one page

pub all_read : (from : Key) (each ks : List Key) → each ≡ above from ks → AllByRecursion (IsBelow from) each
all_read from each ks e = subst (AllByRecursion (IsBelow from)) (sym e) (are_above from ks)

pub none_read : (from : Key) (each : List Key) → each ≡ [] → AllByRecursion (IsBelow from) each
none_read from each e = subst (AllByRecursion (IsBelow from)) (sym e) tt

not_refused : (o : Option ℕ) → o ≡ None → o ≡ Some 0 → ⊥
not_refused None e z = cc
not_refused (Some n) e z = cc

-- no key is below the least of its namespace, nor below none
first_below : (n : ℕ) (bytes : List ℕ) → 1 ≤ n → is_lt (key_cmp (n ∷ bytes) (1 ∷ [])) ≡ false
first_below n [] some =
    let no : nat_lt n 1 ≡ false = grind (arith, nat_tests) in
    rw no (elim (n == 1) as (λ e. is_lt (ordering_then (if e then Equal else Greater) Equal) ≡ false) [ true ↦ refl | false ↦ refl ])
first_below n (b ∷ bytes) some =
    let no : nat_lt n 1 ≡ false = grind (arith, nat_tests) in
    rw no (elim (n == 1) as (λ e. is_lt (ordering_then (if e then Equal else Greater) Greater) ≡ false) [ true ↦ refl | false ↦ refl ])

all_from : (ks : List Key) → AllByRecursion IsKey ks → filter (λ k. not (is_lt (key_cmp k (1 ∷ [])))) ks ≡ filter (λ k. not (is_lt (key_cmp k []))) ks
all_from [] h = refl
all_from ([] ∷ ks) h = absurd (let some = h.0.some in omega (arith, some))
all_from ((n ∷ bytes) ∷ ks) h =
    ap (λ b. if not b then (n ∷ bytes) ∷ filter (λ k. not (is_lt (key_cmp k (1 ∷ [])))) ks else filter (λ k. not (is_lt (key_cmp k (1 ∷ [])))) ks) (first_below n bytes h.0.space_some)
    ∙ ap (λ (xs : List Key). (n ∷ bytes) ∷ xs) (all_from ks h.1)

-- the keys of a map from the start of a List on
keys_started : (shape : Shape) (m : Map) (from : Key) → IsStart from → IsMap shape m → keys_from (1 ∷ bytes_of from) m ≡ keys_from from m
keys_started shape m from (inl none) is =
    ap (λ (q : Key). keys_from (1 ∷ bytes_of q) m) none ∙ all_from (keys m) (are_keys shape m is) ∙ ap (λ (q : Key). keys_from q m) (sym none)
keys_started shape m from (inr key) is = ap (λ (q : Key). keys_from q m) (in_first from key)

pub page_read : (old new : PortState) (from : Key) (a : Reply) (each : List Key) → length (bytes_of from) ≤ 16 → IsStart from → Replies old new (list_of from) a → a.status ≡ 0
    → each ≡ above from (keys_of a.data_bytes) → Pages old from each
page_read old new from a each short start x done read m told =
    let s = x.answers m told in
    let none = not_refused (refused old.shape (old.limit ∷ []) m (list_of from)) (list_by old.shape old.limit m from short) in
    let served = success_served old.shape old.limit s.frames m (list_of from) ListKeys refl s.within.alone a s.left refl none done s.stepped in
    let bytes : a.data_bytes ≡ list_bytes (fitting list_room (keys_from (key (list_of from)) m)) = ap (λ (r : Reply). r.data_bytes) served.replied in
    read ∙ ap (λ (xs : List ℕ). above from (keys_of xs)) (bytes ∙ ap (λ (q : Key). list_bytes (fitting list_room (keys_from q m))) (key_named LIST from MOST_LIST_BYTES 0 [])
    ∙ ap (λ (ks : List Key). list_bytes (fitting list_room ks)) (keys_started old.shape m from start s.within.sized))
    ∙ ap (above from) (read_back old.shape m from s.within.sized s.within.alone)

-- a List for the bytes of a key, or for none
pub for_start : (old new : PortState) (from : Key) (bytes : List ℕ) (a : Reply) → bytes ≡ bytes_of from
    → Replies old new (of_bytes LIST bytes MOST_LIST_BYTES 0 []) a → Replies old new (list_of from) a
for_start old new from bytes a same x = subst (λ (q : List ℕ). Replies old new (of_bytes LIST q MOST_LIST_BYTES 0 []) a) same x

pub start_short : (from : Key) (bytes : List ℕ) → bytes ≡ bytes_of from → length bytes ≤ 16 → length (bytes_of from) ≤ 16
start_short from bytes same short = subst (λ (q : List ℕ). length q ≤ 16) same short

pub knows_keys : (old new : PortState) (c : Command) (a : Reply) → Replies old new c a → TellsKeys old
knows_keys old new c a x m told = are_keys old.shape m (x.answers m told).within.sized

pub ok_only : {X E : Type 0} (r : Result X E) (e : E) (P : Type 0) → r ≡ Err e → OnOk r P
ok_only r e P is = subst (λ x. OnOk x P) (sym is) tt

pub ok_never : {X E : Type 0} (r : Result X E) (e : E) (P : X → Type 0) → r ≡ Err e → IfOk r P
ok_never r e P is = subst (λ x. IfOk x P) (sym is) tt

-- ---- keys of the namespace in which commands are passed

own_at : (ks : List Key) (i : ℕ) → AllByRecursion IsOwnKey ks → IfSome (slice_get ks i) IsOwnKey
own_at [] i own = tt
own_at (k ∷ ks) zero own = own.0
own_at (k ∷ ks) (suc i) own = own_at ks i own.1

pub own_one : (o : Option Key) (ks : List Key) (i : ℕ) → o ≡ slice_get ks i → AllByRecursion IsOwnKey ks → IfSome o IsOwnKey
own_one o ks i same own = subst (λ (k : Option Key). IfSome k IsOwnKey) (sym same) (own_at ks i own)

-- ---- a page and the keys after it

fitting_rest : (room : ℕ) (ks : List Key) → (rest : List Key) × (ks ≡ fitting room ks ++ rest)
fitting_rest room [] = ([], refl)
fitting_rest room (k ∷ ks) =
    let more = fitting_rest (room - length (listed k)) ks in
    elim (nat_le (length (listed k)) room) as (λ b. (rest : List Key) × (k ∷ ks ≡ (if b then k ∷ fitting (room - length (listed k)) ks else []) ++ rest)) [
      | true ↦ (more.0, ap (λ (xs : List Key). k ∷ xs) more.1)
      | false ↦ (k ∷ ks, refl)
    ]

-- the keys above a key are its page and some more
page_rest : (from : Key) (m : Map) → (rest : List Key) × (above from (keys m) ≡ page_after from m ++ rest)
page_rest from m =
    let split = fitting_rest list_room (keys_from from m) in
    (above from split.0, sym (above_from from (keys m)) ∙ ap (above from) split.1 ∙ above-append from (fitting list_room (keys_from from m)) split.0)

-- ---- if a page is empty no key follows

room_for : (k : Key) → IsKey k → (room : ℕ) (ks : List Key) → 20 ≤ room → fitting room (k ∷ ks) ≡ k ∷ fitting (room - length (listed k)) ks
room_for k h room ks wide =
    let fits : nat_le (length (listed k)) room ≡ true = (let small = (listed_least k h).1 in le-leb (length (listed k)) room (omega (arith, small, wide))) in
    ap (λ b. if b then k ∷ fitting (room - length (listed k)) ks else []) fits

some_above : (from k j : Key) (rest : List Key) → is_lt (key_cmp from j) ≡ true → above from (k ∷ j ∷ rest) ≡ [] → ⊥
some_above from k j rest higher e =
    let one : above from (j ∷ rest) ≡ j ∷ above from rest = ap (λ b. if b then j ∷ above from rest else above from rest) higher in
    not_empty k (j ∷ above from rest) j (above from rest) (is_lt (key_cmp from k)) refl (sym (ap (λ (xs : List Key). if is_lt (key_cmp from k) then k ∷ xs else xs) one) ∙ e)
  where
    not_empty : (k : Key) (ys : List Key) (y : Key) (zs : List Key) (b : Bool) → ys ≡ y ∷ zs → (if b then k ∷ ys else ys) ≡ [] → ⊥
    not_empty k ys y zs true is e = cc
    not_empty k ys y zs false is e = cc

two_fit : (from : Key) (ws : List Key) → AllByRecursion IsKey ws → IsRising ws → AllByRecursion (λ k. is_lt (key_cmp k from) ≡ false) ws → above from (fitting list_room ws) ≡ [] → above from ws ≡ []
two_fit from [] h r n e = refl
two_fit from (k ∷ []) h r n e = sym (ap (above from) (room_for k h.0 list_room [] (omega arith))) ∙ e
two_fit from (k ∷ j ∷ ws) h r n e =
    let wide : 20 ≤ list_room - length (listed k) = (let small = (listed_least k h.0).1 in omega (arith, small)) in
    let fit : fitting list_room (k ∷ j ∷ ws) ≡ k ∷ j ∷ fitting (list_room - length (listed k) - length (listed j)) ws =
    room_for k h.0 list_room (j ∷ ws) (omega arith) ∙ ap (λ (xs : List Key). k ∷ xs) (room_for j h.1.0 (list_room - length (listed k)) ws wide) in
    absurd (some_above from k j _ (second_above from k j n.0 r.0.0) (sym (ap (above from) fit) ∙ e))

not_below : (from : Key) (ks : List Key) → AllByRecursion (λ k. is_lt (key_cmp k from) ≡ false) (filter (λ k. not (is_lt (key_cmp k from))) ks)
not_below from [] = tt
not_below from (k ∷ ks) = elim (is_lt (key_cmp k from)) as (λ b. is_lt (key_cmp k from) ≡ b
    → AllByRecursion (λ k. is_lt (key_cmp k from) ≡ false) (if not b then k ∷ filter (λ k. not (is_lt (key_cmp k from))) ks else filter (λ k. not (is_lt (key_cmp k from))) ks)) [
      | true ↦ λ e. not_below from ks
      | false ↦ λ e. (e, not_below from ks)
    ] refl

none_follows : (from : Key) (m : Map) → AllByRecursion IsKey (keys m) → page_after from m ≡ [] → above from (keys m) ≡ []
none_follows from m are e =
    sym (above_from from (keys m))
    ∙ two_fit from (keys_from from m) (filter_all IsKey (λ k. not (is_lt (key_cmp k from))) (keys m) are)
    (rising_filter (λ k. not (is_lt (key_cmp k from))) (keys m) (keys_rising m)) (not_below from (keys m)) e

same_some : (page rest all : List Key) → (page ≡ [] → all ≡ []) → all ≡ page ++ rest → nat_lt 0 (length page) ≡ nat_lt 0 (length all)
same_some [] rest all none e = ap (λ (xs : List Key). nat_lt 0 (length xs)) (sym (none refl))
same_some (k ∷ page) rest all none e =
    le-leb 1 (length (k ∷ page)) (omega arith) ∙ sym (ap (λ (xs : List Key). nat_lt 0 (length xs)) e ∙ le-leb 1 (length (k ∷ page ++ rest)) (omega arith))

pub follows_read : (old new : PortState) (from : Key) (a : Reply) (each : List Key) (r : Result Bool HostError) → length (bytes_of from) ≤ 16
    → IsStart from → Replies old new (list_of from) a → a.status ≡ 0
    → each ≡ above from (keys_of a.data_bytes) → r ≡ Ok (nat_lt 0 (length each)) → IfOk r (λ more. Follows old from more)
follows_read old new from a each r short start x done read is = subst (λ y. IfOk y (λ more. Follows old from more)) (sym is) (λ m told.
    let page = page_read old new from a each short start x done read m told in
    let split = page_rest from m in
    ap (λ (ks : List Key). nat_lt 0 (length ks)) page ∙ same_some (page_after from m) split.0 (above from (keys m)) (none_follows from m (knows_keys old new (list_of from) a x m told)) split.1)

-- after a page come the keys above its last
pub next_page : (from : Key) (m : Map) (front : List Key) (p : Key) → page_after from m ≡ front ++ p ∷ [] → above from (keys m) ≡ page_after from m ++ above p (keys m)
next_page from m front p e =
    let split = page_rest from m in
    let all : above from (keys m) ≡ front ++ p ∷ split.0 = split.1 ∙ ap (λ (xs : List Key). xs ++ split.0) e ∙ append_assoc front (p ∷ []) split.0 in
    let rises : IsRising (front ++ p ∷ split.0) = subst IsRising all (rising_filter (λ k. is_lt (key_cmp from k)) (keys m) (keys_rising m)) in
    let higher : IsBelow from p = all_middle from p front split.0 (subst (AllByRecursion (IsBelow from)) all (are_above from (keys m))) in
    let behind : above p (keys m) ≡ split.0 = sym (above_above from p (keys m) higher) ∙ ap (above p) all ∙ above_split p front split.0 rises in
    split.1 ∙ ap (λ (xs : List Key). page_after from m ++ xs) (sym behind)

-- ---- all pages

-- the keys so far and those above the last of them are all keys, and the map is unchanged
pub record IsListing (start now : PortState) (all : List Key) : Type 0 where
  pub leaves : Leaves start now (λ m. m)
  pub listed_keys : (m : Map) → start.map ≡ Some m → all ++ above (key_or_none (slice_get all (length all - 1))) (keys m) ≡ above [] (keys m)

add_page : (m : Map) (all page : List Key) (from : Key) → page ≡ page_after from m → from ≡ key_or_none (slice_get all (length all - 1))
    → all ++ above from (keys m) ≡ above [] (keys m)
    → (all ++ page) ++ above (key_or_none (slice_get (all ++ page) (length (all ++ page) - 1))) (keys m) ≡ above [] (keys m)
add_page m all [] from is at h =
    ap (λ (xs : List Key). xs ++ above (key_or_none (slice_get xs (length xs - 1))) (keys m)) (append-nil all) ∙ ap (λ (q : Key). all ++ above q (keys m)) (sym at) ∙ h
add_page m all (k ∷ page) from is at h =
    let last = snoc_of k page in
    let whole : all ++ k ∷ page ≡ (all ++ last.0) ++ last.1 ∷ [] = ap (λ (xs : List Key). all ++ xs) last.2 ∙ sym (append_assoc all last.0 (last.1 ∷ [])) in
    let at_last : slice_get (all ++ k ∷ page) (length (all ++ k ∷ page) - 1) ≡ Some last.1 = ap (λ (xs : List Key). slice_get xs (length xs - 1)) whole ∙ last_of (all ++ last.0) last.1 in
    append_assoc all (k ∷ page) _ ∙ ap (λ (o : Option Key). all ++ ((k ∷ page) ++ above (key_or_none o) (keys m))) at_last
    ∙ ap (λ (xs : List Key). all ++ (xs ++ above last.1 (keys m))) is ∙ ap (λ (xs : List Key). all ++ xs) (sym (next_page from m last.0 last.1 (sym is ∙ last.2))) ∙ h

pub listing_goes : (start now next : PortState) (all page all' : List Key) (from : Key) → IsListing start now all → from ≡ key_or_none (slice_get all (length all - 1))
    → Pages now from page → Leaves now next (λ m. m) → all' ≡ all ++ page → IsListing start next all'
listing_goes start now next all page all' from h at pages leaves whole = record {
  leaves = λ m told. leaves m (h.leaves m told);
  listed_keys = λ m told.
      ap (λ (xs : List Key). xs ++ above (key_or_none (slice_get xs (length xs - 1))) (keys m)) whole
      ∙ add_page m all page from (pages m (h.leaves m told)) at (ap (λ (q : Key). all ++ above q (keys m)) at ∙ h.listed_keys m told);
}

pub nothing_above : (xs : List Key) → false ≡ nat_lt 0 (length xs) → xs ≡ []
nothing_above [] e = refl
nothing_above (x ∷ xs) e = absurd (let clash : false ≡ true = e ∙ le-leb 1 (length (x ∷ xs)) (omega arith) in cc)

pub all_above_none : (ks : List Key) → AllByRecursion IsKey ks → above [] ks ≡ ks
all_above_none [] h = refl
all_above_none ([] ∷ ks) h = absurd (let some = h.0.some in omega (arith, some))
all_above_none ((x ∷ k) ∷ ks) h = ap (λ (xs : List Key). (x ∷ k) ∷ xs) (all_above_none ks h.1)

pub listing_ends : (start now : PortState) (all : List Key) (from : Key) → IsListing start now all → from ≡ key_or_none (slice_get all (length all - 1))
    → (more : Bool) → more ≡ false → Follows now from more → TellsKeys now → ListsAll start all
listing_ends start now all from h at more stop none known m told =
    let here = h.leaves m told in
    let gone : above from (keys m) ≡ [] = nothing_above (above from (keys m)) (sym stop ∙ none m here) in
    sym (append-nil all) ∙ ap (λ (xs : List Key). all ++ xs) (sym gone) ∙ ap (λ (q : Key). all ++ above q (keys m)) at ∙ h.listed_keys m told ∙ all_above_none (keys m) (known m here)

-- ---- the commands of all pages

pub more_lists : {P : Type 0} (took : P → List Command → P → Type 0) → ((p : P) (cs : List Command) (q : P) (ds : List Command) (r : P) → took p cs q → took q ds r → took p (cs ++ ds) r)
    → (p q r : P) (from : Key) → TookSome took AreLists p q → took q (list_of from ∷ []) r → TookSome took AreLists p r
more_lists took both p q r from h k = (h.0 ++ list_of from ∷ [], all_append (λ c. (f : Key) × (c ≡ list_of f)) h.0 (list_of from ∷ []) h.1 ((from, refl), tt), both p h.0 q (list_of from ∷ []) r h.2 k)
