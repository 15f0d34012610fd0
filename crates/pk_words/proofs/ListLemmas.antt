-- The keys of a list, piece by piece.
use Rattle.std.proofs.Common.{IfSome, ◌≡◌, inl, inr, ◌⊎◌, ℕ, ◌-◌, ◌<◌, ◌==◌, nat_lt, if◌then◌else◌, cond, List, [], ◌∷◌, ◌++◌, length, filter, map, slice_index_or, Bool, true, false, not, Option}
use Rattle.std.proofs.Common.{Some, None, is_some, Result, Ok, Err, refl, sym, ap, subst, ◌∙◌, arith, length-append}
use Rattle.std.{proofs.lemmas.Bool.ltb-true, proofs.lemmas.List.append-nil, specs.List.AllByRecursion, specs.declared.cmp.Ordering.Ordering, specs.FinMap.Entries.find}
use Rattle.std.specs.declared.cmp.Ordering.TheVariants.{Less, Equal, Greater}
use Rattle.std.{specs.Ordering.is_lt, specs.Ordering.is_eq, specs.Ordering.ordering_reverse, specs.FinMap.keys, specs.FinMap.entries, specs.FinMap.get, specs.FinMap.get-entries}
use Rattle.pk_base.{specs.Key.Key, specs.Key.IsKey, specs.Key.key_cmp, specs.Key.IsBelow, specs.Key.IsRising, specs.Map.Map, specs.Map.keys_from}
use Rattle.pk_nand.specs.Calls.{Rose}
use Rattle.pk_nvme.{specs.Command.Command, specs.Command.key_or_none, specs.declared.opcode.Opcode.TheVariants.Exist}
use Rattle.pk_nvme.specs.declared.status.TheConstants.{KEY_DOES_NOT_EXIST, UNRECOVERED_ERROR}
use Rattle.pk_model.proofs.MapLemmas.{key_total, key_antisymm}
use Rattle.pk_host.{specs.declared.types.HostError.HostError, specs.declared.types.HostError.TheVariants.Refused, specs.Port.PortState}
use Rattle.pk_host.{specs.Calls.IsOwnKey, specs.Calls.exist_of, specs.Outcomes.Gives, specs.Outcomes.Tests, specs.Outcomes.existed, proofs.PageLemmas.next_page, proofs.PageLemmas.nothing_above}
use Rattle.pk_host.{specs.Listing.above, specs.Listing.Pages, specs.Listing.Follows, specs.Listing.TellsKeys, specs.Listing.listed_by, proofs.CommandLemmas.keyed_fault, proofs.CommandLemmas.exist_by}
use Rattle.pk_host.proofs.RisingLemmas.{all_middle, snoc_of, keys_rising, second_above}
use Rattle.pk_words.{specs.declared.listing.ListPosition.TheVariants.From, specs.declared.listing.ListPosition.TheVariants.After, proofs.RankLemmas.after_first, proofs.RankLemmas.after_key}
use Rattle.pk_words.specs.Lines.{key_line, key_lines, status_line, failed_line}
use Rattle.pk_words.specs.Listing.{IsText, keys_left, position_after, pieces_left, Continues, ListEnds}

-- ---- keys that are not below a key: the key itself, if it exists, and those above it

-- a key is not below another that is below it
not_below : (a b : Key) → is_lt (key_cmp a b) ≡ true → is_lt (key_cmp b a) ≡ false
not_below a b e = by (key_cmp a b) refl e
  where
    by : (o : Ordering) → key_cmp a b ≡ o → is_lt o ≡ true → is_lt (key_cmp b a) ≡ false
    by Less is e = ap is_lt (key_total.antisymm b a ∙ ap ordering_reverse is)
    by o is e = cc

-- of keys above a key, none is missing
all_kept : (key : Key) (ks : List Key) → AllByRecursion (λ k. is_lt (key_cmp key k) ≡ true) ks
    → (filter (λ k. not (is_lt (key_cmp k key))) ks ≡ ks) × (above key ks ≡ ks)
all_kept key [] h = (refl, refl)
all_kept key (k ∷ ks) h =
    let rest = all_kept key ks h.1 in (
      ap (λ b. if not b then k ∷ filter (λ k. not (is_lt (key_cmp k key))) ks else filter (λ k. not (is_lt (key_cmp k key))) ks) (not_below key k h.0) ∙ ap (λ (xs : List Key). k ∷ xs) rest.0,
      ap (λ b. if b then k ∷ above key ks else above key ks) h.0 ∙ ap (λ (xs : List Key). k ∷ xs) rest.1,
    )

-- nor is the key among them
none_by : (key : Key) (e : Key × List ℕ) (es : List (Key × List ℕ)) (o : Ordering) → find key_cmp key es ≡ None → key_cmp key e.0 ≡ o → is_lt o ≡ true → find key_cmp key (e ∷ es) ≡ None
none_by key e es Less rest is l = ap (λ o. cond (is_eq o) (Some e.1) (find key_cmp key es)) is ∙ rest
none_by key e es o rest is l = cc

none_found : (key : Key) (es : List (Key × List ℕ)) → AllByRecursion (λ k. is_lt (key_cmp key k) ≡ true) (map (λ e. e.0) es) → find key_cmp key es ≡ None
none_found key [] h = refl
none_found key (e ∷ es) h = none_by key e es (key_cmp key e.0) (none_found key es h.1) refl h.0

-- the key itself, if it is one of them
abbrev itself : Key → Option (List ℕ) → List Key
itself key value = if is_some value then key ∷ [] else []

abbrev names : List (Key × List ℕ) → List Key
names es = map (λ e. e.0) es

abbrev kept : Key → List Key → List Key
kept key ks = filter (λ k. not (is_lt (key_cmp k key))) ks

all_higher : (key x : Key) (ks : List Key) → is_lt (key_cmp x key) ≡ false → AllByRecursion (IsBelow x) ks → AllByRecursion (λ k. is_lt (key_cmp key k) ≡ true) ks
all_higher key x [] n h = tt
all_higher key x (k ∷ ks) n h = (second_above key x k n h.0, all_higher key x ks n h.1)

module _ (key : Key) (e : Key × List ℕ) (es : List (Key × List ℕ)) where
  Splits : Type 0
  Splits = kept key (names (e ∷ es)) ≡ itself key (find key_cmp key (e ∷ es)) ++ above key (names (e ∷ es))

  -- what both sides are, by how the key compares with the first of them
  found_by : (o : Ordering) → key_cmp key e.0 ≡ o
      → itself key (find key_cmp key (e ∷ es)) ++ above key (names (e ∷ es))
      ≡ itself key (cond (is_eq o) (Some e.1) (find key_cmp key es)) ++ (if is_lt o then e.0 ∷ above key (names es) else above key (names es))
  found_by o is = ap (λ r. itself key (cond (is_eq r) (Some e.1) (find key_cmp key es)) ++ (if is_lt r then e.0 ∷ above key (names es) else above key (names es))) is

  kept_by : (b : Bool) → is_lt (key_cmp e.0 key) ≡ b → kept key (names (e ∷ es)) ≡ (if not b then e.0 ∷ kept key (names es) else kept key (names es))
  kept_by b is = ap (λ r. if not r then e.0 ∷ kept key (names es) else kept key (names es)) is

  -- it is above the first
  split_below : is_lt (key_cmp e.0 key) ≡ true → kept key (names es) ≡ itself key (find key_cmp key es) ++ above key (names es) → Splits
  unfolding Splits
  split_below lower rest = kept_by true lower ∙ rest ∙ sym (found_by Greater (by (key_cmp e.0 key) refl lower))
    where
      by : (o : Ordering) → key_cmp e.0 key ≡ o → is_lt o ≡ true → key_cmp key e.0 ≡ Greater
      by Less is l = key_total.antisymm key e.0 ∙ ap ordering_reverse is
      by o is l = cc

  -- it is not
  split_above : (o : Ordering) → key_cmp key e.0 ≡ o → is_lt (key_cmp e.0 key) ≡ false → IsRising (names (e ∷ es)) → Splits
  unfolding Splits
  split_above Less is n rising =
      let higher = all_higher key e.0 (names es) n rising.0 in
      let all = all_kept key (names es) higher in
      kept_by false n ∙ ap (λ (xs : List Key). e.0 ∷ xs) (all.0 ∙ sym all.1)
      ∙ ap (λ (v : Option (List ℕ)). itself key v ++ (e.0 ∷ above key (names es))) (sym (none_found key es higher)) ∙ sym (found_by Less is)
  split_above Equal is n rising =
      let all = all_kept key (names es) (all_higher key e.0 (names es) n rising.0) in
      kept_by false n ∙ ap (λ (xs : List Key). e.0 ∷ xs) (all.0 ∙ sym all.1) ∙ ap (λ (k : Key). k ∷ above key (names es)) (sym (key_antisymm key e.0 is)) ∙ sym (found_by Equal is)
  split_above Greater is n rising = absurd (let clash : true ≡ false = sym (ap is_lt (key_total.antisymm e.0 key ∙ ap ordering_reverse is)) ∙ n in cc)

from_split : (key : Key) (es : List (Key × List ℕ)) → IsRising (names es) → kept key (names es) ≡ itself key (find key_cmp key es) ++ above key (names es)
unfolding Splits
from_split key [] r = refl
from_split key (e ∷ es) r = elim (is_lt (key_cmp e.0 key)) as (λ b. is_lt (key_cmp e.0 key) ≡ b → Splits key e es) [
  | true ↦ λ lower. split_below key e es lower (from_split key es r.1)
  | false ↦ λ n. split_above key e es (key_cmp key e.0) refl n r
] refl

pub keys_from_split : (key : Key) (m : Map) → keys_from key m ≡ itself key (get m key) ++ above key (keys m)
keys_from_split key m = from_split key (entries m) (keys_rising m) ∙ ap (λ (v : Option (List ℕ)). itself key v ++ above key (keys m)) (sym (get-entries m key))

-- all keys are above no bytes, and none is below them
none_below : (ks : List Key) → AllByRecursion IsKey ks → kept [] ks ≡ above [] ks
none_below [] h = refl
none_below ([] ∷ ks) h = absurd (let some = h.0.some in omega (arith, some))
none_below ((x ∷ k) ∷ ks) h = ap (λ (xs : List Key). (x ∷ k) ∷ xs) (none_below ks h.1)

pub left_behind : (p : PortState) (o : Option Key) (m : Map) → TellsKeys p → p.map ≡ Some m → keys_left (position_after o) m ≡ above (key_or_none o) (keys m)
left_behind p None m known told = none_below (keys m) (known m told)
left_behind p (Some key) m known told = refl

-- ---- a page

pub own_from : (o : Option Key) → ((k : Key) → o ≡ Some k → IsText k) → IfSome o IsOwnKey
own_from None text = tt
own_from (Some k) text = (text k refl).own

last_at : (xs : List Key) (p : Key) → slice_index_or (xs ++ p ∷ []) (length xs) [] ≡ p
last_at [] p = refl
last_at (x ∷ xs) p = last_at xs p

last_is : (front : List Key) (q : Key) → slice_index_or (front ++ q ∷ []) (length (front ++ q ∷ []) - 1) [] ≡ q
last_is front q =
    let n : length (front ++ q ∷ []) - 1 ≡ length front = omega (arith, length-append front (q ∷ [])) in
    ap (λ (i : ℕ). slice_index_or (front ++ q ∷ []) i []) n ∙ last_at front q

parts : (page : List Key) → 0 < length page → (front : List Key) × (q : Key) × (page ≡ front ++ q ∷ [])
parts [] some = absurd (omega (arith, some))
parts (x ∷ xs) some = snoc_of x xs

pub falls_behind : (o : Option Key) (page : List Key) (p : Key) → 0 < length page → p ≡ slice_index_or page (length page - 1) [] → IsText p → ((k : Key) → o ≡ Some k → IsText k)
    → AllByRecursion (IsBelow (key_or_none o)) page → pieces_left (After p) < pieces_left (position_after o)
falls_behind None page p some last is_text text above_all_of = after_first p
falls_behind (Some k) page p some last is_text text higher =
    let (front, q, e) = parts page some in
    let same : q ≡ p = sym (last_is front q) ∙ ap (λ (ks : List Key). slice_index_or ks (length ks - 1) []) (sym e) ∙ sym last in
    let below : IsBelow k q = all_middle k q front [] (subst (AllByRecursion (IsBelow k)) e higher) in
    after_key k p (text k refl) is_text (subst (IsBelow k) same below)

pub says_page : (old : PortState) (o : Option Key) (page : List Key) (p : Key) (text : List ℕ) → 0 < length page → p ≡ slice_index_or page (length page - 1) [] → IsText p
    → ((k : Key) → o ≡ Some k → IsText k) → AllByRecursion (IsBelow (key_or_none o)) page → Pages old (key_or_none o) page
    → TellsKeys old → text ≡ key_lines page → Continues old (position_after o) (After p) text
says_page old o page p text some last is_text from_text higher read known spelled = record {
  lines = λ m told.
      let (front, q, e) = parts page some in
      let same : q ≡ p = sym (last_is front q) ∙ ap (λ (ks : List Key). slice_index_or ks (length ks - 1) []) (sym e) ∙ sym last in
      let here = read m told in
      let next = next_page (key_or_none o) m front q (sym here ∙ e) in (
        page,
        left_behind old o m known told ∙ next ∙ ap (λ (ks : List Key). ks ++ above q (keys m)) (sym here) ∙ ap (λ (k : Key). page ++ above k (keys m)) same,
        spelled,
      );
  falls = falls_behind o page p some last is_text from_text higher;
}

pub says_end : (old new : PortState) (o : Option Key) (more : Bool) (text : List ℕ) → more ≡ false
    → Follows old (key_or_none o) more → TellsKeys old → text ≡ [] → ListEnds old new (position_after o) text
says_end old new o more text stop follows known none m told =
    inl (none, left_behind old o m known told ∙ nothing_above (above (key_or_none o) (keys m)) (sym stop ∙ follows m told))

-- a page that was given has a key
pub page_some : (old new : PortState) (c : Command) (page : List Key) (more : Bool) → more ≡ true → Gives old new c (listed_by page) (Ok more) → 0 < length page
page_some old new c page more yes_more (inr fault) = absurd (cc fault.0)
page_some old new c page more yes_more (inl (a, x, e)) =
    elim (a.status == 0) as (λ b. (Ok more ≡ (if b then Ok (nat_lt 0 (length page)) else Err (Refused a.status))) → 0 < length page) [
      | true ↦ λ h. ltb-true 0 (length page) (let same : more ≡ nat_lt 0 (length page) = cc in sym same ∙ yes_more)
      | false ↦ λ h. cc
    ] e

-- ---- the key at which a list begins

says_key : (old : PortState) (key : Key) (there : Bool) (page : List Key) (text : List ℕ) → (if there then key ∷ [] else []) ≡ page → Tests old key there → text ≡ key_lines page
    → Continues old (From key) (After key) text
says_key old key there page text is tests spelled = record {
  lines = λ m told. (page, keys_from_split key m ∙ ap (λ b. (if b then key ∷ [] else []) ++ above key (keys m)) (sym (tests m told)) ∙ ap (λ ks. ks ++ above key (keys m)) is, spelled);
  falls = omega arith;
}

pub says_there : (old : PortState) (key : Key) (there : Bool) (text : List ℕ) → there ≡ true → Tests old key there → text ≡ key_line key → Continues old (From key) (After key) text
says_there old key there text e tests spelled = says_key old key there (key ∷ []) text (ap (λ b. if b then key ∷ [] else []) e) tests (spelled ∙ sym (append-nil (key_line key)))

pub says_missing : (old : PortState) (key : Key) (there : Bool) (text : List ℕ) → there ≡ false → Tests old key there → text ≡ [] → Continues old (From key) (After key) text
says_missing old key there text e tests spelled = says_key old key there [] text (ap (λ b. if b then key ∷ [] else []) e) tests spelled

abbrev Found : PortState → PortState → Key → List ℕ → Map → Type 0
Found old new key text m = ((text ≡ []) × (keys_left (From key) m ≡ [])) ⊎ (Rose old.read_faults new.read_faults × (text ≡ failed_line))

-- why a look at a key has no answer
pub exist_failed : (old new : PortState) (key : Key) (error : HostError) (status : ℕ) (text : List ℕ) → error ≡ Refused status → IsKey key → Gives old new (exist_of key) existed (Err error)
    → text ≡ status_line status → ListEnds old new (From key) text
exist_failed old new key error status text is is_key (inr fault) spelled m told = absurd (cc (is, fault.0))
exist_failed old new key error status text is is_key (inl (a, x, e)) spelled m told =
    elim (a.status == 0) as (λ b. (a.status == 0) ≡ b
    → ◌≡◌ {A = Result Bool HostError} (Err error) (if b then Ok true else if a.status == KEY_DOES_NOT_EXIST then Ok false else Err (Refused a.status)) → Found old new key text m) [
      | true ↦ λ z h. cc
      | false ↦ λ z g. elim (a.status == KEY_DOES_NOT_EXIST) as (λ b. (a.status == KEY_DOES_NOT_EXIST) ≡ b
          → ◌≡◌ {A = Result Bool HostError} (Err error) (if b then Ok false else Err (Refused a.status)) → Found old new key text m) [
            | true ↦ λ y h. cc
            | false ↦ λ y h.
                let s = x.answers m told in
                let read : a.status ≡ UNRECOVERED_ERROR = keyed_fault old.shape old.limit s.frames m
                (exist_of key) Exist refl s.within.alone a s.left refl (exist_by old.shape old.limit m key is_key s.within.alone) (λ own. refl) z y s.stepped in
                let same : status ≡ a.status = cc in
                inr (x.unread read, spelled ∙ ap status_line (same ∙ read))
          ] refl g
    ] refl e
