-- How a slot is found: what a home and the order say of a key, and what a write leaves.
use Rattle.std.proofs.Common.{◌≡◌, ◌≢◌, ℕ, zero, suc, ◌+◌, ◌<◌, ◌≤◌, Bool, true, false, T, List, [], ◌∷◌, ◌++◌, length, get_or, set, replicate, refl, ap, sym}
use Rattle.std.proofs.Common.{◌∙◌, arith, Option, Some, None, inl, inr, subst, length-set, length-append}
use Rattle.std.specs.Prelude.{MatchOption, slice_get}
use Rattle.std.specs.Option.{option_map, option_map_or}
use Rattle.std.specs.List.{AllWithin, insert}
use Rattle.std.specs.FinMap.Entries.{put, find, is_sorted}
use Rattle.std.proofs.lemmas.Grind.{get_or_default_zero}
use Rattle.std.proofs.lemmas.List.{length-replicate}
use Rattle.std.proofs.lemmas.List.Edits.{length-insert, get_or-insert_at, get_or-insert_below, get_or-insert_above}
use Rattle.std.proofs.lemmas.Bool.{cases_lt}
use Rattle.std.proofs.lemmas.Option.{slice_get-get_or, slice_get-map}
use mathlib.Core.Bool.{false≢true}
use Rattle.pk_base.{specs.Key.Key, specs.Key.key_cmp, specs.Entry.Entry, proofs.KeyLemmas.same_key, proofs.Logic.equal}
use Rattle.pk_homes.specs.declared.table.TheConstants.{SHARED}
use Rattle.pk_homes.{specs.Hash.hash_of, specs.Homes.home_of, specs.Homes.HasHomes, specs.Homes.IsAdded, proofs.Homes.alone, proofs.Homes.noted_more, proofs.Homes.same_hashes, proofs.Homes.no_homes}
use Rattle.pk_buf.{specs.declared.slot.Slot.Slot, specs.Slots.slot_hash, specs.Slots.HasSlots, specs.Slots.IsNumbered, specs.Slots.AllNumbered}
use Rattle.pk_buf.{specs.Table.has_key, specs.Table.has_at, specs.Table.place_of, specs.Table.content, specs.Table.numbered, specs.Table.sorted}
use Rattle.pk_buf.proofs.Places.{slot_is, set_same, set_other, set_at, push_same, push_last, found_at}
use Rattle.pk_buf.proofs.Members.{find_member, set_member, find_none}

-- ---- what a home says

-- if the number at the home of a key is of one slot, no other has the key
lacks_other : (ss : List Slot) (t : List ℕ) (k : Key) (n i : ℕ) (b : Bool) → HasSlots ss t → get_or t (home_of (hash_of k) (length t)) 0 ≡ n → n < SHARED
    → ((j : ℕ) → j < length ss → suc j ≡ n → has_key k (numbered ss j) ≡ false) → i < length ss → has_key k (numbered ss i) ≡ b → b ≡ false
lacks_other ss t k n i false slots read single lacks h has = refl
lacks_other ss t k n i true slots read single lacks h has =
    let same : (numbered ss i).0 ≡ k = same_key (numbered ss i).0 k (equal _ has) in
    let here : get_or t (home_of (hash_of k) (length t)) 0 ≡ suc i = alone (slot_hash ss) (length ss) t (hash_of k) i slots.homes h (ap hash_of same) (omega (arith, read)) in
    sym has ∙ lacks i h (sym here ∙ read)

pub alone_answers : (ss : List Slot) (xs t : List ℕ) (k : Key) (n : ℕ) (r : Option ℕ) → T (is_sorted key_cmp (sorted ss xs)) → AllWithin (λ y. y < length ss) xs 0 (length xs)
    → HasSlots ss t → get_or t (home_of (hash_of k) (length t)) 0 ≡ n → n < SHARED
    → MatchOption r ((i : ℕ) → i < length ss → suc i ≡ n → has_key k (numbered ss i) ≡ false) (λ i. (i < length ss) × (has_key k (numbered ss i) ≡ true))
    → MatchOption r (find key_cmp k (sorted ss xs) ≡ None) (λ i. (i < length ss) × (has_key k (numbered ss i) ≡ true))
alone_answers ss xs t k n None up all slots read single lacks =
    find_none ss xs k up (λ j h. lacks_other ss t k n (get_or xs j 0) _ slots read single lacks (all j 0 (omega arith) h) refl)
alone_answers ss xs t k n (Some i) up all slots read single is = is

-- the slot that is found in the order
pub by_order : (ss : List Slot) (xs : List ℕ) (k : Key) (i : ℕ) → AllWithin (λ y. y < length ss) xs 0 (length xs) → i < length xs → has_at k (sorted ss xs) i ≡ true
    → (get_or xs i 0 < length ss) × (has_key k (numbered ss (get_or xs i 0)) ≡ true)
by_order ss xs k i all h has =
    let there : slice_get (sorted ss xs) i ≡ Some (numbered ss (get_or xs i 0)) = slice_get-map (numbered ss) xs i ∙ ap (option_map (numbered ss)) (slice_get-get_or xs i 0 h) in
    (all i 0 (omega arith) h, rw there at has)

-- one slot, by the number after its own
pub slot_has : (ss : List Slot) (k : Key) (i : ℕ) (s : Slot) (b : Bool) → i < length ss → s ≡ get_or ss i s → b ≡ has_key k (content s) → has_key k (numbered ss i) ≡ b
slot_has ss k i s b h here test = ap (has_key k) (slot_is ss i s h here) ∙ sym test

-- ---- what a lookup by a slot answers

pub get_slot : (ss : List Slot) (xs : List ℕ) (k : Key) (i : ℕ) (s : Slot) → T (is_sorted key_cmp (sorted ss xs)) → AllNumbered xs (length ss) → i < length ss
    → s ≡ get_or ss i s → has_key k (numbered ss i) ≡ true → ((content s).0 ≡ k) × (find key_cmp k (sorted ss xs) ≡ Some (content s).1)
get_slot ss xs k i s up all h here has =
    let at = all i h in
    let is : numbered ss i ≡ content s = slot_is ss i s h here in
    let same : (numbered ss i).0 ≡ k = same_key (numbered ss i).0 k (equal _ has) in
    let found : find key_cmp (numbered ss (get_or xs at.place 0)).0 (sorted ss xs) ≡ Some (numbered ss (get_or xs at.place 0)).1 = find_member ss xs at.place up at.less in
    let found_i : find key_cmp (numbered ss i).0 (sorted ss xs) ≡ Some (numbered ss i).1 = rw at.here at found in
    (sym (ap (λ (e : Entry). e.0) is) ∙ same, ap (λ (j : Key). find key_cmp j (sorted ss xs)) (sym same) ∙ found_i ∙ ap (λ (e : Entry). Some e.1) is)

-- a key that is not found is not at its place
nothing_at : (k : Key) (o : Option Entry) → option_map_or (has_key k) o false ≡ true → option_map (λ e. e.1) o ≡ None → ⊥
nothing_at k None has none = false≢true has
nothing_at k (Some e) has none = cc

pub not_at : (k : Key) (es : List Entry) → find key_cmp k es ≡ None → has_at k es (place_of k es) ≡ false
not_at k es none =
    elim (has_at k es (place_of k es)) as (λ v. has_at k es (place_of k es) ≡ v → v ≡ false) [
      | true ↦ λ t. absurd (nothing_at k (slice_get es (place_of k es)) t (sym (found_at k es t) ∙ none))
      | false ↦ λ t. refl
    ] refl

-- ---- what a write leaves

-- over the slot of its key
pub put_over : (ss : List Slot) (xs : List ℕ) (i : ℕ) (s : Slot) → T (is_sorted key_cmp (sorted ss xs)) → AllNumbered xs (length ss) → i < length ss
    → has_key (content s).0 (numbered ss i) ≡ true → sorted (set ss i s) xs ≡ put key_cmp (content s).0 (content s).1 (sorted ss xs)
put_over ss xs i s up all h has =
    let at = all i h in
    let same : (numbered ss i).0 ≡ (content s).0 = same_key (numbered ss i).0 (content s).0 (equal _ has) in
    let read : i ≡ get_or xs at.place i = sym (get_or_default_zero xs at.place i at.less ∙ at.here) in
    let over : sorted (set ss i s) xs ≡ set (sorted ss xs) at.place (content s) = set_at ss xs at.place i s up at.less read h in
    let member = set_member ss xs at.place (content s).1 up at.less in
    let member_i : set (sorted ss xs) at.place ((numbered ss i).0, (content s).1) ≡ put key_cmp (numbered ss i).0 (content s).1 (sorted ss xs) = rw at.here at member in
    over ∙ ap (λ (j : Key). set (sorted ss xs) at.place (j, (content s).1)) (sym same) ∙ member_i ∙ ap (λ (j : Key). put key_cmp j (content s).1 (sorted ss xs)) same

key_kept : (ss : List Slot) (i j : ℕ) (s : Slot) → i < length ss → has_key (content s).0 (numbered ss i) ≡ true → (numbered (set ss i s) j).0 ≡ (numbered ss j).0
key_kept ss i j s h has =
    let same : (numbered ss i).0 ≡ (content s).0 = same_key (numbered ss i).0 (content s).0 (equal _ has) in
    elim (cases_lt j i) [
      | inl less ↦ ap (λ (e : Entry). e.0) (set_other ss i j s (λ e. omega arith))
      | inr le ↦ elim (cases_lt i j) [
        | inl less ↦ ap (λ (e : Entry). e.0) (set_other ss i j s (λ e. omega arith))
        | inr ge ↦
            let at : i ≡ j = omega arith in
            subst (λ (m : ℕ). (numbered (set ss i s) m).0 ≡ (numbered ss m).0) at (ap (λ (e : Entry). e.0) (set_same ss i s h) ∙ sym same)
      ]
    ]

pub slots_over : (ss : List Slot) (t : List ℕ) (i : ℕ) (s : Slot) → HasSlots ss t → i < length ss → has_key (content s).0 (numbered ss i) ≡ true → HasSlots (set ss i s) t
slots_over ss t i s slots h has = record {
  some = slots.some;
  few = slots.few;
  homes =
      rw (length-set ss i s) (same_hashes (slot_hash ss) (slot_hash (set ss i s)) (length ss) t (λ j less. ap hash_of (key_kept ss i j s h has)) slots.homes);
}

-- after all others
pub slots_added : (ss : List Slot) (t u : List ℕ) (s : Slot) → HasSlots ss t → IsAdded t u (home_of (hash_of (content s).0) (length t)) (length ss) → HasSlots (ss ++ s ∷ []) u
slots_added ss t u s slots added =
    let long : length (ss ++ s ∷ []) ≡ suc (length ss) = omega (arith, length-append ss (s ∷ [])) in
    let before : HasHomes (slot_hash (ss ++ s ∷ [])) (length ss) t
    = same_hashes (slot_hash ss) (slot_hash (ss ++ s ∷ [])) (length ss) t (λ i h. ap (λ (e : Entry). hash_of e.0) (push_same ss s i h)) slots.homes in record {
      some = omega (arith, added.size, slots.some);
      few = omega (arith, added.size, slots.few);
      homes = rw long (noted_more (slot_hash (ss ++ s ∷ [])) (length ss) (hash_of (content s).0) t u before (ap (λ (e : Entry). hash_of e.0) (push_last ss s)) added);
    }

pub all_numbered : (xs : List ℕ) (n at : ℕ) → AllNumbered xs n → at ≤ length xs → AllNumbered (insert xs at n) (suc n)
all_numbered xs n at all h i less =
    elim (cases_lt i n) [
      | inl old ↦
          let was = all i old in
          elim (cases_lt was.place at) [
            | inl before ↦ record {
              place = was.place;
              less = omega (arith, length-insert xs at n h);
              here = get_or-insert_below xs at n 0 was.place before h ∙ was.here;
            }
            | inr past ↦ record {
              place = was.place + 1;
              less = omega (arith, was.less, length-insert xs at n h);
              here = get_or-insert_above xs at n 0 was.place past h ∙ was.here;
            }
          ]
      | inr new ↦
          let last : n ≡ i = omega arith in record {
            place = at;
            less = omega (arith, length-insert xs at n h);
            here = get_or-insert_at xs at n 0 h ∙ last;
          }
    ]

-- no slots
pub no_slots : (n : ℕ) → 0 < n → n < 65536 → HasSlots [] (replicate n 0)
no_slots n some few = record {
  some = rw (length-replicate {A = ℕ} n 0) some;
  few = rw (length-replicate {A = ℕ} n 0) few;
  homes = no_homes (slot_hash []) (replicate n 0);
}

pub none_left : (ss : List Slot) (t u : List ℕ) → HasSlots ss t → length u ≡ length t → HasSlots [] u
none_left ss t u slots same = record {
  some = omega (arith, same, slots.some);
  few = omega (arith, same, slots.few);
  homes = no_homes (slot_hash []) u;
}
