-- Which commands of a resync change the second drive's map.
use Rattle.std.proofs.Common.{◌≡◌, ◌≢◌, inl, inr, ℕ, suc, ◌+◌, ◌-◌, ◌⊎◌, ◌≤◌, ◌==◌, cond, if◌then◌else◌, List, [], ◌∷◌, ◌++◌, length, Contains, take, Bool, true, false, not, MatchBool, Option}
use Rattle.std.proofs.Common.{Some, None, is_some, refl, sym, ap, subst, ◌∙◌, arith}
use Rattle.std.proofs.lemmas.List.{append_assoc, append-nil}
use Rattle.std.{specs.List.AllByRecursion, specs.Ordering.is_eq, specs.Ordering.eq_by_cmp, specs.Cmp.tied_itself, specs.FinMap.get, specs.FinMap.insert, specs.FinMap.remove, specs.FinMap.len}
use Rattle.std.{specs.FinMap.contains_key, specs.FinMap.len-remove}
use Rattle.pk_base.{specs.Key.Key, specs.Key.key_cmp, specs.Map.Map, proofs.Logic.some_same}
use Rattle.pk_nvme.{specs.Command.Command, specs.Command.key, specs.declared.opcode.TheConstants.STORE, specs.declared.opcode.TheConstants.DELETE}
use Rattle.pk_model.proofs.MapLemmas.{key_total}
use Rattle.pk_host.{specs.Port.PortState, specs.Port.Took, specs.Calls.delete_of, specs.Calls.store_of, specs.declared.types.StoreRule.TheVariants.Any}
use Rattle.pk_host.specs.Outcomes.{TookSome, Fetches, Deletes, Tests, Leaves}
use Rattle.pk_mirror.{specs.Agreement.NoOther, specs.Agreement.HaveSame, specs.Agreement.AreAny, specs.Agreement.IsPart, specs.Visits.Visits, specs.Visits.VisitsAll}
use Rattle.pk_mirror.specs.Spending.{OnlyLooks, LooksOr, LooksOrChanges, IsCopy, opcode_count, named_keys, AreOnce, EachOnce, ToDelete, ToStore, ToCopy, OnlyDiffering, AllDiffering, AreOfResync}
use Rattle.pk_mirror.specs.Spending.{AreWholeResync, Changed, Spent, Spending, Deleted, Deleting, Stored, Storing}
use Rattle.pk_mirror.proofs.MapLemmas.{by_key, get_removed, get_removed_other, get_inserted, get_inserted_other, some_len}
use Rattle.pk_mirror.proofs.KeyLemmas.{found_none, found_some}

-- ---- lists of commands

both_only : {X : Type 0} (P : X → Type 0) (cs ds : List X) → AllByRecursion P cs → AllByRecursion P ds → AllByRecursion P (cs ++ ds)
both_only P [] ds h g = g
both_only P (c ∷ cs) ds h g = (h.0, both_only P cs ds h.1 g)

both_parts : {X : Type 0} (P : X → Type 0) (cs ds : List X) → AllByRecursion P (cs ++ ds) → AllByRecursion P cs × AllByRecursion P ds
both_parts P [] ds h = (tt, h)
both_parts P (c ∷ cs) ds h = let (front, rest) = both_parts P cs ds h.1 in ((h.0, front), rest)

only_map : {X : Type 0} (P Q : X → Type 0) → ((c : X) → P c → Q c) → (cs : List X) → AllByRecursion P cs → AllByRecursion Q cs
only_map P Q f [] h = tt
only_map P Q f (c ∷ cs) h = (f c h.0, only_map P Q f cs h.1)

-- these commands have another opcode
abbrev pub IsOther : ℕ → Command → Type 0
IsOther opcode c = (c.opcode == opcode) ≡ false

one_if : Bool → ℕ
one_if b = if b then 1 else 0

-- ---- the keys that they name

keys_of_both : (opcode : ℕ) (cs ds : List Command) → named_keys opcode (cs ++ ds) ≡ named_keys opcode cs ++ named_keys opcode ds
keys_of_both opcode [] ds = refl
keys_of_both opcode (c ∷ cs) ds =
    let mine : List Key = if c.opcode == opcode then key c ∷ [] else [] in
    ap (λ (ks : List Key). mine ++ ks) (keys_of_both opcode cs ds) ∙ sym (append_assoc mine (named_keys opcode cs) (named_keys opcode ds))

key_if : Bool → Key → List Key
key_if b k = if b then k ∷ [] else []

keys_none : (opcode : ℕ) (cs : List Command) → AllByRecursion (IsOther opcode) cs → named_keys opcode cs ≡ []
unfolding key_if
keys_none opcode [] h = refl
keys_none opcode (c ∷ cs) h = ap (λ b. key_if b (key c) ++ named_keys opcode cs) h.0 ∙ keys_none opcode cs h.1

one_named : (b : Bool) (k : Key) (ks : List Key) → one_if b + length ks ≡ length (key_if b k ++ ks)
unfolding one_if key_if
one_named true k ks = omega arith
one_named false k ks = omega arith

-- each of them names one
counted : (opcode : ℕ) (cs : List Command) → opcode_count opcode cs ≡ length (named_keys opcode cs)
unfolding one_if key_if
counted opcode [] = refl
counted opcode (c ∷ cs) =
    ap (λ n. one_if (c.opcode == opcode) + n) (counted opcode cs) ∙ one_named (c.opcode == opcode) (key c) (named_keys opcode cs)

once_both : (W : Key → Type 0) (ks ls : List Key) → AreOnce ks → AreOnce ls → AllByRecursion (λ k. W k → ⊥) ks → AllByRecursion W ls → AreOnce (ks ++ ls)
once_both W [] ls h g gone each = g
once_both W (k ∷ ks) ls h g gone each = (
  both_only (λ q. k ≢ q) ks ls h.0 (only_map W (λ q. k ≢ q) (λ q w e. gone.0 (subst W (sym e) w)) ls each),
  once_both W ks ls h.1 g gone.1 each,
)

none_once : (W : Key → Type 0) → EachOnce W []
none_once W = record { each = tt; once = tt }

-- if it holds of no key, there is none
no_keys : (W : Key → Type 0) → ((k : Key) → W k → ⊥) → (ks : List Key) → EachOnce W ks → ks ≡ []
no_keys W none [] h = refl
no_keys W none (k ∷ ks) h = absurd (none k h.each.0)

module _ (Wanted : Map → Map → Key → Type 0) where
  unchanged : (a b b' : Map) → b' ≡ b → Changed Wanted a b b' []
  unchanged a b b' e = record {
    were = none_once (Wanted a b);
    done = tt;
    still = λ k w. subst (λ (m : Map). Wanted a m k) e w;
    same = λ k s. subst (λ (m : Map). HaveSame a m k) (sym e) s;
    others = λ k apart. ap (λ (m : Map). get m k) e;
  }

  were_more : (a b b1 : Map) (ks ls : List Key) → Changed Wanted a b b1 ks → EachOnce (Wanted a b1) ls → EachOnce (Wanted a b) (ks ++ ls)
  were_more a b b1 ks ls h g = record {
    each = both_only (Wanted a b) ks ls h.were.each (only_map (Wanted a b1) (Wanted a b) h.still ls g.each);
    once = once_both (Wanted a b1) ks ls h.were.once g.once h.done g.each;
  }

  changed_more : (a b b1 b' : Map) (ks ls : List Key) → Changed Wanted a b b1 ks → Changed Wanted a b1 b' ls → Changed Wanted a b b' (ks ++ ls)
  changed_more a b b1 b' ks ls h g = record {
    were = were_more a b b1 ks ls h g.were;
    done = both_only (λ k. Wanted a b' k → ⊥) ks ls
        (only_map (λ k. Wanted a b1 k → ⊥) (λ k. Wanted a b' k → ⊥) (λ k gone w. gone (g.still k w)) ks h.done) g.done;
    still = λ k w. h.still k (g.still k w);
    same = λ k s. g.same k (h.same k s);
    others = λ k apart. let (first, then_ones) = both_parts (λ q. k ≢ q) ks ls apart in g.others k then_ones ∙ h.others k first;
  }

pub looks_no_delete : (c : Command) → OnlyLooks c → IsOther DELETE c
looks_no_delete c (inl (inl (from, e))) = ap (λ (d : Command). d.opcode == DELETE) e
looks_no_delete c (inl (inr (key, size, e))) = ap (λ (d : Command). d.opcode == DELETE) e
looks_no_delete c (inr (key, e)) = ap (λ (d : Command). d.opcode == DELETE) e

pub looks_no_store : (c : Command) → OnlyLooks c → IsOther STORE c
looks_no_store c (inl (inl (from, e))) = ap (λ (d : Command). d.opcode == STORE) e
looks_no_store c (inl (inr (key, size, e))) = ap (λ (d : Command). d.opcode == STORE) e
looks_no_store c (inr (key, e)) = ap (λ (d : Command). d.opcode == STORE) e

-- what is no Store is no wrong one
no_copies : (a : Map) (cs : List Command) → AllByRecursion (IsOther STORE) cs → AllByRecursion (IsCopy a) cs
no_copies a [] h = tt
no_copies a (c ∷ cs) h = ((λ is. absurd (let clash : false ≡ true = sym h.0 ∙ ap (λ (n : ℕ). n == STORE) is in cc)), no_copies a cs h.1)

no_store : (c : Command) → LooksOr DELETE c → IsOther STORE c
no_store c (inl looks) = looks_no_store c looks
no_store c (inr own) = ap (λ (n : ℕ). n == STORE) own.0

no_delete : (c : Command) → LooksOr STORE c → IsOther DELETE c
no_delete c (inl looks) = looks_no_delete c looks
no_delete c (inr own) = ap (λ (n : ℕ). n == DELETE) own.0

-- ---- maps

maps_between : PortState → PortState → Type 0
maps_between old new = (m : Map) → old.map ≡ Some m → (m' : Map) × (new.map ≡ Some m')

between : (old new : PortState) (cs : List Command) → Took old new cs → maps_between old new
unfolding maps_between
between old new cs t m e = let (m', told, by) = t.told m e in (m', told)

fewer : (m : Map) (k : Key) → contains_key m k ≡ true → 1 + len (remove m k) ≤ len m
fewer m k there =
    let gone : len (remove m k) ≡ len m - 1 = len-remove key_total m k ∙ ap (λ b. cond b (len m - 1) (len m)) there in
    elim (get m k) as (λ o. get m k ≡ o → 1 + len (remove m k) ≤ len m) [
      | None ↦ λ e. absurd (let clash : false ≡ true = sym (ap is_some e) ∙ there in cc)
      | Some v ↦ λ e. let some = some_len m k v e in omega (arith, gone, some)
    ] refl

kept_others : (m : Map) (k : Key) (ks : List Key) → AllByRecursion (λ q. k ≢ q) ks → AllByRecursion (λ q. contains_key m q ≡ true) ks → AllByRecursion (λ q. contains_key (remove m k) q ≡ true) ks
kept_others m k [] others h = tt
kept_others m k (q ∷ ks) others h = (
  by_key q k (contains_key (remove m k) q ≡ true) (λ is. absurd (others.0 (sym is))) (λ other. ap is_some (get_removed_other m k q other) ∙ h.0),
  kept_others m k ks others.1 h.1,
)

-- no more keys than the map has
few_keys : (m : Map) (ks : List Key) → AllByRecursion (λ q. contains_key m q ≡ true) ks → AreOnce ks → length ks ≤ len m
few_keys m [] h once = omega arith
few_keys m (k ∷ ks) h once =
    let rest = few_keys (remove m k) ks (kept_others m k ks once.0 h.1) once.1 in
    let less = fewer m k h.0 in
    omega (arith, rest, less)

-- a part of a part is a part
part_itself : (b b' : Map) → b' ≡ b → IsPart b b'
part_itself b b' e k = inr (ap (λ (m : Map). get m k) e)

part_through : (b b1 b' : Map) → IsPart b b1 → IsPart b1 b' → IsPart b b'
part_through b b1 b' h g k = elim (g k) as (λ x. NoOther b b' k) [
  | inl none ↦ inl none
  | inr same ↦ elim (h k) as (λ x. NoOther b b' k) [
    | inl none ↦ inl (same ∙ none)
    | inr before ↦ inr (same ∙ before)
  ]
]

part_removed : (b : Map) (k : Key) → IsPart b (remove b k)
part_removed b k q = by_key q k (NoOther b (remove b k) q) (λ is. inl (ap (get (remove b k)) is ∙ get_removed b k)) (λ other. inr (get_removed_other b k q other))

-- a key that was deleted
deleted_key : (a b : Map) (k : Key) → ToDelete a b k → Changed ToDelete a b (remove b k) (k ∷ [])
deleted_key a b k has = record {
  were = record { each = (has, tt); once = (tt, tt) };
  done = ((λ w. absurd (let clash : false ≡ true = sym (ap is_some (get_removed b k)) ∙ w.0 in cc)), tt);
  still = λ q w. by_key q k (ToDelete a b q) (λ is. subst (ToDelete a b) (sym is) has)
      (λ other. let e : get (remove b k) q ≡ get b q = get_removed_other b k q other in (sym (ap is_some e) ∙ w.0, λ s. w.1 (e ∙ s)));
  same = λ q s. by_key q k (HaveSame a (remove b k) q) (λ is. absurd (has.1 (subst (HaveSame a b) is s))) (λ other. get_removed_other b k q other ∙ s);
  others = λ q apart. by_key q k (get (remove b k) q ≡ get b q) (λ is. absurd (apart.0 is)) (λ other. get_removed_other b k q other);
}

-- a key that was stored
stored_key : (a b : Map) (k : Key) (v value : List ℕ) → get a k ≡ Some v → contains_key b k ≡ false → Changed ToStore a b (insert b k value) (k ∷ [])
stored_key a b k v value there lacked = record {
  were = record { each = ((ap is_some there, lacked), tt); once = (tt, tt) };
  done = ((λ w. absurd (let clash : true ≡ false = sym (ap is_some (get_inserted b k value)) ∙ w.1 in cc)), tt);
  still = λ q w. (
    w.0,
    by_key q k (contains_key b q ≡ false) (λ is. ap (contains_key b) is ∙ lacked) (λ other. sym (ap is_some (get_inserted_other b k q value other)) ∙ w.1),
  );
  same = λ q s. by_key q k (HaveSame a (insert b k value) q)
      (λ is. absurd (let clash : false ≡ true = sym lacked ∙ ap is_some (subst (HaveSame a b) is s ∙ there) in cc))
      (λ other. get_inserted_other b k q value other ∙ s);
  others = λ q apart. by_key q k (get (insert b k value) q ≡ get b q) (λ is. absurd (apart.0 is)) (λ other. get_inserted_other b k q value other);
}

-- ---- one phase

module _ (Keeps : Map → Map → Type 0) (Wanted : Map → Map → Key → Type 0) (opcode : ℕ) where
  abbrev Goes : PortState → PortState → PortState → Type 0
  Goes first second second' = (a b : Map) → first.map ≡ Some a → second.map ≡ Some b → Keeps a b → (b' : Map) × (second'.map ≡ Some b') × Keeps a b'

  -- none
  pub spent_none : (first second : PortState) → Spent Keeps Wanted opcode first second second []
  spent_none first second = record {
    only = tt;
    changed = λ a b b' ea eb eb' keeps. unchanged Wanted a b b' (some_same b' b (sym eb' ∙ eb));
    lessens = λ deletes a b b' ea eb eb' keeps. part_itself b b' (some_same b' b (sym eb' ∙ eb));
    copies = λ a ea. tt;
  }

  -- commands that only look
  pub spent_looks : ((c : Command) → OnlyLooks c → IsOther opcode c) → (first second second' : PortState) (cs : List Command)
      → AllByRecursion OnlyLooks cs → second'.map ≡ second.map → Spent Keeps Wanted opcode first second second' cs
  spent_looks other first second second' cs looks same = record {
    only = only_map OnlyLooks (LooksOr opcode) (λ c h. inl h) cs looks;
    changed = λ a b b' ea eb eb' keeps. subst (Changed Wanted a b b') (sym (keys_none opcode cs (only_map OnlyLooks (IsOther opcode) other cs looks)))
        (unchanged Wanted a b b' (some_same b' b (sym eb' ∙ same ∙ eb)));
    lessens = λ deletes a b b' ea eb eb' keeps. part_itself b b' (some_same b' b (sym eb' ∙ same ∙ eb));
    copies = λ a ea. no_copies a cs (only_map OnlyLooks (IsOther STORE) looks_no_store cs looks);
  }

  spent_more : (first first1 second second1 second' : PortState) (cs ds : List Command) → first1.map ≡ first.map → Goes first second second1 → Spent Keeps Wanted opcode first second second1 cs
      → Spent Keeps Wanted opcode first1 second1 second' ds → Spent Keeps Wanted opcode first second second' (cs ++ ds)
  spent_more first first1 second second1 second' cs ds same goes h g = record {
    only = both_only (LooksOr opcode) cs ds h.only g.only;
    changed = λ a b b' ea eb eb' keeps.
        let (b1, e1, k1) = goes a b ea eb keeps in
        subst (Changed Wanted a b b') (sym (keys_of_both opcode cs ds))
        (changed_more Wanted a b b1 b' (named_keys opcode cs) (named_keys opcode ds) (h.changed a b b1 ea eb e1 keeps) (g.changed a b1 b' (same ∙ ea) e1 eb' k1));
    lessens = λ deletes a b b' ea eb eb' keeps.
        let (b1, e1, k1) = goes a b ea eb keeps in part_through b b1 b' (h.lessens deletes a b b1 ea eb e1 keeps) (g.lessens deletes a b1 b' (same ∙ ea) e1 eb' k1);
    copies = λ a ea. both_only (IsCopy a) cs ds (h.copies a ea) (g.copies a (same ∙ ea));
  }

  spending_more : (first first1 second second1 : PortState) (cs ds : List Command) → first1.map ≡ first.map → Goes first second second1 → Spent Keeps Wanted opcode first second second1 cs
      → Spending Keeps Wanted opcode first1 second1 ds → Spending Keeps Wanted opcode first second (cs ++ ds)
  spending_more first first1 second second1 cs ds same goes h g = record {
    only = both_only (LooksOr opcode) cs ds h.only g.only;
    were = λ a b ea eb keeps.
        let (b1, e1, k1) = goes a b ea eb keeps in
        subst (EachOnce (Wanted a b)) (sym (keys_of_both opcode cs ds))
        (were_more Wanted a b b1 (named_keys opcode cs) (named_keys opcode ds) (h.changed a b b1 ea eb e1 keeps) (g.were a b1 (same ∙ ea) e1 k1));
    copies = λ a ea. both_only (IsCopy a) cs ds (h.copies a ea) (g.copies a (same ∙ ea));
  }

  spending_spent : (first second second' : PortState) (cs : List Command) → maps_between second second'
      → Spent Keeps Wanted opcode first second second' cs → Spending Keeps Wanted opcode first second cs
  unfolding maps_between
  spending_spent first second second' cs to h = record {
    only = h.only;
    were = λ a b ea eb keeps. let (b', eb') = to b eb in (h.changed a b b' ea eb eb' keeps).were;
    copies = h.copies;
  }

  pub spending_looks : ((c : Command) → OnlyLooks c → IsOther opcode c) → (first second : PortState) (cs : List Command) → AllByRecursion OnlyLooks cs → Spending Keeps Wanted opcode first second cs
  spending_looks other first second cs looks = record {
    only = only_map OnlyLooks (LooksOr opcode) (λ c h. inl h) cs looks;
    were = λ a b ea eb keeps. subst (EachOnce (Wanted a b)) (sym (keys_none opcode cs (only_map OnlyLooks (IsOther opcode) other cs looks))) (none_once (Wanted a b));
    copies = λ a ea. no_copies a cs (only_map OnlyLooks (IsOther STORE) looks_no_store cs looks);
  }

  -- ---- ports

  -- what was done, as at any exit
  pub took_settled : {Q : Type 0} (state : Q → PortState) (took : Q → List Command → Q → Type 0)
      → ((p : Q) (cs : List Command) (q : Q) → took p cs q → Took (state p) (state q) cs) → (first : PortState) (p q : Q)
      → TookSome took (Spent Keeps Wanted opcode first (state p) (state q)) p q → TookSome took (Spending Keeps Wanted opcode first (state p)) p q
  took_settled state took known first p q h = (h.0, spending_spent first (state p) (state q) h.0 (between (state p) (state q) h.0 (known p h.0 q h.2)) h.1, h.2)

  module _ {Q : Type 0} (state : Q → PortState) (took : Q → List Command → Q → Type 0)
      (both : (p : Q) (cs : List Command) (q : Q) (ds : List Command) (r : Q) → took p cs q → took q ds r → took p (cs ++ ds) r) (first first1 : PortState) (p q r : Q)
      (same : first1.map ≡ first.map) (goes : Goes first (state p) (state q)) (h : TookSome took (Spent Keeps Wanted opcode first (state p) (state q)) p q) where
    pub took_spent : TookSome took (Spent Keeps Wanted opcode first1 (state q) (state r)) q r → TookSome took (Spent Keeps Wanted opcode first (state p) (state r)) p r
    took_spent g = (h.0 ++ g.0, spent_more first first1 (state p) (state q) (state r) h.0 g.0 same goes h.1 g.1, both p h.0 q g.0 r h.2 g.2)

    pub took_spending : TookSome took (Spending Keeps Wanted opcode first1 (state q)) q r → TookSome took (Spending Keeps Wanted opcode first (state p)) p r
    took_spending g = (h.0 ++ g.0, spending_more first first1 (state p) (state q) h.0 g.0 same goes h.1 g.1, both p h.0 q g.0 r h.2 g.2)

-- a phase that goes on keeps what it keeps
pub goes_same : (Keeps : Map → Map → Type 0) (first second second' : PortState) → second'.map ≡ second.map → (a b : Map)
    → first.map ≡ Some a → second.map ≡ Some b → Keeps a b → (b' : Map) × (second'.map ≡ Some b') × Keeps a b'
goes_same Keeps first second second' same a b ea eb keeps = (b, same ∙ eb, keeps)

pub goes_visits : (Keeps : Map → Map → Type 0) (Done : Map → Map → Key → Type 0) (first second second' : PortState) (keys : List Key) → Visits Keeps Done first second second' keys
    → (a b : Map) → first.map ≡ Some a → second.map ≡ Some b → Keeps a b → (b' : Map) × (second'.map ≡ Some b') × Keeps a b'
goes_visits Keeps Done first second second' keys h a b ea eb keeps = let (b', e, v) = h a b ea eb keeps in (b', e, v.keeps)

-- ---- one change

-- the value that was found is one of a key that the drive has
pub found_there : (q : PortState) (k : Key) (len : ℕ) (into : List ℕ) → Fetches q k (Some len) into → (b : Map) → q.map ≡ Some b → contains_key b k ≡ true
found_there q k len into f b eb = let (v, ev, front) = found_some (get b k) len into (f b eb) in ap is_some ev

module _ (first q q' : PortState) (k : Key) (named : key (delete_of k) ≡ k) (has : (a b : Map) → first.map ≡ Some a → q.map ≡ Some b → ToDelete a b k) where
  pub deleted_one : (there : Bool) → Tests q k there → Deletes q q' k there → Deleted first q q' (delete_of k ∷ [])
  deleted_one there tests deletes = record {
    only = (inr (refl, refl), tt);
    changed = λ a b b' ea eb eb' keeps.
        let one = subst (λ (m : Map). Changed ToDelete a b m (k ∷ [])) (sym (removes a b b' ea eb eb')) (deleted_key a b k (has a b ea eb)) in
        subst (λ (q : Key). Changed ToDelete a b b' (q ∷ [])) (sym named) one;
    lessens = λ is_delete a b b' ea eb eb' keeps. subst (IsPart b) (sym (removes a b b' ea eb eb')) (part_removed b k);
    copies = λ a ea. no_copies a (delete_of k ∷ []) (refl, tt);
  }
    where
      removes : (a b b' : Map) → first.map ≡ Some a → q.map ≡ Some b → q'.map ≡ Some b' → b' ≡ remove b k
      removes a b b' ea eb eb' =
          let yes : there ≡ true = tests b eb ∙ (has a b ea eb).0 in
          some_same b' (remove b k) (sym eb' ∙ deletes b eb ∙ ap (λ t. Some (if t then remove b k else b)) yes)

  pub deleting_one : Deleting first q (delete_of k ∷ [])
  deleting_one = record {
    only = (inr (refl, refl), tt);
    were = λ a b ea eb keeps. subst (λ (q : Key). EachOnce (ToDelete a b) (q ∷ [])) (sym named) record { each = (has a b ea eb, tt); once = (tt, tt) };
    copies = λ a ea. no_copies a (delete_of k ∷ []) (refl, tt);
  }

module _ (p q q' : PortState) (k : Key) (value : List ℕ) (named : key (store_of k value Any) ≡ k)
    (has : (a : Map) → p.map ≡ Some a → get a k ≡ Some value) (lacked : (b : Map) → q.map ≡ Some b → contains_key b k ≡ false) where
  is_copy : (a : Map) → p.map ≡ Some a → AllByRecursion (IsCopy a) (store_of k value Any ∷ [])
  is_copy a ea = ((λ is. ap (λ (q : Key). get a q) named ∙ has a ea), tt)

  pub stored_one : Leaves q q' (λ m. insert m k value) → Stored p q q' (store_of k value Any ∷ [])
  stored_one leaves = record {
    only = (inr (refl, refl), tt);
    changed = λ a b b' ea eb eb' part.
        let is : b' ≡ insert b k value = some_same b' (insert b k value) (sym eb' ∙ leaves b eb) in
        let one = subst (λ (m : Map). Changed ToStore a b m (k ∷ [])) (sym is) (stored_key a b k value value (has a ea) (lacked b eb)) in
        subst (λ (q : Key). Changed ToStore a b b' (q ∷ [])) (sym named) one;
    lessens = λ is_delete. absurd (let clash : ◌≡◌ {A = ℕ} STORE DELETE = is_delete in cc);
    copies = is_copy;
  }

  pub storing_one : Storing p q (store_of k value Any ∷ [])
  storing_one = record {
    only = (inr (refl, refl), tt);
    were = λ a b ea eb part.
        subst (λ (q : Key). EachOnce (ToStore a b) (q ∷ [])) (sym named) record { each = ((ap is_some (has a ea), lacked b eb), tt); once = (tt, tt) };
    copies = is_copy;
  }

-- what the second has is not the first's: that lacks the key, or another value was found
pub other_lacked : (p q : PortState) (k : Key) (one two : List ℕ) (held : ℕ) → Fetches p k None one → Fetches q k (Some held) two
    → (a b : Map) → p.map ≡ Some a → q.map ≡ Some b → ToDelete a b k
other_lacked p q k one two held f g a b ea eb =
    let there = found_there q k held two g b eb in
    (there, λ s. absurd (let clash : true ≡ false = sym there ∙ ap is_some (s ∙ found_none (get a k) one (f a ea)) in cc))

pub other_differs : (p q : PortState) (k : Key) (one two : List ℕ) (wanted held : ℕ) (same : Bool) → Fetches p k (Some wanted) one → Fetches q k (Some held) two
    → ((m : Map) → p.map ≡ Some m → (v : List ℕ) → get m k ≡ Some v → length v ≤ length one) → ((m : Map) → q.map ≡ Some m → (v : List ℕ) → get m k ≡ Some v → length v ≤ length two)
    → MatchBool same (take wanted one ≡ take held two) (take wanted one ≡ take held two → ⊥) → (a b : Map) → p.map ≡ Some a → q.map ≡ Some b → not same ≡ true → ToDelete a b k
other_differs p q k one two wanted held true f g fits fits2 h a b ea eb is = absurd (let clash : false ≡ true = is in cc)
other_differs p q k one two wanted held false f g fits fits2 h a b ea eb is =
    let (v, ev, front) = found_some (get a k) wanted one (f a ea) in
    let (w, ew, front2) = found_some (get b k) held two (g b eb) in
    let vx = front (fits a ea v ev) in
    let wy = front2 (fits2 b eb w ew) in
    (ap is_some ew, λ s. h (vx ∙ sym (some_same w v (sym ew ∙ s ∙ ev)) ∙ sym wy))

-- the first has the value that was found
pub found_has : (p : PortState) (k : Key) (len : ℕ) (into value : List ℕ) → Fetches p k (Some len) into
    → ((m : Map) → p.map ≡ Some m → (v : List ℕ) → get m k ≡ Some v → length v ≤ length into) → value ≡ take len into
    → (a : Map) → p.map ≡ Some a → get a k ≡ Some value
found_has p k len into value f fits is a ea =
    let (v, ev, front) = found_some (get a k) len into (f a ea) in ev ∙ ap (λ (z : List ℕ). Some z) (sym (is ∙ front (fits a ea v ev)))

-- ---- both phases

goes_all : (first second second1 : PortState) → VisitsAll AreAny NoOther first second second1
    → (a b : Map) → first.map ≡ Some a → second.map ≡ Some b → (b1 : Map) × (second1.map ≡ Some b1) × IsPart a b1
goes_all first second second1 h a b ea eb = let (b1, e1, k1, part) = h a b ea eb tt in (b1, e1, part)

of_delete : (c : Command) → LooksOr DELETE c → LooksOrChanges c
of_delete c h = inl h

of_store : (c : Command) → LooksOr STORE c → LooksOrChanges c
of_store c (inl looks) = inl (inl looks)
of_store c (inr own) = inr own

-- no more commands than the map has keys
few_commands : (opcode : ℕ) (W : Key → Type 0) (m : Map) → ((k : Key) → W k → contains_key m k ≡ true) → (cs : List Command) → EachOnce W (named_keys opcode cs) → opcode_count opcode cs ≤ len m
few_commands opcode W m in_map cs h =
    let few = few_keys m (named_keys opcode cs) (only_map W (λ q. contains_key m q ≡ true) in_map (named_keys opcode cs) h.each) h.once in
    let same = counted opcode cs in
    omega (arith, few, same)

few_deleted : (a b : Map) (cs : List Command) → EachOnce (ToDelete a b) (named_keys DELETE cs) → opcode_count DELETE cs ≤ len b
few_deleted a b cs h = few_commands DELETE (ToDelete a b) b (λ k w. w.0) cs h

few_stored : (a b : Map) (cs : List Command) → EachOnce (ToCopy a b) (named_keys STORE cs) → opcode_count STORE cs ≤ len a
few_stored a b cs h = few_commands STORE (ToCopy a b) a (λ k w. w.0) cs h

-- what the second lacks once the others are deleted, it lacked or had with another value
to_copy : (a b b1 : Map) (ks ls : List Key) → Changed ToDelete a b b1 ks → EachOnce (ToStore a b1) ls → EachOnce (ToCopy a b) ls
to_copy a b b1 ks ls h g = record {
  each = only_map (ToStore a b1) (ToCopy a b)
      (λ k w. (w.0, λ s. absurd (let clash : false ≡ true = sym w.1 ∙ ap is_some (h.same k s) ∙ w.0 in cc))) ls g.each;
  once = g.once;
}

module _ (first first1 second second1 : PortState) (same : first1.map ≡ first.map) (goes : (a b : Map) → first.map ≡ Some a → second.map ≡ Some b → (b1 : Map) × (second1.map ≡ Some b1) × IsPart a b1)
    (cs ds : List Command) (h : Deleted first second second1 cs) (g : Storing first1 second1 ds) (a b : Map) (ea : first.map ≡ Some a) (eb : second.map ≡ Some b) where
  both_deleted : EachOnce (ToDelete a b) (named_keys DELETE (cs ++ ds))
  both_deleted =
      let (b1, e1, part) = goes a b ea eb in
      let none = keys_none DELETE ds (only_map (LooksOr STORE) (IsOther DELETE) no_delete ds g.only) in
      let are : named_keys DELETE (cs ++ ds) ≡ named_keys DELETE cs = keys_of_both DELETE cs ds ∙ ap (λ (ks : List Key). named_keys DELETE cs ++ ks) none ∙ append-nil (named_keys DELETE cs) in
      subst (EachOnce (ToDelete a b)) (sym are) (h.changed a b b1 ea eb e1 tt).were

  both_stored : EachOnce (ToCopy a b) (named_keys STORE (cs ++ ds))
  both_stored =
      let (b1, e1, part) = goes a b ea eb in
      let none = keys_none STORE cs (only_map (LooksOr DELETE) (IsOther STORE) no_store cs h.only) in
      let are : named_keys STORE (cs ++ ds) ≡ named_keys STORE ds = keys_of_both STORE cs ds ∙ ap (λ (ks : List Key). ks ++ named_keys STORE ds) none in
      subst (EachOnce (ToCopy a b)) (sym are)
      (to_copy a b b1 (named_keys DELETE cs) (named_keys STORE ds) (h.changed a b b1 ea eb e1 tt) (g.were a b1 (same ∙ ea) e1 part))

  both_differ : OnlyDiffering a b (cs ++ ds)
  both_differ = record {
    deletes_once = both_deleted;
    stores_once = both_stored;
    copies = both_only (IsCopy a) cs ds (h.copies a ea) (g.copies a (same ∙ ea));
    deletes = few_deleted a b (cs ++ ds) both_deleted;
    stores = few_stored a b (cs ++ ds) both_stored;
  }

-- what both phases ask
both_ask : (cs ds : List Command) → AllByRecursion (LooksOr DELETE) cs → AllByRecursion (LooksOr STORE) ds → AllByRecursion LooksOrChanges (cs ++ ds)
both_ask cs ds h g = both_only LooksOrChanges cs ds (only_map (LooksOr DELETE) LooksOrChanges of_delete cs h) (only_map (LooksOr STORE) LooksOrChanges of_store ds g)

resync_both : (first first1 second second1 : PortState) → first1.map ≡ first.map → ((a b : Map) → first.map ≡ Some a → second.map ≡ Some b → (b1 : Map) × (second1.map ≡ Some b1) × IsPart a b1)
    → (cs ds : List Command) → Deleted first second second1 cs → Storing first1 second1 ds → AreOfResync first second (cs ++ ds)
resync_both first first1 second second1 same goes cs ds h g = record {
  only = both_ask cs ds h.only g.only;
  known = both_differ first first1 second second1 same goes cs ds h g;
}

pub resync_first : (first second : PortState) (cs : List Command) → Deleting first second cs → AreOfResync first second cs
resync_first first second cs h =
    let none = keys_none STORE cs (only_map (LooksOr DELETE) (IsOther STORE) no_store cs h.only) in
    let stored : (a b : Map) → EachOnce (ToCopy a b) (named_keys STORE cs) = λ a b. subst (EachOnce (ToCopy a b)) (sym none) (none_once (ToCopy a b)) in
    record {
      only = only_map (LooksOr DELETE) LooksOrChanges of_delete cs h.only;
      known = λ a b ea eb. record {
        deletes_once = h.were a b ea eb tt;
        stores_once = stored a b;
        copies = h.copies a ea;
        deletes = few_deleted a b cs (h.were a b ea eb tt);
        stores = few_stored a b cs (stored a b);
      };
    }

-- what both phases asked of the second
pub resync_took : {Q : Type 0} (state : Q → PortState) (took : Q → List Command → Q → Type 0)
    → ((p : Q) (cs : List Command) (q : Q) (ds : List Command) (r : Q) → took p cs q → took q ds r → took p (cs ++ ds) r) → (first first1 : PortState) (p q r : Q)
    → first1.map ≡ first.map → VisitsAll AreAny NoOther first (state p) (state q)
    → TookSome took (Deleted first (state p) (state q)) p q → TookSome took (Storing first1 (state q)) q r → TookSome took (AreOfResync first (state p)) p r
resync_took state took both first first1 p q r same all h g =
    (h.0 ++ g.0, resync_both first first1 (state p) (state q) same (goes_all first (state p) (state q) all) h.0 g.0 h.1 g.1, both p h.0 q g.0 r h.2 g.2)

-- ---- all that differs

-- a key is among these, or it is none of them
among : (k : Key) (ks : List Key) → Contains ks k ⊎ AllByRecursion (λ q. k ≢ q) ks
among k [] = inr tt
among k (q ∷ ks) = by_key k q (Contains (q ∷ ks) k ⊎ AllByRecursion (λ x. k ≢ x) (q ∷ ks))
    (λ same. inl (0, omega arith, sym same))
    (λ other. elim (among k ks) as (λ x. Contains (q ∷ ks) k ⊎ AllByRecursion (λ x. k ≢ x) (q ∷ ks)) [
      | inl (n, less, at) ↦ inl (suc n, omega (arith, less), at)
      | inr none ↦ inr ((λ e. absurd (let clash : true ≡ false = sym (ap is_eq (tied_itself key_total k)) ∙ ap (λ (x : Key). eq_by_cmp key_cmp k x) e ∙ other in cc)), none)
    ])

of_among : (k : Key) (ks : List Key) → (AllByRecursion (λ q. k ≢ q) ks → ⊥) → Contains ks k
of_among k ks some = elim (among k ks) as (λ x. Contains ks k) [ inl there ↦ there | inr none ↦ absurd (some none) ]

-- a key that was to go is among those that were deleted
went : (a b b1 : Map) (ks : List Key) → Changed ToDelete a b b1 ks → IsPart a b1 → (k : Key) → ToDelete a b k → Contains ks k
went a b b1 ks h part k w = of_among k ks (λ apart. elim (part k) as (λ x. ⊥) [
  | inl none ↦ let clash : false ≡ true = sym (ap is_some (sym (h.others k apart) ∙ none)) ∙ w.0 in cc
  | inr same ↦ w.1 (sym (h.others k apart) ∙ same)
])

-- a key that was to come is among those that were stored
came : (a b b1 b' : Map) (ks : List Key) → IsPart b b1 → Changed ToStore a b1 b' ks → ((k : Key) → HaveSame a b' k) → (k : Key) → ToCopy a b k → Contains ks k
came a b b1 b' ks part h all k w = of_among k ks (λ apart.
    let there : get b1 k ≡ get a k = sym (h.others k apart) ∙ all k in
    elim (part k) as (λ x. ⊥) [
      | inl none ↦ let clash : false ≡ true = sym (ap is_some (sym there ∙ none)) ∙ w.0 in cc
      | inr same ↦ w.1 (sym same ∙ there)
    ])

module _ (first first1 second second1 second' : PortState) (same : first1.map ≡ first.map) (gone : VisitsAll AreAny NoOther first second second1)
    (come : VisitsAll IsPart HaveSame first1 second1 second') (cs ds : List Command) (h : Deleted first second second1 cs) (g : Stored first1 second1 second' ds) where
  storing : Storing first1 second1 ds
  storing = record {
    only = g.only;
    were = λ a b1 ea e1 part. let (b', eb', keeps, all) = come a b1 ea e1 part in (g.changed a b1 b' ea e1 eb' part).were;
    copies = g.copies;
  }

  all_differ : (a b : Map) → first.map ≡ Some a → second.map ≡ Some b → AllDiffering a b (cs ++ ds)
  all_differ a b ea eb =
      let (b1, e1, any, part) = gone a b ea eb tt in
      let (b', eb', keeps, all) = come a b1 (same ∙ ea) e1 part in
      let no_deletes = keys_none DELETE ds (only_map (LooksOr STORE) (IsOther DELETE) no_delete ds g.only) in
      let no_stores = keys_none STORE cs (only_map (LooksOr DELETE) (IsOther STORE) no_store cs h.only) in
      let deleted : named_keys DELETE (cs ++ ds) ≡ named_keys DELETE cs = keys_of_both DELETE cs ds ∙ ap (λ (ks : List Key). named_keys DELETE cs ++ ks) no_deletes ∙ append-nil (named_keys DELETE cs) in
      let stored : named_keys STORE (cs ++ ds) ≡ named_keys STORE ds = keys_of_both STORE cs ds ∙ ap (λ (ks : List Key). ks ++ named_keys STORE ds) no_stores in
      record {
        differing = both_differ first first1 second second1 same (goes_all first second second1 gone) cs ds h storing a b ea eb;
        all_deleted = λ k w. subst (λ (ks : List Key). Contains ks k) (sym deleted) (went a b b1 (named_keys DELETE cs) (h.changed a b b1 ea eb e1 tt) part k w);
        all_stored = λ k w. subst (λ (ks : List Key). Contains ks k) (sym stored)
            (came a b b1 b' (named_keys STORE ds) (h.lessens refl a b b1 ea eb e1 tt) (g.changed a b1 b' (same ∙ ea) e1 eb' part) all k w);
      }

  resync_all : AreWholeResync first second (cs ++ ds)
  resync_all = record { only = both_ask cs ds h.only g.only; known = all_differ }

-- what both phases asked of the second, if both were done
pub resync_whole : {Q : Type 0} (state : Q → PortState) (took : Q → List Command → Q → Type 0)
    → ((p : Q) (cs : List Command) (q : Q) (ds : List Command) (r : Q) → took p cs q → took q ds r → took p (cs ++ ds) r) → (first first1 : PortState) (p q r : Q)
    → first1.map ≡ first.map → VisitsAll AreAny NoOther first (state p) (state q) → VisitsAll IsPart HaveSame first1 (state q) (state r)
    → TookSome took (Deleted first (state p) (state q)) p q → TookSome took (Stored first1 (state q) (state r)) q r → TookSome took (AreWholeResync first (state p)) p r
resync_whole state took both first first1 p q r same gone come h g =
    (h.0 ++ g.0, resync_all first first1 (state p) (state q) (state r) same gone come h.0 g.0 h.1 g.1, both p h.0 q g.0 r h.2 g.2)

-- ---- a pair in step

only_looks : (cs : List Command) → AllByRecursion LooksOrChanges cs → opcode_count DELETE cs ≡ 0 → opcode_count STORE cs ≡ 0 → AllByRecursion OnlyLooks cs
unfolding one_if
only_looks [] h no_deletes no_stores = tt
only_looks (c ∷ cs) h no_deletes no_stores = (
  elim h.0 as (λ x. OnlyLooks c) [
    | inl way ↦ elim way as (λ x. OnlyLooks c) [
      | inl looks ↦ looks
      | inr own ↦ absurd (let one : one_if (c.opcode == DELETE) ≡ 1 = ap (λ (n : ℕ). one_if (n == DELETE)) own.0 in omega (arith, one, no_deletes))
    ]
    | inr own ↦ absurd (let one : one_if (c.opcode == STORE) ≡ 1 = ap (λ (n : ℕ). one_if (n == STORE)) own.0 in omega (arith, one, no_stores))
  ],
  only_looks cs h.1 (omega (arith, no_deletes)) (omega (arith, no_stores)),
)

-- if both drives have the same map, a resync deletes nothing and stores nothing
pub looks_alone : (m : Map) (cs : List Command) → AllByRecursion LooksOrChanges cs → OnlyDiffering m m cs → AllByRecursion OnlyLooks cs
looks_alone m cs only differing =
    let deletes = no_keys (ToDelete m m) (λ k w. w.1 refl) (named_keys DELETE cs) differing.deletes_once in
    let stores = no_keys (ToCopy m m) (λ k w. w.1 refl) (named_keys STORE cs) differing.stores_once in
    only_looks cs only (counted DELETE cs ∙ ap (λ (ks : List Key). length ks) deletes) (counted STORE cs ∙ ap (λ (ks : List Key). length ks) stores)

pub in_step_looks : (first second : PortState) (cs : List Command) → second.map ≡ first.map → AreOfResync first second cs → (m : Map) → first.map ≡ Some m → AllByRecursion OnlyLooks cs
in_step_looks first second cs same h m told =
    looks_alone m cs h.only (h.known m m told (same ∙ told))

pub took_looks : {Q : Type 0} (took : Q → List Command → Q → Type 0) (first second : PortState) (p q : Q) → second.map ≡ first.map
    → TookSome took (AreOfResync first second) p q → (m : Map) → first.map ≡ Some m → TookSome took (AllByRecursion OnlyLooks) p q
took_looks took first second p q same h m told = (h.0, in_step_looks first second h.0 same h.1 m told, h.2)
