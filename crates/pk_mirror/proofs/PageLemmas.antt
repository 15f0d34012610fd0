-- Pages of keys that are visited, one after another.
use Rattle.std.proofs.Common.{◌≡◌, inl, inr, ◌==◌, ℕ, ◌-◌, ◌<◌, ◌≤◌, if◌then◌else◌, nat_lt, List, [], ◌∷◌, ◌++◌, length, filter, slice_index_or, Bool, true, false, Option, Some, None, is_some, Result}
use Rattle.std.proofs.Common.{Ok, Err, IfErr, IfSome, refl, sym, ap, subst, ◌∙◌, arith, length-append}
use Rattle.std.{proofs.lemmas.Bool.ltb-true, specs.List.AllByRecursion, specs.Ordering.is_lt, specs.FinMap.get, specs.FinMap.keys}
use Rattle.pk_base.{specs.Key.Key, specs.Key.IsKey, specs.Key.IsBelow, specs.Key.key_cmp, specs.Key.bytes_of, specs.Map.Map}
use Rattle.pk_nvme.specs.Command.{Command, key_or_none}
use Rattle.pk_host.{specs.declared.types.HostError.HostError, specs.declared.types.HostError.TheVariants.Refused as HostRefused, specs.declared.types.HostError.TheVariants.Port as HostPort}
use Rattle.pk_host.{specs.Port.PortState, specs.Port.Took, specs.Outcomes.Gives, proofs.PageLemmas.next_page, proofs.PageLemmas.nothing_above, specs.Calls.IsOwnKey}
use Rattle.pk_host.specs.Listing.{above, page_after, Pages, Follows, TellsKeys, listed_by}
use Rattle.pk_host.proofs.RisingLemmas.{are_above, all_middle, snoc_of}
use Rattle.pk_mirror.{specs.Ranks.IsText, specs.Ranks.keys_left, specs.declared.error.MirrorError.MirrorError, specs.Pair.Mirrored, specs.Pair.IsPair, specs.Causes.IsReadError}
use Rattle.pk_mirror.{specs.Agreement.NoOther, specs.Agreement.HaveSame, specs.Agreement.AreAny, specs.Agreement.IsPart, proofs.RankLemmas.after_first, proofs.RankLemmas.after_key}
use Rattle.pk_mirror.specs.Visits.{Visits, VisitsAll, VisitsUpTo, IsUpTo, Turns, OnlyReadsFail}
use Rattle.pk_mirror.proofs.VisitLemmas.{all_map, all_append, TakesBoth, goes_on, no_progress}
use Rattle.pk_mirror.{specs.Progress.Progress, proofs.MapLemmas.key_of, proofs.MapLemmas.same_by_keys}
use Rattle.pk_mirror.{proofs.PairLemmas.by_map, proofs.PairLemmas.none_tells, proofs.PairLemmas.other_tells, proofs.PairLemmas.still_pair}

-- ---- lists of keys

of_filter : (f : Key → Bool) (Q : Key → Type 0) (ks : List Key) → AllByRecursion Q (filter f ks) → AllByRecursion (λ k. f k ≡ true → Q k) ks
of_filter f Q [] h = tt
of_filter f Q (k ∷ ks) h = elim (f k) as (λ b. f k ≡ b → AllByRecursion Q (if b then k ∷ filter f ks else filter f ks) → AllByRecursion (λ k. f k ≡ true → Q k) (k ∷ ks)) [
  | true ↦ λ e g. (λ is. g.0, of_filter f Q ks g.1)
  | false ↦ λ e g. (λ is. absurd (let clash : true ≡ false = sym is ∙ e in cc), of_filter f Q ks g)
] refl h

-- the last key of a page
last_at : (xs : List Key) (p : Key) → slice_index_or (xs ++ p ∷ []) (length xs) [] ≡ p
last_at [] p = refl
last_at (x ∷ xs) p = last_at xs p

last_is : (front : List Key) (q : Key) → slice_index_or (front ++ q ∷ []) (length (front ++ q ∷ []) - 1) [] ≡ q
last_is front q =
    let n : length (front ++ q ∷ []) - 1 ≡ length front = omega (arith, length-append front (q ∷ [])) in
    ap (λ (i : ℕ). slice_index_or (front ++ q ∷ []) i []) n ∙ last_at front q

-- its front and its last key
pub parts : (page : List Key) (next : Key) → 0 < length page → next ≡ slice_index_or page (length page - 1) [] → (front : List Key) × (page ≡ front ++ next ∷ [])
parts [] next some last = absurd (omega (arith, some))
parts (x ∷ xs) next some last =
    let (front, q, e) = snoc_of x xs in
    let same : q ≡ next = sym (last_is front q) ∙ ap (λ (ks : List Key). slice_index_or ks (length ks - 1) []) (sym e) ∙ sym last in
    (front, e ∙ ap (λ (k : Key). front ++ k ∷ []) same)

-- a key is above no key
pub above_none : (k : Key) → IsKey k → is_lt (key_cmp [] k) ≡ true
above_none [] h = absurd (let some = h.some in omega (arith, some))
above_none (x ∷ k) h = refl

-- a page that was given has a key
pub page_some : (old new : PortState) (c : Command) (page : List Key) (more : Bool) → more ≡ true → Gives old new c (listed_by page) (Ok more) → 0 < length page
page_some old new c page more yes_more (inr fault) = absurd (let clash : ◌≡◌ {A = Result Bool HostError} (Ok more) (Err HostPort) = fault.0 in cc)
page_some old new c page more yes_more (inl (a, x, e)) =
    elim (a.status == 0) as (λ b. (Ok more ≡ (if b then Ok (nat_lt 0 (length page)) else Err (HostRefused a.status))) → 0 < length page) [
      | true ↦ λ h. ltb-true 0 (length page) (let same : more ≡ nat_lt 0 (length page) = cc in sym same ∙ yes_more)
      | false ↦ λ h. absurd (let clash : ◌≡◌ {A = Result Bool HostError} (Ok more) (Err (HostRefused a.status)) = h in cc)
    ] e

-- ---- how far the pages have come

pub page_falls : (last : Option Key) (page : List Key) (next : Key) → 0 < length page → next ≡ slice_index_or page (length page - 1) [] → IsText next → ((k : Key) → last ≡ Some k → IsText k)
    → AllByRecursion (IsBelow (key_or_none last)) page → keys_left (Some next) < keys_left last
page_falls None page next some is text from_text higher = after_first next
page_falls (Some from) page next some is text from_text higher =
    let (front, e) = parts page next some is in
    after_key from next (from_text from refl) text (all_middle from next front [] (subst (AllByRecursion (IsBelow from)) e higher))

-- ---- a page

-- a key that a drive has is one of those up to the last, or above it
up_or_above : (last : Option Key) (key : Key) (P : Type 0) → IsKey key → (IsUpTo last key → P) → (is_lt (key_cmp (key_or_none last) key) ≡ true → P) → P
up_or_above None key P is up higher = higher (above_none key is)
up_or_above (Some from) key P is up higher = elim (is_lt (key_cmp from key)) as (λ b. is_lt (key_cmp from key) ≡ b → P) [
  | true ↦ λ e. higher e
  | false ↦ λ e. up e
] refl

by_get : {X : Type 0} (o : Option X) (P : Type 0) → (o ≡ None → P) → ((x : X) → o ≡ Some x → P) → P
by_get None P none some = none refl
by_get (Some x) P none some = some x refl

module _ (Keeps : Map → Map → Type 0) (Done : Map → Map → Key → Type 0) (first first1 second second1 second' lister : PortState) (last : Option Key)
    -- keys that the drive lacks whose keys are listed need off visit
    (listed : (a b : Map) → first.map ≡ Some a → second.map ≡ Some b → Keeps a b → (l : Map) × (lister.map ≡ Some l) × ((key : Key) → get l key ≡ None → Done a b key))
    (known : TellsKeys lister) where
  pub turns_some : (page : List Key) (next : Key) → 0 < length page → next ≡ slice_index_or page (length page - 1) []
      → Pages lister (key_or_none last) page → first1.map ≡ first.map → second1.map ≡ second.map
      → Visits Keeps Done first1 second1 second' page → Turns Keeps Done first second second' last (Some next)
  turns_some page next some is pages same too visits a b ea eb keeps up =
      let (l, el, lacks) = listed a b ea eb keeps in
      let (b', eb', v) = visits a b (same ∙ ea) (too ∙ eb) keeps in
      let from : Key = key_or_none last in
      let Q : Key → Type 0 = λ k. is_lt (key_cmp next k) ≡ false → Done a b' k in
      let is_page = pages l el in
      let (front, e) = parts page next some is in
      let split = next_page from l front next (sym is_page ∙ e) in
      let in_page : AllByRecursion Q (page_after from l) = subst (AllByRecursion Q) is_page (all_map (Done a b') Q (λ k d n. d) page v.done) in
      let behind : AllByRecursion Q (above next (keys l)) =
      all_map (IsBelow next) Q (λ k below n. absurd (let clash : true ≡ false = sym (ap is_lt below) ∙ n in cc)) (above next (keys l)) (are_above next (keys l)) in
      let all : AllByRecursion Q (above from (keys l)) = subst (AllByRecursion Q) (sym split) (all_append Q (page_after from l) (above next (keys l)) in_page behind) in
      let each = of_filter (λ k. is_lt (key_cmp from k)) Q (keys l) all in (
        b',
        eb',
        v.keeps,
        λ key upto. by_get (get l key) (Done a b' key)
            (λ none. v.still key (lacks key none))
            (λ value there. up_or_above last key (Done a b' key) (key_of IsKey l (known l el) key value there)
            (λ before. v.still key (up key before))
            (λ higher. key_of (λ k. is_lt (key_cmp from k) ≡ true → Q k) l each key value there higher upto)),
      )

  pub turns_none : (more : Bool) → more ≡ false → Follows lister (key_or_none last) more → second'.map ≡ second.map → Turns Keeps Done first second second' last None
  turns_none more stop follows too a b ea eb keeps up =
      let (l, el, lacks) = listed a b ea eb keeps in
      let from : Key = key_or_none last in
      let none : above from (keys l) ≡ [] = nothing_above (above from (keys l)) (sym stop ∙ follows l el) in
      let each = of_filter (λ k. is_lt (key_cmp from k)) (λ k. ⊥) (keys l) (subst (AllByRecursion (λ k. ⊥)) (sym none) tt) in (
        b,
        too ∙ eb,
        keeps,
        λ key. by_get (get l key) (Done a b key)
            (λ none. lacks key none)
            (λ value there. up_or_above last key (Done a b key) (key_of IsKey l (known l el) key value there)
            (λ before. up key before)
            (λ higher. absurd (key_of (λ k. is_lt (key_cmp from k) ≡ true → ⊥) l each key value there higher))),
      )

-- ---- all pages

module _ (Keeps : Map → Map → Type 0) (Done : Map → Map → Key → Type 0) (first second : PortState) where
  pub turned_none : VisitsUpTo Keeps Done first second second None
  turned_none a b ea eb keeps = (b, eb, keeps, λ key off. absurd off)

  pub turned_more : (first1 second1 second' : PortState) (last : Option Key) (next : Key) → first1.map ≡ first.map
      → VisitsUpTo Keeps Done first second second1 last → Turns Keeps Done first1 second1 second' last (Some next)
      → VisitsUpTo Keeps Done first second second' (Some next)
  turned_more first1 second1 second' last next same h g a b ea eb keeps =
      let (b1, e1, k1, up) = h a b ea eb keeps in g a b1 (same ∙ ea) e1 k1 up

  pub turned_all : (first1 second1 second' : PortState) (last : Option Key) → first1.map ≡ first.map
      → VisitsUpTo Keeps Done first second second1 last → Turns Keeps Done first1 second1 second' last None
      → VisitsAll Keeps Done first second second'
  turned_all first1 second1 second' last same h g a b ea eb keeps =
      let (b1, e1, k1, up) = h a b ea eb keeps in g a b1 (same ∙ ea) e1 k1 up

module _ {P Q : Type 0} (stateP : P → PortState) (tookP : P → List Command → P → Type 0) (stateQ : Q → PortState) (tookQ : Q → List Command → Q → Type 0)
    (Keeps : Map → Map → Type 0) (Wanted : Map → Map → Key → Type 0) (opcode : ℕ) (Done : Map → Map → Key → Type 0) where
  -- All keys up to the last were visited, from two ports on to two others.
  pub record IsTurning (first first' : P) (second second' : Q) (last : Option Key) : Type 0 where
    pub progress : Progress stateP tookP stateQ tookQ Keeps Wanted opcode first first' second second'
    pub visits : VisitsUpTo Keeps Done (stateP first) (stateQ second) (stateQ second') last
    pub text : (k : Key) → last ≡ Some k → IsText k

  pub turning_begins : (first : P) (second : Q) → tookP first [] first → tookQ second [] second → IsTurning first first second second None
  turning_begins first second p q = record {
    progress = no_progress stateP tookP stateQ tookQ Keeps Wanted opcode first second p q;
    visits = turned_none Keeps Done (stateP first) (stateQ second);
    text = λ k e. absurd (let clash : ◌≡◌ {A = Option Key} None (Some k) = e in cc);
  }

  pub turning_goes : TakesBoth tookP → TakesBoth tookQ → (first mid first' : P) (second halfway second' : Q) (last : Option Key) (next : Key)
      → IsTurning first mid second halfway last → Progress stateP tookP stateQ tookQ Keeps Wanted opcode mid first' halfway second'
      → Turns Keeps Done (stateP mid) (stateQ halfway) (stateQ second') last (Some next) → IsText next → IsTurning first first' second second' (Some next)
  turning_goes bothP bothQ first mid first' second halfway second' last next h g turns text = record {
    progress = goes_on bothP bothQ first mid first' second halfway second' h.progress g;
    visits = turned_more Keeps Done (stateP first) (stateQ second) (stateP mid) (stateQ halfway) (stateQ second') last next h.progress.same h.visits turns;
    text = λ k e. subst IsText (let is : next ≡ k = cc in is) text;
  }

-- ---- places of pages

pub short_from : (o : Option Key) → ((k : Key) → o ≡ Some k → IsText k) → length (bytes_of (key_or_none o)) ≤ 16
short_from None text = omega arith
short_from (Some k) text = (text k refl).is_key.most

pub own_from : (o : Option Key) → ((k : Key) → o ≡ Some k → IsText k) → IfSome o IsOwnKey
own_from None text = tt
own_from (Some k) text = (text k refl).own

pub falls_next : (last : Option Key) (next : Key) → IsText next → keys_left (Some next) < keys_left last
    → (key : Key) → ◌≡◌ {A = Option Key} (Some next) (Some key) → IsText key × (keys_left (Some next) < keys_left last)
falls_next last next text falls key e = (subst IsText (let is : next ≡ key = cc in is) text, falls)

pub turns_as : (Keeps : Map → Map → Type 0) (Done : Map → Map → Key → Type 0) (first second second' : PortState) (o last f f' : Option Key)
    → o ≡ last → f ≡ f' → Turns Keeps Done first second second' o f → Turns Keeps Done first second second' last f'
turns_as Keeps Done first second second' o last f f' e g h = subst (λ (x : Option Key). Turns Keeps Done first second second' x f') e
    (subst (λ (x : Option Key). Turns Keeps Done first second second' o x) g h)

pub smaller_as : (o last f : Option Key) (next : Key) → o ≡ last → f ≡ Some next
    → ((key : Key) → f ≡ Some key → IsText key × (keys_left f < keys_left o)) → IsText next × (keys_left (Some next) < keys_left last)
smaller_as o last f next e g h =
    let both = h next g in (both.0, subst (λ (x : Option Key). keys_left (Some next) < keys_left x) e (subst (λ (x : Option Key). keys_left x < keys_left o) g both.1))

-- ---- both phases of a resync

-- after the first phase the second's map is a part of the first's; after the second both have the same of every key
pub both_phases : (p p1 q q1 q' : PortState) → p1.map ≡ p.map → VisitsAll AreAny NoOther p q q1 → VisitsAll IsPart HaveSame p1 q1 q' → VisitsAll AreAny HaveSame p q q'
both_phases p p1 q q1 q' same h g a b ea eb any =
    let (b1, e1, k1, part) = h a b ea eb tt in
    let (b2, e2, k2, all) = g a b1 (same ∙ ea) e1 part in (b2, e2, tt, all)

pub second_phase_fails : (p p1 q q1 : PortState) (e : MirrorError) → p1.map ≡ p.map → VisitsAll AreAny NoOther p q q1 → OnlyReadsFail IsPart p1 q1 e → OnlyReadsFail AreAny p q e
second_phase_fails p p1 q q1 e same h fails a b ea eb any = let (b1, e1, k1, part) = h a b ea eb tt in fails a b1 (same ∙ ea) e1 part

-- the second's map is the first's
pub mirrored : (p q q' : PortState) (ds : List Command) → is_some q.map ≡ is_some p.map → Took q q' ds → VisitsAll AreAny HaveSame p q q' → q'.map ≡ p.map
mirrored p q q' ds tell u h = by_map p.map (q'.map ≡ p.map)
    (λ none. u.untold (none_tells p.map q.map tell none) ∙ sym none)
    (λ a ea.
    let (b, eb) = other_tells p.map q.map a tell ea in
    let (b2, e2, k2, all) = h a b ea eb tt in e2 ∙ ap (λ (m : Map). Some m) (same_by_keys a b2 all) ∙ sym ea)

module _ (old new : Mirrored) (p p' q q' : PortState) (cs ds : List Command) (pair : IsPair old p q) (t : Took p p' cs) (u : Took q q' ds) (same : new.shape ≡ old.shape) where
  pub resynced : p'.map ≡ p.map → VisitsAll AreAny HaveSame p q q' → IsPair new p' q'
  resynced keeps h = still_pair p p' q q' cs ds t u old new pair same (λ off. mirrored p q q' ds pair.both_tell u h ∙ sym keeps)

  pub unresynced : new.split ≡ true → IsPair new p' q'
  unresynced split = still_pair p p' q q' cs ds t u old new pair same (λ off. absurd (let clash : true ≡ false = sym split ∙ off in cc))

-- if the first's map is known, a resync is refused on a failed read alone
pub resync_unread : (mirror : Mirrored) (p q : PortState) (r : Result (Unit {0}) MirrorError) → IsPair mirror p q
    → IfErr r (λ e. OnlyReadsFail AreAny p q e) → (m : Map) → p.map ≡ Some m → IfErr r IsReadError
resync_unread mirror p q (Ok x) pair h m told = tt
resync_unread mirror p q (Err e) pair h m told = let (b, eb) = other_tells p.map q.map m pair.both_tell told in h m b told eb tt
