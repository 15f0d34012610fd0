-- The keys of a pair, page by page into one text.
use Rattle.std.proofs.Common.{◌≡◌, inl, inr, ℕ, ◌⊎◌, ◌+◌, ◌-◌, ◌*◌, ◌<◌, ◌≤◌, List, [], ◌∷◌, ◌++◌, length, map, take, slice_index_or, Bool, true, false, Option, Some, None, Result, Ok, Err, refl, sym}
use Rattle.std.proofs.Common.{ap, subst, ◌∙◌, arith}
use Rattle.std.{proofs.lemmas.List.append-nil, proofs.lemmas.List.append_assoc, proofs.lemmas.List.length-append, proofs.lemmas.Grind.flat_map-append}
use Rattle.std.{specs.FinMap.keys, specs.FinMap.entries}
use Rattle.pk_base.{specs.Key.Key, specs.Shape.Shape, specs.Shape.IsShape, specs.Shape.limit}
use Rattle.pk_base.specs.Map.{Map, IsMap, live, pages_in}
use Rattle.pk_segfmt.proofs.StoredLemmas.{charge_some}
use Rattle.pk_nvme.{specs.Bytes.RoomyList, specs.Command.Command, specs.Command.key_or_none}
use Rattle.pk_nand.specs.Calls.{Rose}
use Rattle.pk_host.{specs.declared.types.HostError.HostError, specs.Port.PortState, specs.Port.Took}
use Rattle.pk_host.specs.Outcomes.{Gives, TookSome, AtMostOne, list_of}
use Rattle.pk_host.specs.Listing.{above, Pages, Follows, listed_by}
use Rattle.pk_host.{proofs.PageLemmas.next_page, proofs.PageLemmas.nothing_above, proofs.PageLemmas.all_above_none, proofs.SpellingLemmas.are_keys}
use Rattle.pk_words.{specs.Lines.key_line, specs.Lines.key_lines}
use Rattle.pk_mirror.{specs.Ranks.IsText, specs.Ranks.keys_left, specs.declared.error.Side.Side, specs.declared.error.Side.TheVariants.First, specs.declared.error.Side.TheVariants.Second}
use Rattle.pk_mirror.{specs.declared.error.MirrorError.MirrorError, specs.Pair.Mirrored, specs.Pair.IsPair, specs.Asks.Asks, specs.Asks.KeepsMaps, specs.Asks.StaysUnlessPort}
use Rattle.pk_mirror.specs.declared.error.MirrorError.TheVariants.{Refused, Port, Split}
use Rattle.pk_mirror.proofs.VisitLemmas.{asking_none, asking_more}
use Rattle.pk_mirror.{specs.Causes.Decides, specs.Causes.IsCause, specs.Causes.IsReadError, specs.Causes.OnlyAsks, specs.Causes.AreAsking, proofs.PairLemmas.rose_later, proofs.PageLemmas.parts}
use Rattle.pk_mirror.{proofs.PageLemmas.page_some}
use Rattle.pk_mirrorwords.{specs.PairTasks.list, specs.PairPages.keys_after, specs.PairPages.IsListed, specs.PairPages.ListGoesOn, specs.PairPages.PageFails}
use Rattle.pk_mirrorwords.specs.PairAnswers.{IsToldPair, IsInStep, PairUnread, PairFault, PairDone, PairFails, ResyncFails}

-- ---- lines of a page

-- what is in a text when n keys of a page were added
pub record AreAdded (page : List Key) (text initial : RoomyList) (i : ℕ) : Type 0 where
  pub lines : text ≡ record initial { items = initial.items ++ key_lines (take i page) }
  pub most : length text.items ≤ length initial.items + 33 * i

-- ---- how many keys there can be

names_length : (es : List (Key × List ℕ)) → length (map (λ e. e.0) es) ≡ length es
names_length [] = refl
names_length (e ∷ es) = let h = names_length es in omega (arith, h)

pages_some : (shape : Shape) → IsShape shape → (es : List (Key × List ℕ)) → length es ≤ pages_in shape es
pages_some shape is [] = omega arith
pages_some shape is (e ∷ es) = let rest = pages_some shape is es in let one = charge_some shape is (length e.1) in omega (arith, rest, one)

pub keys_few : (shape : Shape) (m : Map) → IsShape shape → length (keys m) ≤ live shape m
keys_few shape m is = let names = names_length (entries m) in let pages = pages_some shape is (entries m) in omega (arith, names, pages)

-- ---- a page

decides_ok : {X : Type 0} (side : Side) (answer : Result X HostError) (x : X) → Decides side answer (Ok x) → answer ≡ Ok x
decides_ok {X} side (Ok y) x d = let same : y ≡ x = (let h = d in cc) in ap (λ (z : X). Ok z) same
decides_ok {X} side (Err e) x d = absurd (let clash : ◌≡◌ {A = Result X MirrorError} (Ok x) (Err d.0) = d.1 in cc)

-- a page that was given has a key
pub asked_some : (old new : Mirrored) (p p' q q' : PortState) (c : Command) (page : List Key) (more : Bool) → more ≡ true → Asks old new p p' q q' c (listed_by page) (Ok more) → 0 < length page
asked_some old new p p' q q' c page more given w = elim w [
  | inl s ↦ absurd (let clash : ◌≡◌ {A = Result Bool MirrorError} (Ok more) (Err Split) = s.answer in cc)
  | inr (inl f) ↦ page_some p p' c page more given (subst (λ (r : Result Bool HostError). Gives p p' c (listed_by page) r) (decides_ok First f.answer more f.decides) f.gives)
  | inr (inr f) ↦ page_some q q' c page more given (subst (λ (r : Result Bool HostError). Gives q q' c (listed_by page) r) (decides_ok Second f.answer more f.decides) f.gives)
]

left_above : (shape : Shape) (last : Option Key) (m : Map) → IsMap shape m → keys_after last m ≡ above (key_or_none last) (keys m)
left_above shape None m is = sym (all_above_none (keys m) (are_keys shape m is))
left_above shape (Some key) m is = refl

module _ (p : PortState) (last : Option Key) (text : List ℕ) (listed : IsListed p last text) (sized : (m : Map) → p.map ≡ Some m → IsMap p.shape m) where
  module _ (page : List Key) (pages : Pages p (key_or_none last) page) where
    -- a page and the keys after it are those after the last before
    rest_of : (next : Key) → 0 < length page → next ≡ slice_index_or page (length page - 1) [] → (m : Map) → p.map ≡ Some m → keys_after last m ≡ page ++ above next (keys m)
    rest_of next some is m told =
        let (front, e) = parts page next some is in
        left_above p.shape last m (sized m told) ∙ next_page (key_or_none last) m front next (sym (pages m told) ∙ e) ∙ ap (λ (ks : List Key). ks ++ above next (keys m)) (sym (pages m told))

    pub page_room : 0 < length page → (shape : Shape) → IsShape shape → p.shape ≡ shape → p.limit ≤ limit p.shape
        → (room : ℕ) → 33 * limit shape ≤ room → (m : Map) → p.map ≡ Some m → live p.shape m ≤ p.limit
        → length text + 33 * length page ≤ room
    page_room some shape is_shape same limit_most room wide m told within =
        let next : Key = slice_index_or page (length page - 1) [] in
        let (front, split, lines, most) = listed.lines m told in
        let rest = rest_of next some refl m told in
        let few : live shape m ≤ limit shape = subst (λ (s : Shape). live s m ≤ limit s) same (omega (arith, within, limit_most)) in
        let all = keys_few shape m is_shape in
        let one : length (keys m) ≡ length front + length (keys_after last m) = ap (λ (ks : List Key). length ks) split ∙ length-append front (keys_after last m) in
        let two : length (keys_after last m) ≡ length page + length (above next (keys m)) = ap (λ (ks : List Key). length ks) rest ∙ length-append page (above next (keys m)) in
        omega (arith, wide, few, most, all, one, two)

    pub goes_some : (next : Key) (new : List ℕ) → 0 < length page → next ≡ slice_index_or page (length page - 1) [] → new ≡ text ++ key_lines page → length new ≤ length text + 33 * length page
        → IsText next → keys_left (Some next) < keys_left last → ListGoesOn p last (Some next) text new
    goes_some next new some is added short is_text falls = (
      record {
        lines = λ m told.
            let (front, split, lines, most) = listed.lines m told in
            let rest = rest_of next some is m told in
            let count = length-append front page in (
              front ++ page,
              split ∙ ap (λ (ks : List Key). front ++ ks) rest ∙ sym (append_assoc front page (above next (keys m))),
              added ∙ ap (λ (xs : List ℕ). xs ++ key_lines page) lines ∙ sym (flat_map-append key_line front page),
              omega (arith, short, most, count),
            );
      },
      is_text,
      falls,
    )

  pub goes_none : (more : Bool) → more ≡ false → Follows p (key_or_none last) more → ListGoesOn p last None text text
  goes_none more stop follows m told =
      let (front, split, lines, most) = listed.lines m told in
      let none : keys_after last m ≡ [] = left_above p.shape last m (sized m told) ∙ nothing_above (above (key_or_none last) (keys m)) (sym stop ∙ follows m told) in
      lines ∙ ap key_lines (sym (split ∙ ap (λ (ks : List Key). front ++ ks) none ∙ append-nil front))

-- before the first page
pub listed_none : (p : PortState) → IsListed p None []
listed_none p = record { lines = λ m told. ([], refl, refl, omega arith) }

-- the same of another state with the same map
pub listed_as : (p q : PortState) (last : Option Key) (text : List ℕ) → q.map ≡ p.map → IsListed p last text → IsListed q last text
listed_as p q last text same h = record { lines = λ m told. h.lines m (sym same ∙ told) }

-- a call that failed by a cause
pub failed_so : (p p' q q' : PortState) (e : MirrorError) → IsCause p p' q q' e → IsReadError e → ResyncFails p p' q q' (Err e)
failed_so p p' q q' (Refused First status) cause unread = (inl (cause.unread unread), unread)
failed_so p p' q q' (Refused Second status) cause unread = (inr (cause.unread unread), unread)
failed_so p p' q q' (Port First) cause unread = inl cause
failed_so p p' q q' (Port Second) cause unread = inr cause
failed_so p p' q q' Split cause unread = absurd cause

-- why a page has no answer
pub page_fails : (old : Mirrored) (p p' q q' : PortState) (e : MirrorError) → (◌≡◌ {A = Result Bool MirrorError} (Err e) (Err Split) → old.split ≡ true)
    → ((e ≡ Split → ⊥) → IsCause p p' q q' e) → IsReadError e → PageFails old p p' q q' e
page_fails old p p' q q' (Refused side status) split causes unread = failed_so p p' q q' (Refused side status) (causes (λ e. cc)) unread
page_fails old p p' q q' (Port side) split causes unread = failed_so p p' q q' (Port side) (causes (λ e. cc)) unread
page_fails old p p' q q' Split split causes unread = split refl

-- ---- all pages

pub rose_then : (a b c : ℕ) → Rose a b → b ≤ c → Rose a c
rose_then a b c rose up = omega (arith, rose, up)

-- what failed in a part of a call failed in the call
pub unread_later : (p p1 p' q q1 q' : PortState) (cs ds : List Command) → Took p p1 cs → Took q q1 ds → PairUnread p1 p' q1 q' → PairUnread p p' q q'
unread_later p p1 p' q q1 q' cs ds t u (inl rose) = inl (rose_later p.read_faults p1.read_faults p'.read_faults t.read_faults rose)
unread_later p p1 p' q q1 q' cs ds t u (inr rose) = inr (rose_later q.read_faults q1.read_faults q'.read_faults u.read_faults rose)

pub fault_later : (p p1 p' q q1 q' : PortState) (cs ds : List Command) → Took p p1 cs → Took q q1 ds → PairFault p1 p' q1 q' → PairFault p p' q q'
fault_later p p1 p' q q1 q' cs ds t u (inl rose) = inl (rose_later p.port_faults p1.port_faults p'.port_faults t.port_faults rose)
fault_later p p1 p' q q1 q' cs ds t u (inr rose) = inr (rose_later q.port_faults q1.port_faults q'.port_faults u.port_faults rose)

fault_before : (p p1 p' q q1 q' : PortState) (cs ds : List Command) → Took p1 p' cs → Took q1 q' ds → PairFault p p1 q q1 → PairFault p p' q q'
fault_before p p1 p' q q1 q' cs ds t u (inl rose) = inl (rose_then p.port_faults p1.port_faults p'.port_faults rose t.port_faults)
fault_before p p1 p' q q1 q' cs ds t u (inr rose) = inr (rose_then q.port_faults q1.port_faults q'.port_faults rose u.port_faults)

-- the maps of a pair that were known are known still
pub told_after : (old new : Mirrored) (p p' q q' : PortState) (cs : List Command) → IsToldPair old p q → Took p p' cs → IsPair new p' q' → p'.map ≡ p.map → IsToldPair new p' q'
told_after old new p p' q q' cs told t pair keeps = record {
  pair = pair;
  limit_most = subst (λ (s : Shape). p'.limit ≤ limit s) (sym t.shape) (let most = told.limit_most in let same = t.limit in omega (arith, most, same));
  map = told.map;
  told = keeps ∙ told.told;
}

-- at most one command that asks is a list of commands that ask
pub asks_one : {P : Type 0} (took : P → List Command → P → Type 0) (p q : P) (c : Command) → OnlyAsks c → TookSome took (AtMostOne c) p q → TookSome took AreAsking p q
asks_one took p q c asks (cs, inl none, t) = (cs, subst AreAsking (sym none) tt, t)
asks_one took p q c asks (cs, inr one, t) = (cs, subst AreAsking (sym one) (asks, tt), t)

pub asks_page : {P : Type 0} {took : P → List Command → P → Type 0} → ((p : P) (cs : List Command) (q : P) (ds : List Command) (r : P) → took p cs q → took q ds r → took p (cs ++ ds) r)
    → (p q r : P) (from : Key) → TookSome took AreAsking p q → TookSome took (AtMostOne (list_of from)) q r → TookSome took AreAsking p r
asks_page {took = took} both p q r from h page = asking_more took both p q r h (asks_one took q r (list_of from) (inl (from, refl)) page)

module _ {P Q : Type 0} (stateP : P → PortState) (tookP : P → List Command → P → Type 0) (stateQ : Q → PortState) (tookQ : Q → List Command → Q → Type 0) where
  -- All keys up to the last are listed, from two ports on to two others.
  pub record IsPaging (first first' : P) (second second' : Q) (mirror : Mirrored) (said : List ℕ) (last : Option Key) : Type 0 where
    pub took_first : TookSome tookP AreAsking first first'
    pub took_second : TookSome tookQ AreAsking second second'
    pub pair : IsToldPair mirror (stateP first') (stateQ second')
    pub same_first : (stateP first').map ≡ (stateP first).map
    pub same_second : (stateQ second').map ≡ (stateQ second).map
    pub listed : IsListed (stateP first) last said
    pub stays : (mirror.split ≡ false) ⊎ PairFault (stateP first) (stateP first') (stateQ second) (stateQ second')
    pub text : (k : Key) → last ≡ Some k → IsText k

  pub paging_begins : (first : P) (second : Q) (mirror : Mirrored) (text : List ℕ) → text ≡ [] → tookP first [] first
      → tookQ second [] second → IsInStep mirror (stateP first) (stateQ second) → IsPaging first first second second mirror text None
  paging_begins first second mirror text empty p q pair = record {
    took_first = asking_none tookP first p;
    took_second = asking_none tookQ second q;
    pair = pair.pair;
    same_first = refl;
    same_second = refl;
    listed = subst (λ (xs : List ℕ). IsListed (stateP first) None xs) (sym empty) (listed_none (stateP first));
    stays = inl pair.in_step;
    text = λ k e. absurd (let clash : ◌≡◌ {A = Option Key} None (Some k) = e in cc);
  }

  module _ (bothP : (p : P) (cs : List Command) (q : P) (ds : List Command) (r : P) → tookP p cs q → tookP q ds r → tookP p (cs ++ ds) r)
      (bothQ : (p : Q) (cs : List Command) (q : Q) (ds : List Command) (r : Q) → tookQ p cs q → tookQ q ds r → tookQ p (cs ++ ds) r)
      (knownP : (p : P) (cs : List Command) (q : P) → tookP p cs q → Took (stateP p) (stateP q) cs) (knownQ : (p : Q) (cs : List Command) (q : Q) → tookQ p cs q → Took (stateQ p) (stateQ q) cs)
      {first mid first' : P} {second halfway second' : Q} {mirror : Mirrored} {text : List ℕ} {last : Option Key} (h : IsPaging first mid second halfway mirror text last)
      (from : Key) (p : TookSome tookP (AtMostOne (list_of from)) mid first') (q : TookSome tookQ (AtMostOne (list_of from)) halfway second')
      (keeps : KeepsMaps (stateP mid) (stateP first') (stateQ halfway) (stateQ second')) where
    -- what failed in this page failed in the call, and what failed before it
    later : PairFault (stateP mid) (stateP first') (stateQ halfway) (stateQ second') → PairFault (stateP first) (stateP first') (stateQ second) (stateQ second')
    later = fault_later (stateP first) (stateP mid) (stateP first') (stateQ second) (stateQ halfway) (stateQ second') _ _
        (knownP first h.took_first.0 mid h.took_first.2) (knownQ second h.took_second.0 halfway h.took_second.2)

    before : PairFault (stateP first) (stateP mid) (stateQ second) (stateQ halfway) → PairFault (stateP first) (stateP first') (stateQ second) (stateQ second')
    before = fault_before (stateP first) (stateP mid) (stateP first') (stateQ second) (stateQ halfway) (stateQ second') _ _ (knownP mid p.0 first' p.2) (knownQ halfway q.0 second' q.2)

    still_stays : (after : Mirrored) → (mirror.split ≡ false → StaysUnlessPort after (stateP mid) (stateP first') (stateQ halfway) (stateQ second'))
        → (after.split ≡ false) ⊎ PairFault (stateP first) (stateP first') (stateQ second) (stateQ second')
    still_stays after stays = elim h.stays [
      | inl off ↦ elim (stays off) [ inl now ↦ inl now | inr fault ↦ inr (later fault) ]
      | inr fault ↦ inr (before fault)
    ]

    pub paging_goes : (after : Mirrored) (new : List ℕ) (next : Key) → (mirror.split ≡ false → StaysUnlessPort after (stateP mid) (stateP first') (stateQ halfway) (stateQ second'))
        → IsPair after (stateP first') (stateQ second') → ListGoesOn (stateP mid) last (Some next) text new → IsPaging first first' second second' after new (Some next)
    paging_goes after new next stays pair goes = record {
      took_first = asks_page {took = tookP} bothP first mid first' from h.took_first p;
      took_second = asks_page {took = tookQ} bothQ second halfway second' from h.took_second q;
      pair = told_after mirror after (stateP mid) (stateP first') (stateQ halfway) (stateQ second') _ h.pair (knownP mid p.0 first' p.2) pair keeps.first_keeps;
      same_first = keeps.first_keeps ∙ h.same_first;
      same_second = keeps.second_keeps ∙ h.same_second;
      listed = listed_as (stateP mid) (stateP first) (Some next) new (sym h.same_first) goes.0;
      stays = still_stays after stays;
      text = λ k e. subst IsText (let is : next ≡ k = cc in is) goes.1;
    }

    pub paging_ends : (new : List ℕ) (m : Map) → (stateP first).map ≡ Some m → (stateQ second).map ≡ Some m
        → ListGoesOn (stateP mid) last None text new → PairDone list (stateP first) (stateP first') (stateQ second') m new
    paging_ends new m told too goes = record {
      spelled = goes m (h.same_first ∙ told);
      first_left = keeps.first_keeps ∙ h.same_first ∙ told;
      second_left = keeps.second_keeps ∙ h.same_second ∙ too;
    }

    pub paging_fails : (m : Map) (e : MirrorError) → PageFails mirror (stateP mid) (stateP first') (stateQ halfway) (stateQ second') e
        → PairFails list (stateP first) (stateP first') (stateQ second) (stateQ second') m e
    paging_fails m (Refused side status) (unread, is) = inr (
      unread_later (stateP first) (stateP mid) (stateP first') (stateQ second) (stateQ halfway) (stateQ second') _ _
          (knownP first h.took_first.0 mid h.took_first.2) (knownQ second h.took_second.0 halfway h.took_second.2) unread,
      is,
    )
    paging_fails m (Port side) fault = later fault
    paging_fails m Split split = elim h.stays [
      | inl off ↦ absurd (let clash : true ≡ false = sym split ∙ off in cc)
      | inr fault ↦ before fault
    ]

-- ---- in the form of calls

pub goes_as : (p : PortState) (o last f f' : Option Key) (old new : List ℕ) → o ≡ last → f ≡ f' → ListGoesOn p o f old new → ListGoesOn p last f' old new
goes_as p o last f f' old new e g h = subst (λ (x : Option Key). ListGoesOn p x f' old new) e (subst (λ (x : Option Key). ListGoesOn p o x old new) g h)

pub listed_at : (p q : PortState) (o last : Option Key) (text : List ℕ) → o ≡ last → q.map ≡ p.map → IsListed p last text → IsListed q o text
listed_at p q o last text e same h = listed_as p q o text same (subst (λ (x : Option Key). IsListed p x text) (sym e) h)
