-- A cursor in a run: the page of its place, the entry at it, and what its moves leave.
use Rattle.std.proofs.Common.{◌≡◌, ℕ, zero, suc, ◌+◌, ◌-◌, ◌*◌, ◌/◌, ◌%◌, ◌<◌, ◌≤◌, min, refl, sym, ap, subst, ◌∙◌, arith, Bool, true, false, if◌then◌else◌, T, is_some, List, [], ◌∷◌, ◌++◌, length}
use Rattle.std.proofs.Common.{take, drop, slice_get, Option, Some, None, div-lt_iff_lt-mul, mul-le-mul, suc-mul}
use Rattle.std.{proofs.lemmas.Option.slice_get_within, specs.Ordering.is_gt, specs.Ordering.is_eq, specs.declared.cmp.Ordering.Ordering, proofs.lemmas.Nat.div-add-mod'}
use Rattle.std.specs.declared.cmp.Ordering.TheVariants.{Less, Equal, Greater}
use Rattle.std.{proofs.lemmas.List.length-take, proofs.lemmas.List.length-drop, proofs.Math.Nat.mod-lt, proofs.Math.Nat.div-le_of_le-mul}
use Rattle.pk_base.{specs.Key.Key, specs.Key.key_cmp, specs.Shape.Shape, specs.Shape.IsShape, specs.Shape.page_entries, specs.Entry.Entry, specs.Entry.key_of, specs.Fields.number_at}
use Rattle.pk_base.{specs.Page.Flash, specs.Page.page_at, specs.Page.whole, proofs.KeyLemmas.turned, proofs.ShapeLemmas.ceil_most, proofs.ShapeLemmas.entries_some}
use Rattle.pk_meta.{specs.PageChecks.IsMetaPage, proofs.PageLemmas.meta_again}
use Rattle.pk_nand.specs.BoardState.{BoardState}
use Rattle.pk_pin.specs.Frames.{Frames}
use Rattle.pk_run.{specs.Kept.Kept, specs.Kept.IsKept, specs.Kept.RunOnFlash, specs.Kept.page_of, specs.Kept.after_look, specs.Search.IsPageFor}
use Rattle.pk_run.proofs.Lookups.{first_is, page_starts, holds_piece}
use Rattle.pk_walk.{specs.declared.position.Position.Position, specs.declared.position.Position.TheVariants.Above, specs.Visible.is_wanted, specs.Visible.wanted, specs.Visible.WantsFrom}
use Rattle.pk_walk.{specs.Heads.Head, specs.Heads.IsNextWanted, specs.Heads.head_after, specs.Heads.held, specs.Steps.MayLoad, specs.Steps.StaysAt, specs.Steps.bytes_in, specs.Steps.seen_bytes}
use Rattle.pk_walk.specs.Walking.{Cursor, Follows, HasPassed, Reads, ReadsAll, at_start, read_of}
use Rattle.pk_walk.proofs.Wanting.{begun_at, narrowed, narrowed_behind, above_is_narrower}
use Rattle.pk_model.proofs.MapLemmas.{key_antisymm}

-- ---- numbers

-- the page of a place in the run exists
pub page_exists : (r : Kept) (place : ℕ) → IsShape r.shape → IsKept r → place < r.count → place / page_entries r.shape < length r.firsts
page_exists r place is kept h = (div-lt_iff_lt-mul (entries_some r.shape is)).1 (omega (arith, h, kept.entries))

-- where the pages end that were passed
module _ (loaded place size stop : ℕ) (is : loaded ≡ suc (place / size)) (far : stop ≡ loaded * size) where
  stops : stop ≡ place / size * size + size
  stops = far ∙ ap (λ (n : ℕ). n * size) is ∙ suc-mul (place / size) size

  pub page_before : size ≤ stop
  page_before = let e = stops in omega (arith, e)

  -- the last of them begins up to the place
  pub before_place : stop - size ≤ place
  before_place = let e = stops in let at = div-add-mod' place size in omega (arith, e, at)

  -- so the place in the page is what remains
  pub in_page : place - (stop - size) ≡ place % size
  in_page = let e = stops in let at = div-add-mod' place size in omega (arith, e, at)

entries_most : (shape : Shape) → IsShape shape → page_entries shape ≤ 512
entries_most shape is = let page : shape.page_bytes ≤ 16384 = is.page_most in omega arith

pub end_fits : (shape : Shape) (p size : ℕ) → IsShape shape → p < 1000000 → size ≡ page_entries shape → (p + 1) * size < 4294967296
end_fits shape p size is few same = search (arith, entries_most)

-- ---- the entry at a place

pub get_taken : (es : List Entry) (n i : ℕ) (e : Entry) → slice_get (take n es) i ≡ Some e → slice_get es i ≡ Some e
get_taken [] zero i e got = cc
get_taken [] (suc n) i e got = cc
get_taken (x ∷ es) zero i e got = cc
get_taken (x ∷ es) (suc n) zero e got = got
get_taken (x ∷ es) (suc n) (suc i) e got = get_taken es n i e got

pub get_dropped : (es : List Entry) (n i : ℕ) → slice_get (drop n es) i ≡ slice_get es (n + i)
get_dropped es zero i = ap (slice_get es) (let e : i ≡ 0 + i = omega arith in e)
get_dropped [] (suc n) i = refl
get_dropped (x ∷ es) (suc n) i = get_dropped es n i ∙ ap (slice_get (x ∷ es)) (let e : suc (n + i) ≡ suc n + i = omega arith in e)

module _ (r : Kept) (flash : Flash) (arena : Frames) (es : List Entry) (is : IsShape r.shape) (kept : IsKept r) (place : ℕ) (inside : place < r.count) where
  abbrev size : ℕ
  size = page_entries r.shape

  abbrev piece : List Entry
  piece = take size (drop (place / size * size) es)

  -- the page of the place holds its piece
  pub holds : RunOnFlash r flash arena es → (bytes : List ℕ) → page_at flash (page_of r (place / size)) ≡ whole bytes → IsMetaPage r.shape bytes r.level (place / size) piece
  holds s bytes here = holds_piece r flash arena es is s kept (place / size) bytes (page_exists r place is kept inside) here

  -- and more entries than the place has before it there
  pub entry_within : RunOnFlash r flash arena es → (bytes : List ℕ) → page_at flash (page_of r (place / size)) ≡ whole bytes → place % size < number_at 2 10 bytes
  entry_within s bytes here =
      let own = meta_again r.shape bytes r.level (place / size) piece is (holds s bytes here) in
      let long = length-take size (drop (place / size * size) es) in
      let left = length-drop (place / size * size) es in
      let low = mod-lt place (entries_some r.shape is) in
      let at = div-add-mod' place size in
      let count : number_at 2 10 bytes ≡ min size (length es - place / size * size) = own.count_is ∙ long ∙ ap (min size) left in
      rw count (omega (arith, low, at, inside, s.many))

-- ---- the bytes of a page

pub seen_nowhere : (leases : List ℕ) (i : ℕ) → slice_get leases i ≡ None → length leases ≤ i
seen_nowhere [] i e = omega arith
seen_nowhere (l ∷ leases) zero e = cc
seen_nowhere (l ∷ leases) (suc i) e = omega (arith, seen_nowhere leases i e)

-- a page has a frame, or none
pub has_frames : (leases : List ℕ) (i lease : ℕ) → slice_get leases i ≡ Some lease → slice_get leases i ≡ None → ⊥
has_frames leases i lease got none = cc

module _ (r : Kept) (flash : Flash) (arena : Frames) (es : List Entry) (s : RunOnFlash r flash arena es) (read : List ℕ)
    (p : ℕ) (exists : p < length r.firsts) (own : slice_get r.leases p ≡ None → page_at flash (page_of r p) ≡ whole read) where
  seen_page : (o : Option ℕ) → slice_get r.leases p ≡ o → page_at flash (page_of r p) ≡ whole (seen_bytes read arena o)
  seen_page None e = own e
  seen_page (Some lease) e = (s.frames p lease e).bytes

-- the cursor has the page that it came past last
pub page_seen : (r : Kept) (flash : Flash) (arena : Frames) (es : List Entry) (c : Cursor) (p : ℕ) → RunOnFlash r flash arena es → p < length r.firsts → c.loaded ≡ suc p
    → (slice_get r.leases p ≡ None → page_at flash (page_of r p) ≡ whole c.bytes) → page_at flash (page_of r p) ≡ whole (bytes_in r arena c)
page_seen r flash arena es c p s exists loaded own = search (arith, seen_page, c.bytes, r.leases)

-- if it has a frame nothing is read
pub come_pinned : (leases : List ℕ) (p lease a : ℕ) (old : BoardState) → slice_get leases p ≡ Some lease → a ≤ suc p → Reads (read_of leases a) (read_of leases (suc p)) old old
come_pinned leases p lease a old got behind = let there = slice_get_within leases p lease got in (0, omega (arith, there, behind), refl)

pub come_pinned_all : (leases : List ℕ) (p lease a : ℕ) (old : BoardState) → slice_get leases p ≡ Some lease → a ≤ suc p → ReadsAll (read_of leases a) (read_of leases (suc p)) old old
come_pinned_all leases p lease a old got behind = let there = slice_get_within leases p lease got in (0, omega (arith, there, behind), refl)

-- ---- moves of a cursor

not_found : ◌≡◌ {A = Bool} false true → ⊥
not_found e = cc

pub not_ended : ◌≡◌ {A = Head} None (Some None) → ⊥
not_ended e = cc

module _ (flash : Flash) (r : Kept) (es : List Entry) (position : Position) (c : Cursor) (is : IsShape r.shape) (f : Follows flash r es position c) where
  abbrev page : ℕ → ℕ
  page place = place / page_entries r.shape

  -- it has come past the page of its place
  pub Follows-loaded : (bytes : List ℕ) → page c.place < length r.firsts → (slice_get r.leases (page c.place) ≡ None → page_at flash (page_of r (page c.place)) ≡ whole bytes)
      → Follows flash r es position (record c { loaded = suc (page c.place); bytes = bytes })
  Follows-loaded bytes exists here = record { pages = exists; behind = omega arith; holds = λ none e. here none; left = f.left; ended = f.ended; sure = λ has. (omega arith, (f.sure has).1) }

  -- it has not
  pub Follows-kept : (bytes : List ℕ) → c.loaded ≤ page c.place → Follows flash r es position (record c { bytes = bytes })
  Follows-kept bytes before = record { pages = f.pages; behind = f.behind; holds = λ none e. absurd (omega (arith, before, e)); left = f.left; ended = f.ended; sure = f.sure }

  -- it is put to where the walk begins
  pub Follows-begun : (place : ℕ) → c.loaded ≡ 0 → c.head ≡ None
      → wanted (is_wanted position) es ≡ wanted (is_wanted position) (drop place es) → Follows flash r es position (record c { place = place })
  Follows-begun place none sought left = search (arith)

-- if the first wanted entry has to be looked for
pub sought_left : (flash : Flash) (r : Kept) (es : List Entry) (position : Position) (c : Cursor)
    → Follows flash r es position c → c.head ≡ None → wanted (is_wanted position) es ≡ wanted (is_wanted position) (drop c.place es)
sought_left flash r es position c f sought = subst (λ (h : Head). wanted (is_wanted position) es ≡ held h ++ wanted (is_wanted position) (drop c.place es)) sought f.left

-- what the load of its page asks
pub may_load : (flash : Flash) (r : Kept) (es : List Entry) (position : Position) (c : Cursor) (p : ℕ) → IsShape r.shape → IsKept r → c.place < r.count → Follows flash r es position c
    → p ≡ c.place / page_entries r.shape → MayLoad flash r p c
may_load flash r es position c p is kept inside f same =
    subst (λ (q : ℕ). MayLoad flash r q c) (sym same) (record { exists = page_exists r c.place is kept inside; behind = f.behind; holds = f.holds })

-- with the page of its place it is where it was
pub stays_loaded : (flash : Flash) (r : Kept) (c d : Cursor) → IsShape r.shape → c.place / page_entries r.shape < length r.firsts
    → (slice_get r.leases (c.place / page_entries r.shape) ≡ None → page_at flash (page_of r (c.place / page_entries r.shape)) ≡ whole d.bytes)
    → d ≡ record c { loaded = suc (c.place / page_entries r.shape); bytes = d.bytes } → StaysAt flash r c d
stays_loaded flash r c d is exists here moved = record {
  place = moved ∙ (λ i. record c { loaded = (sym moved i).loaded; bytes = d.bytes });
  follows = λ es position f. subst (Follows flash r es position) (sym moved) (Follows-loaded flash r es position c is f d.bytes exists here);
}

-- and without it, if it could not be read
pub stays_failed : (flash : Flash) (r : Kept) (c d : Cursor) (p : ℕ) → IsShape r.shape → p ≡ c.place / page_entries r.shape → c.loaded ≤ p → d ≡ record c { bytes = d.bytes } → StaysAt flash r c d
stays_failed flash r c d p is same before kept = search (arith)

-- fewer keys are wanted
above_held : (position : Position) (key : Key) (es : List Entry) (n : ℕ) (h : Head) → T (is_wanted position key) → ((e : Entry) → h ≡ Some (Some e) → key_cmp e.0 key ≡ Less → ⊥)
    → wanted (is_wanted position) es ≡ held h ++ wanted (is_wanted position) (drop n es) → wanted (is_wanted (Above key)) es ≡ held (head_after key h) ++ wanted (is_wanted (Above key)) (drop n es)
above_held position key es n (Some (Some e)) one high left =
    let v : Key → Bool = is_wanted (Above key) in
    let w : Key → Bool = is_wanted position in
    let within = above_is_narrower position key one in
    let rest = narrowed v w (drop n es) within in
    sym (narrowed v w es within) ∙ ap (wanted v) left
    ∙ elim (key_cmp e.0 key) as (λ o. key_cmp e.0 key ≡ o
    → (if is_gt o then e ∷ wanted v (wanted w (drop n es)) else wanted v (wanted w (drop n es))) ≡ held (if is_eq o then None else Some (Some e)) ++ wanted v (drop n es)) [
      | Less ↦ λ p. absurd (high e refl p)
      | Equal ↦ λ p. rest
      | Greater ↦ λ p. ap (λ (xs : List Entry). e ∷ xs) rest
    ] refl
above_held position key es n _ one high left = narrowed_behind (is_wanted (Above key)) (is_wanted position) es n (above_is_narrower position key one) left

behind_ended : (key : Key) (h : Head) → head_after key h ≡ Some None → h ≡ Some None
behind_ended key None e = cc
behind_ended key (Some None) e = refl
behind_ended key (Some (Some x)) e = absurd (neither (is_eq (key_cmp x.0 key)) e)
  where
    neither : (b : Bool) → ◌≡◌ {A = Head} (if b then None else Some (Some x)) (Some None) → ⊥
    neither true e = cc
    neither false e = cc

-- what is next stays so
next_behind : (position : Position) (key : Key) (h : Head) (e : Entry) → is_some h ≡ true → IsNextWanted position h e → IsNextWanted (Above key) (head_after key h) e
next_behind position key None e known next = cc
next_behind position key (Some None) e known next = tt
next_behind position key (Some (Some x)) e known next =
    elim (key_cmp x.0 key) as (λ o. key_cmp x.0 key ≡ o → IsNextWanted (Above key) (if is_eq o then None else Some (Some x)) e) [
      | Less ↦ λ p. next
      | Equal ↦ λ p. above_it (subst (λ (k : Key). key_cmp k e.0 ≡ Less) (key_antisymm x.0 key p) next)
      | Greater ↦ λ p. next
    ] refl
  where
    above_it : key_cmp key e.0 ≡ Less → T (is_gt (key_cmp e.0 key))
    above_it low = subst (λ (o : Ordering). T (is_gt o)) (sym (turned key e.0 Less low)) tt

pub Follows-above : (flash : Flash) (r : Kept) (es : List Entry) (position : Position) (c : Cursor) → Follows flash r es position c → (key : Key) → T (is_wanted position key)
    → ((e : Entry) → c.head ≡ Some (Some e) → key_cmp e.0 key ≡ Less → ⊥) → is_some c.head ≡ true → Follows flash r es (Above key) (record c { head = head_after key c.head })
Follows-above flash r es position c f key one high known = record {
  pages = f.pages;
  behind = f.behind;
  holds = f.holds;
  left = above_held position key es c.place c.head one high f.left;
  ended = λ e. f.ended (behind_ended key c.head e);
  sure = λ has. ((f.sure has).0, λ i e le got. next_behind position key c.head e known ((f.sure has).1 i e le got));
}

-- at the start it follows any run
pub Follows-start : (flash : Flash) (r : Kept) (es : List Entry) (position : Position) (c : Cursor) → Follows flash r es position (at_start c)
Follows-start flash r es position c = search (arith)

-- ---- where a walk begins in a run

pub page_begins : (r : Kept) (flash : Flash) (arena : Frames) (es : List Entry) (w : Key → Bool) (key : Key) (p : ℕ)
    → IsShape r.shape → WantsFrom w key → IsPageFor key r.firsts p → RunOnFlash r flash arena es
    → wanted w es ≡ wanted w (drop (p * page_entries r.shape) es)
page_begins r flash arena es w key p is from for_key s =
    let starts = page_starts r flash arena es is s p for_key.exists in
    let got = there es (p * page_entries r.shape) starts in
    begun_at w key es (p * page_entries r.shape) got.0 from s.rising got.1 (for_key.here (key_of got.0) (first_is r flash arena es is s p got.0 got.1))
  where
    there : (es : List Entry) (n : ℕ) → n < length es → (e : Entry) × (slice_get es n ≡ Some e)
    there [] n h = absurd (omega (arith, h))
    there (x ∷ es) zero h = (x, refl)
    there (x ∷ es) (suc n) h = there es n (omega (arith, h))

-- ---- reads

pub looked : (leases : List ℕ) (loaded p : ℕ) (old new : BoardState) → loaded ≤ p → new ≡ after_look (slice_get leases p) old → Reads (read_of leases loaded) (read_of leases (suc p)) old new
looked leases loaded p old new h e = search (arith, seen_nowhere, slice_get_within)

-- ---- a cursor that skips no page

-- the page of its place is the one after those that it has passed, or one of them
pub page_comes : (c : Cursor) → HasPassed c → c.place / page_entries c.shape ≤ c.loaded
page_comes c passed = div-le_of_le-mul (page_entries c.shape) (omega (arith, passed))

-- with the page of its place it has come past the entry at it
pub page_holds_place : (place size : ℕ) → 0 < size → place < suc (place / size) * size
page_holds_place place size some = let at = div-add-mod' place size in let low = mod-lt place some in omega (arith, at, low)

pub HasPassed-kept : (c d : Cursor) → d ≡ record c { loaded = d.loaded; bytes = d.bytes } → d.loaded ≡ c.loaded → HasPassed c → HasPassed d
HasPassed-kept c d same loaded passed = subst HasPassed (sym (same ∙ (λ i. record c { loaded = loaded i; bytes = d.bytes }))) passed

pub HasPassed-begun : (c d : Cursor) → d ≡ record c { place = d.place } → d.place ≡ 0 → HasPassed d
HasPassed-begun c d same none = omega (arith, none)

pub looked_all : (leases : List ℕ) (loaded p : ℕ) (old new : BoardState) → loaded ≡ p → new ≡ after_look (slice_get leases p) old → ReadsAll (read_of leases loaded) (read_of leases (suc p)) old new
looked_all leases loaded p old new h e = search (arith, seen_nowhere, slice_get_within)

-- after a look at the page of its place
pub head_here : (r : Kept) (c d : Cursor) → IsShape r.shape → c.shape ≡ r.shape
    → d ≡ record c { loaded = suc (c.place / page_entries r.shape); bytes = d.bytes } → d.place < d.loaded * page_entries d.shape
head_here r c d is same moved =
    subst (λ (x : Cursor). x.place < x.loaded * page_entries x.shape) (sym moved)
    (subst (λ (shape : Shape). c.place < suc (c.place / page_entries r.shape) * page_entries shape) (sym same) (page_holds_place c.place (page_entries r.shape) (entries_some r.shape is)))

pub head_all : (r : Kept) (c d : Cursor) (p : ℕ) (old new : BoardState) → c.shape ≡ r.shape → p ≡ c.place / page_entries r.shape → d.loaded ≡ suc p
    → (p ≤ c.loaded → ReadsAll (read_of r.leases c.loaded) (read_of r.leases (suc p)) old new) → HasPassed c → ReadsAll (read_of r.leases c.loaded) (read_of r.leases d.loaded) old new
head_all r c d p old new same page loaded every passed = search (arith, page_comes, r.leases)

-- after the last entry it has passed each page
pub all_come : (r : Kept) (flash : Flash) (arena : Frames) (es : List Entry) (position : Position) (c : Cursor)
    → IsShape r.shape → c.shape ≡ r.shape → RunOnFlash r flash arena es → Follows flash r es position c
    → r.count ≤ c.place → HasPassed c → c.loaded ≡ length r.firsts
all_come r flash arena es position c is same s f past passed = search (arith, ceil_most, entries_some, c.loaded, r.count, r.shape, s.pages, f.pages)
