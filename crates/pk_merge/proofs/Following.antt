-- A cursor in a run: the page of its place, the entry at it, and what its moves leave.
use Rattle.std.proofs.Common.{◌≡◌, ℕ, zero, suc, ◌-◌, ◌*◌, ◌/◌, ◌%◌, ◌<◌, ◌≤◌, min, sym, ap, subst, ◌∙◌, arith, true, false, List, [], ◌∷◌, length, take, drop, slice_get, Some, div-lt_iff_lt-mul}
use Rattle.std.{proofs.lemmas.Bool.Decides.nat_tests, proofs.lemmas.Nat.div-add-mod', proofs.lemmas.Nat.le-div, proofs.lemmas.List.length-take, proofs.lemmas.List.length-drop, proofs.Math.Nat.mod-lt}
use Rattle.pk_base.{specs.Shape.Shape, specs.Shape.IsShape, specs.Shape.page_entries, specs.Entry.Entry, specs.Fields.number_at, specs.Page.Flash, specs.Page.page_at, specs.Page.whole}
use Rattle.pk_base.proofs.ShapeLemmas.{entries_some}
use Rattle.pk_meta.{specs.PageChecks.IsMetaPage, specs.PageChecks.Decodes, proofs.PageLemmas.meta_again}
use Rattle.pk_pin.specs.Frames.{Frames}
use Rattle.pk_run.{specs.Kept.Kept, specs.Kept.IsKept, specs.Kept.RunOnFlash, specs.Kept.page_of, proofs.Lookups.holds_piece, proofs.Orders.slice_get-drop}
use Rattle.pk_merge.specs.Cursors.{Cursor, Follows, at_start, passed, own_page, wants_page}

-- ---- numbers

-- the page of a later place is not an earlier one
later_page : (place size : ℕ) → 0 < size → place / size ≤ suc place / size
later_page place size some = le-div (place / size) (suc place) size some (let e = div-add-mod' place size in omega (arith, e))

-- the page of a place in the run exists
pub page_exists : (r : Kept) (place : ℕ) → IsShape r.shape → IsKept r → place < r.count → place / page_entries r.shape < length r.firsts
page_exists r place is kept h = (div-lt_iff_lt-mul (entries_some r.shape is)).1 (omega (arith, h, kept.entries))

-- ---- the entry at a place

get_taken : (es : List Entry) (n i : ℕ) (e : Entry) → slice_get (take n es) i ≡ Some e → slice_get es i ≡ Some e
get_taken [] zero i e got = cc
get_taken [] (suc n) i e got = cc
get_taken (x ∷ es) zero i e got = cc
get_taken (x ∷ es) (suc n) zero e got = got
get_taken (x ∷ es) (suc n) (suc i) e got = get_taken es n i e got

module _ (r : Kept) (flash : Flash) (arena : Frames) (es : List Entry) (is : IsShape r.shape) (kept : IsKept r) (place : ℕ) (inside : place < r.count) where
  abbrev size : ℕ
  size = page_entries r.shape

  abbrev piece : List Entry
  piece = take size (drop (place / size * size) es)

  -- the page of the place holds its piece
  pub holds : RunOnFlash r flash arena es → (bytes : List ℕ) → page_at flash (page_of r (place / size)) ≡ whole bytes → IsMetaPage r.shape bytes r.level (place / size) piece
  holds s bytes here = holds_piece r flash arena es is s kept (place / size) bytes (page_exists r place is kept inside) here

  -- and more entries than the place has before it there
  pub entry_within : RunOnFlash r flash arena es → (bytes : List ℕ) → page_at flash (page_of r (place / size)) ≡ whole bytes → place % size < number_at 2 10 bytes
  entry_within s bytes here =
      let own = meta_again r.shape bytes r.level (place / size) piece is (holds s bytes here) in
      let long = length-take size (drop (place / size * size) es) in
      let left = length-drop (place / size * size) es in
      let low = mod-lt place (entries_some r.shape is) in
      let at = div-add-mod' place size in
      let count : number_at 2 10 bytes ≡ min size (length es - place / size * size) = own.count_is ∙ long ∙ ap (min size) left in
      rw count (omega (arith, low, at, inside, s.many))

  -- the entry at the place in its page is the one at the place in the run
  pub entry_there : (e : Entry) → slice_get piece (place % size) ≡ Some e → slice_get es place ≡ Some e
  entry_there e got =
      ap (slice_get es) (sym (div-add-mod' place size)) ∙ sym (slice_get-drop es (place / size * size) (place % size)) ∙ get_taken (drop (place / size * size) es) size (place % size) e got

-- ---- moves of a cursor

abbrev page : Kept → ℕ → ℕ
page r place = place / page_entries r.shape

same_page : (flash : Flash) (r : Kept) (c : Cursor) → Follows flash r c → own_page c ≡ page r c.place
same_page flash r c f = ap (λ (s : Shape). c.place / page_entries s) f.same_shape

pub has_come : (c : Cursor) → wants_page c ≡ false → own_page c < c.loaded
has_come c h = grind (arith, nat_tests)

pub has_not_come : (c : Cursor) → wants_page c ≡ true → c.loaded ≤ own_page c
has_not_come c h = grind (arith, nat_tests)

-- the bytes of the page that it has reached
pub page_here : (flash : Flash) (r : Kept) (c : Cursor) → Follows flash r c → wants_page c ≡ false → page_at flash (page_of r (page r c.place)) ≡ whole c.bytes
page_here flash r c f here =
    let come = has_come c here in
    let behind = f.behind in
    subst (λ (p : ℕ). page_at flash (page_of r p) ≡ whole c.bytes) (same_page flash r c f) (f.holds (omega (arith, come, behind)))

pub page_decodes : (flash : Flash) (arena : Frames) (r : Kept) (es : List Entry) (c : Cursor) → IsShape r.shape
    → IsKept r → RunOnFlash r flash arena es → Follows flash r c → c.place < r.count → wants_page c ≡ false
    → Decodes c.shape c.bytes
page_decodes flash arena r es c is kept s f inside here =
    subst (λ (shape : Shape). Decodes shape c.bytes) (sym f.same_shape) (r.level, page r c.place, _, holds r flash arena es is kept c.place inside s c.bytes (page_here flash r c f here))

pub page_has_place : (flash : Flash) (arena : Frames) (r : Kept) (es : List Entry) (c : Cursor) → IsShape r.shape
    → IsKept r → RunOnFlash r flash arena es → Follows flash r c → c.place < r.count → wants_page c ≡ false
    → c.place % page_entries c.shape < number_at 2 10 c.bytes
page_has_place flash arena r es c is kept s f inside here =
    subst (λ (shape : Shape). c.place % page_entries shape < number_at 2 10 c.bytes) (sym f.same_shape) (entry_within r flash arena es is kept c.place inside s c.bytes (page_here flash r c f here))

-- the entry read from its page is the one at its place
pub head_is : (flash : Flash) (arena : Frames) (r : Kept) (es : List Entry) (c : Cursor) (e : Entry) → IsShape r.shape → IsKept r → c.place < r.count → wants_page c ≡ false
    → ((level index : ℕ) (entries : List Entry) → IsMetaPage c.shape c.bytes level index entries → slice_get entries (c.place % page_entries c.shape) ≡ Some e)
    → RunOnFlash r flash arena es → Follows flash r c → slice_get es c.place ≡ Some e
head_is flash arena r es c e is kept inside here read s f =
    let held = holds r flash arena es is kept c.place inside s c.bytes (page_here flash r c f here) in
    let own = read _ _ _ (subst (λ (shape : Shape). IsMetaPage shape c.bytes r.level (page r c.place) (take (page_entries r.shape) (drop (page r c.place * page_entries r.shape) es)))
    (sym f.same_shape) held) in
    entry_there r flash arena es is kept c.place inside e
    (subst (λ (shape : Shape). slice_get (take (page_entries r.shape) (drop (page r c.place * page_entries r.shape) es)) (c.place % page_entries shape) ≡ Some e) f.same_shape own)

module _ (flash : Flash) (r : Kept) (c : Cursor) (is : IsShape r.shape) (f : Follows flash r c) where
  -- it has reached the page of its place
  pub Follows-loaded : IsKept r → c.place < r.count → (bytes : List ℕ) → page_at flash (page_of r (own_page c)) ≡ whole bytes → Follows flash r (record c { loaded = suc (own_page c); bytes = bytes })
  Follows-loaded kept inside bytes here = record {
    same_shape = f.same_shape;
    within = f.within;
    pages = rw (same_page flash r c f) (page_exists r c.place is kept inside);
    behind = omega arith;
    holds = λ e. here;
  }

  -- it has not
  pub Follows-kept : (bytes : List ℕ) → wants_page c ≡ true → Follows flash r (record c { bytes = bytes })
  Follows-kept bytes wants = record {
    same_shape = f.same_shape;
    within = f.within;
    pages = f.pages;
    behind = f.behind;
    holds = λ e. absurd (let before = has_not_come c wants in omega (arith, before, e));
  }

  -- it moves past an entry
  pub Follows-passed : c.place < r.count → Follows flash r (passed c)
  Follows-passed inside =
      let later = later_page c.place (page_entries c.shape) (subst (λ (s : Shape). 0 < page_entries s) (sym f.same_shape) (entries_some r.shape is)) in
      let behind = f.behind in
      record {
        same_shape = f.same_shape;
        within = omega (arith, inside);
        pages = f.pages;
        behind = omega (arith, behind, later);
        holds = λ loaded.
            let same : own_page (passed c) ≡ own_page c = omega (arith, loaded, later, behind) in
            subst (λ (p : ℕ). page_at flash (page_of r p) ≡ whole c.bytes) (sym same) (f.holds (omega (arith, loaded, same)));
      }

-- at the start it follows any run
pub Follows-start : (flash : Flash) (r : Kept) (c : Cursor) → c.shape ≡ r.shape → Follows flash r (at_start c)
Follows-start flash r c same = record { same_shape = same; within = omega arith; pages = omega arith; behind = omega arith; holds = λ e. absurd (omega (arith, e)) }
