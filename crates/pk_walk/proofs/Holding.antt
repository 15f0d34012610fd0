-- A cursor that knows the first wanted entry of its run, and is after it.
use Rattle.std.proofs.Common.{◌≡◌, ℕ, zero, suc, ◌*◌, ◌/◌, ◌%◌, ◌<◌, ◌≤◌, refl, sym, ap, subst, ◌∙◌, arith, Bool, true, false, if◌then◌else◌, T, is_some, List, [], ◌∷◌, drop, slice_get, option_map}
use Rattle.std.proofs.Common.{Option, Some, None, div-lt_iff_lt-mul}
use Rattle.std.{specs.Option.IsSome, proofs.lemmas.Nat.div-add-mod', proofs.lemmas.Nat.le-div, specs.FinMap.Entries.is_sorted, specs.declared.cmp.Ordering.TheVariants.Less}
use Rattle.pk_base.{specs.Key.key_cmp, specs.Shape.Shape, specs.Shape.IsShape, specs.Shape.page_entries, specs.Entry.Entry, specs.Seen.entry as seen, specs.declared.entry.Entry.Entry as RustEntry}
use Rattle.pk_base.{specs.Page.Flash, specs.Page.page_at, proofs.Logic.is_true, proofs.Logic.left_part, proofs.Logic.right_part, proofs.ShapeLemmas.entries_some}
use Rattle.pk_meta.specs.PageChecks.{IsMetaPage}
use Rattle.pk_nand.specs.BoardState.{BoardState}
use Rattle.pk_pin.specs.Frames.{Frames}
use Rattle.pk_run.specs.Kept.{Kept, IsKept, RunOnFlash, page_of}
use Rattle.pk_walk.{specs.declared.position.Position.Position, specs.Visible.is_wanted, specs.Visible.wanted, specs.Visible.first_of, specs.Heads.Head, specs.Heads.IsNextWanted}
use Rattle.pk_walk.{specs.Walking.Cursor, specs.Walking.Follows, specs.Walking.read_of, proofs.Moving.AtPage, proofs.Moving.entry_here}
use Rattle.pk_walk.specs.Steps.{FindsIn, GoesOn, IsAt, MaySeek, ShowsIn, bytes_in, holding}
use Rattle.pk_walk.proofs.Wanting.{above_at, dropped, first_here, first_wanted, same_entry}
use Rattle.pk_walk.proofs.Following.{all_come, page_exists, page_holds_place, page_seen, sought_left}
use Rattle.pk_walk.proofs.Seeking.{Reads-none, ReadsAll-none, no_answer, one_list, same_answer}

not_none : (e : Entry) → ◌≡◌ {A = Head} (Some (Some e)) (Some None) → ⊥
not_none e is = cc

-- the keys of a list rise
rises : (es : List Entry) (n i : ℕ) (e x : Entry) → T (is_sorted key_cmp es) → n < i → slice_get es n ≡ Some e → slice_get es i ≡ Some x → key_cmp e.0 x.0 ≡ Less
rises [] n i e x up less got next = cc
rises (y ∷ es) n zero e x up less got next = absurd (omega (arith, less))
rises (y ∷ es) zero (suc i) e x up less got next = subst (λ (z : Entry). key_cmp z.0 x.0 ≡ Less) (same_entry y e got) (above_at y.0 es i x (left_part _ _ up) next)
rises (y ∷ es) (suc n) (suc i) e x up less got next = rises es n i e x (right_part _ _ up) (omega (arith, less)) got next

-- what was found at the place is held, and the cursor goes past it
pub holds_entry : (r : Kept) (flash : Flash) (arena : Frames) (es : List Entry) (position : Position) (d : Cursor) (e : Entry)
    → IsShape r.shape → RunOnFlash r flash arena es → Follows flash r es position d
    → d.head ≡ None → IsAt r flash arena d e → Some e ≡ first_of (wanted (is_wanted position) es) → Follows flash r es position (holding (Some e) d)
holds_entry r flash arena es position d e is s f sought at found =
    let some = entries_some r.shape is in
    let up : d.place / page_entries r.shape ≤ suc d.place / page_entries r.shape =
    le-div (d.place / page_entries r.shape) (suc d.place) (page_entries r.shape) some (let place = div-add-mod' d.place (page_entries r.shape) in omega (arith, place)) in
    let loaded = at.loaded in
    let one : is_wanted position e.0 ≡ true = is_true _ (first_wanted (is_wanted position) es e (sym found)) in
    record {
      pages = f.pages;
      behind = omega (arith, loaded, up);
      holds = λ none here.
          let same : d.place / page_entries r.shape ≡ suc d.place / page_entries r.shape = omega (arith, here, loaded) in
          ap (λ (p : ℕ). page_at flash (page_of r p)) (sym same) ∙ f.holds (ap (slice_get r.leases) same ∙ none) loaded;
      left = sought_left flash r es position d f sought ∙ ap (wanted (is_wanted position)) (dropped es d.place e (at.is es s))
          ∙ ap (λ (b : Bool). if b then e ∷ wanted (is_wanted position) (drop (suc d.place) es) else wanted (is_wanted position) (drop (suc d.place) es)) one;
      ended = λ is. absurd (not_none e is);
      sure = λ has. (omega (arith, loaded), λ i x le got. rises es d.place i e x s.rising (omega (arith, le)) (at.is es s) got);
    }

-- or that there is none
pub holds_none : (r : Kept) (flash : Flash) (es : List Entry) (position : Position) (d : Cursor)
    → Follows flash r es position d → d.head ≡ None → r.count ≤ d.place → Follows flash r es position (holding None d)
holds_none r flash es position d f sought past = record {
  pages = f.pages;
  behind = f.behind;
  holds = f.holds;
  left = sought_left flash r es position d f sought;
  ended = λ is. past;
  sure = λ has. ((f.sure has).0, λ i e le got. tt);
}

module _ {r : Kept} {arena : Frames} {position : Position} {old new : BoardState} {c d : Cursor} where
  -- it was looked for
  shows_held : (answer : Option RustEntry) → FindsIn r arena position old new c d answer → ShowsIn r position old new c (holding (option_map seen answer) d)
  shows_held None f = record { known = refl; reads = f.reads; all = f.all; ended = λ is none before. f.ended refl none before }
  shows_held (Some e) f = record { known = refl; reads = f.reads; all = f.all; ended = λ is none before. absurd (not_none (seen e) is) }

  goes_on_held : (answer : Option RustEntry) → IsShape r.shape → c.shape ≡ r.shape → FindsIn r arena position old new c d answer → GoesOn old.pages arena r position c d
      → GoesOn old.pages arena r position c (holding (option_map seen answer) d)
  goes_on_held None is same f on = search (holds_none, on.follows, f.sought, f.past)
  goes_on_held (Some e) is same f on = record {
    follows = λ es s. holds_entry r old.pages arena es position d (seen e) is s (on.follows es s) f.sought (f.at e refl) (f.found es s);
    shape = on.shape;
    passed = λ none before.
        let loaded = (f.at e refl).loaded in
        let far = page_holds_place d.place (page_entries r.shape) (entries_some r.shape is) in
        let here : suc d.place ≤ d.loaded * page_entries r.shape = subst (λ (n : ℕ). suc d.place ≤ n * page_entries r.shape) (sym loaded) (omega (arith, far)) in
        subst (λ (shape : Shape). suc d.place ≤ d.loaded * page_entries shape) (sym (on.shape ∙ same)) here;
  }

  module _ {answer : Option RustEntry} (f : FindsIn r arena position old new c d answer) {e : Cursor} (held : e ≡ holding (option_map seen answer) d) where
    pub holding_shows : ShowsIn r position old new c e
    holding_shows = subst (ShowsIn r position old new c) (sym held) (shows_held answer f)

    pub holding_goes_on : IsShape r.shape → c.shape ≡ r.shape → GoesOn old.pages arena r position c d → GoesOn old.pages arena r position c e
    holding_goes_on is same on = subst (GoesOn old.pages arena r position c) (sym held) (goes_on_held answer is same f on)

-- it was known
module _ {r : Kept} {arena : Frames} {position : Position} {old : BoardState} {c : Cursor} (may : MaySeek r arena position old c) where
  pub known_shows : is_some c.head ≡ true → IsShape r.shape → ShowsIn r position old old c c
  known_shows known is = record {
    known = known;
    reads = Reads-none (read_of r.leases c.loaded) old;
    all = λ none before. ReadsAll-none (read_of r.leases c.loaded) old;
    ended = λ ended none before. all_come r old.pages arena may.entries position c is may.shape_is may.stands may.follows (may.follows.ended ended) before;
  }

  pub known_goes_on : GoesOn old.pages arena r position c c
  known_goes_on = record {
    follows = λ ys t. subst (λ (xs : List Entry). Follows old.pages r xs position c) (one_list r old.pages arena may.entries ys may.stands t) may.follows;
    shape = refl;
    passed = λ none before. before;
  }

-- it is not, but the entry at the place is the next
module _ {r : Kept} {arena : Frames} {position : Position} {old : BoardState} {c : Cursor} (may : MaySeek r arena position old c) (is : IsShape r.shape) (kept : IsKept r)
    (sought : c.head ≡ None) (ready : (c.has_found ≡ true) × (c.place < r.count) × (c.place < c.loaded * page_entries c.shape)) where
  pub ready_loaded : c.loaded ≡ suc (c.place / page_entries r.shape)
  ready_loaded =
      let room = subst (λ (shape : Shape). c.place < c.loaded * page_entries shape) may.shape_is ready.2 in
      let low : c.place / page_entries r.shape < c.loaded = (div-lt_iff_lt-mul (entries_some r.shape is)).1 room in
      let most = may.follows.behind in
      omega (arith, low, most)

  pub ready_here : AtPage r old.pages arena c
  ready_here = search (page_seen r old.pages arena may.entries c (c.place / page_entries r.shape) may.stands (page_exists r c.place is kept ready.1) ready_loaded (λ none. may.follows.holds none ready_loaded), ready_loaded)

  pub ready_finds : {e : RustEntry}
      → ((level index : ℕ) (entries : List Entry) → IsMetaPage c.shape (bytes_in r arena c) level index entries → slice_get entries (c.place % page_entries c.shape) ≡ Some (seen e))
      → FindsIn r arena position old old c c (Some e)
  ready_finds {e} shows = record {
    found = λ ys t. subst (λ (xs : List Entry). Some (seen e) ≡ first_of (wanted (is_wanted position) xs)) (one_list r old.pages arena may.entries ys may.stands t) first;
    at = λ x is_it. subst (λ (y : RustEntry). IsAt r old.pages arena c (seen y)) (same_answer e x is_it) (record { inside = ready.1; loaded = ready_loaded; is = there });
    past = λ none. absurd (no_answer e none);
    sought = sought;
    reads = Reads-none (read_of r.leases c.loaded) old;
    all = λ none before. ReadsAll-none (read_of r.leases c.loaded) old;
    ended = λ none. absurd (no_answer e none);
  }
    where
      there : (ys : List Entry) → RunOnFlash r old.pages arena ys → slice_get ys c.place ≡ Some (seen e)
      there ys t = entry_here is kept t ready_here (seen e) shows

      first : Some (seen e) ≡ first_of (wanted (is_wanted position) may.entries)
      first = search (arith, there, first_here, is_true, sought_left, c.place)

-- if it is not known it has to be looked for
pub unknown : (h : Head) → is_some h ≡ false → h ≡ None
unknown None e = refl
unknown (Some found) e = cc

-- there is room after an entry
pub place_fits : {r : Kept} {arena : Frames} {position : Position} {old new : BoardState} {c d : Cursor} (answer : Option RustEntry)
    → FindsIn r arena position old new c d answer → IsSome answer → d.place < r.count
place_fits None f some = cc
place_fits (Some e) f some = (f.at e refl).inside
