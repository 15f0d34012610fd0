-- A search in a run for the first wanted entry: what holds at each step of it, and what it finds.
use Rattle.std.proofs.Common.{◌≡◌, ℕ, suc, ◌+◌, ◌/◌, ◌%◌, ◌<◌, ◌≤◌, refl, sym, ap, subst, ◌∙◌, arith, Bool, true, List, [], ◌∷◌, drop, length, slice_get, Some, None}
use Rattle.pk_base.{specs.Shape.IsShape, specs.Shape.page_entries, specs.Entry.Entry, specs.Seen.entry as seen, specs.declared.entry.Entry.Entry as RustEntry, proofs.Logic.ok_same}
use Rattle.pk_base.specs.Page.{Flash, page_at, whole}
use Rattle.pk_meta.specs.PageChecks.{IsMetaPage}
use Rattle.pk_nand.{specs.BoardState.BoardState, specs.Operations.ReadFailed, specs.Counts.after_reads}
use Rattle.pk_pin.specs.Frames.{Frames}
use Rattle.pk_run.specs.Kept.{Kept, IsKept, RunOnFlash, page_of}
use Rattle.pk_level.{specs.Levels.RunsOnFlash, proofs.Looking.reads_more}
use Rattle.pk_walk.{specs.declared.position.Position.Position, specs.Visible.is_wanted, specs.Visible.wanted, specs.Visible.first_of, proofs.Wanting.first_here, proofs.Wanting.none_here}
use Rattle.pk_walk.specs.Walking.{Cursor, Follows, HasPassed, Reads, ReadsAll, ReadsFail, SkipsNoPage, read_of}
use Rattle.pk_walk.specs.Steps.{FailsToShow, FindsIn, GoesOn, IsAt, CursorLooks, CursorMoves, StaysAt, bytes_in}
use Rattle.pk_walk.proofs.Following.{HasPassed-kept, all_come, sought_left}
use Rattle.pk_walk.proofs.Moving.{AtPage, entry_here, found_at, found_wanted, moved_follows, moved_left, moved_sought, moved_within}

-- ---- reads

pub Reads-none : (n : ℕ) (old : BoardState) → Reads n n old old
Reads-none n old = (0, omega arith, refl)

pub Reads-more : (a b c : ℕ) (old now next : BoardState) → Reads a b old now → Reads b c now next → Reads a c old next
Reads-more a b c old now next first more =
    (more.0 + first.0, omega (arith, first.1, more.1), more.2 ∙ ap (λ (x : BoardState). after_reads more.0 x) first.2 ∙ reads_more more.0 first.0 old)

pub Reads-failed : (a b : ℕ) (old now next : BoardState) (page : ℕ) → Reads a b old now → ReadFailed now next page → ReadsFail a b old next
Reads-failed a b old now next page first failed = (first.0, page, first.1, subst (λ (x : BoardState). ReadFailed x next page) first.2 failed)

pub Reads-pages : (a b : ℕ) (old now : BoardState) → Reads a b old now → now.pages ≡ old.pages
Reads-pages a b old now reads = ap (λ (x : BoardState). x.pages) reads.2

pub ReadsAll-none : (n : ℕ) (old : BoardState) → ReadsAll n n old old
ReadsAll-none n old = (0, omega arith, refl)

pub ReadsAll-more : (a b c : ℕ) (old now next : BoardState) → ReadsAll a b old now → ReadsAll b c now next → ReadsAll a c old next
ReadsAll-more a b c old now next first more =
    (more.0 + first.0, omega (arith, first.1, more.1), more.2 ∙ ap (λ (x : BoardState). after_reads more.0 x) first.2 ∙ reads_more more.0 first.0 old)

-- reads change their number alone, and a failed one the counts of faults
pub Reads-rest : (a b : ℕ) (old new : BoardState) → Reads a b old new
    → new ≡ record old { reads = new.reads; flash_faults = new.flash_faults; read_faults = new.read_faults; failed_at = new.failed_at }
Reads-rest a b old new reads =
    subst (λ (x : BoardState). x ≡ record old { reads = x.reads; flash_faults = x.flash_faults; read_faults = x.read_faults; failed_at = x.failed_at }) (sym reads.2) refl

pub ReadsFail-rest : (a b : ℕ) (old new : BoardState) → ReadsFail a b old new
    → new ≡ record old { reads = new.reads; flash_faults = new.flash_faults; read_faults = new.read_faults; failed_at = new.failed_at }
ReadsFail-rest a b old new (k, page, few, failed) = search (failed.rest)

-- ---- a run has one list of entries

pub one_list : (r : Kept) (flash : Flash) (arena : Frames) (xs ys : List Entry) → RunOnFlash r flash arena xs → RunOnFlash r flash arena ys → xs ≡ ys
one_list r flash arena xs ys s t = ok_same xs ys (sym s.read ∙ t.read)

-- of several runs
pub one_of_each : (flash : Flash) (arena : Frames) (rs : List Kept) (xss yss : List (List Entry)) → RunsOnFlash flash arena rs xss → RunsOnFlash flash arena rs yss → xss ≡ yss
one_of_each flash arena [] [] [] s t = refl
one_of_each flash arena [] (xs ∷ xss) yss s t = absurd s
one_of_each flash arena (r ∷ rs) [] yss s t = absurd s
one_of_each flash arena (r ∷ rs) (xs ∷ xss) (ys ∷ yss) s t = λ i. one_list r flash arena xs ys s.0 t.0 i ∷ one_of_each flash arena rs xss yss s.1 t.1 i
one_of_each flash arena _ _ _ s t = absurd t

-- ---- the search

pub no_answer : (e : RustEntry) → Some e ≡ None → ⊥
no_answer e is = cc

pub same_answer : (e x : RustEntry) → Some e ≡ Some x → e ≡ x
same_answer e x is = cc

pub record Seeking (r : Kept) (arena : Frames) (position : Position) (old now : BoardState) (first c : Cursor) : Type 0 where
  pub es : List Entry
  pub stands : RunOnFlash r old.pages arena es
  pub follows : Follows old.pages r es position c
  pub sought : c.head ≡ None
  pub shape : c.shape ≡ first.shape
  pub reads : Reads (read_of r.leases first.loaded) (read_of r.leases c.loaded) old now
  pub all : SkipsNoPage position → HasPassed first → HasPassed c × ReadsAll (read_of r.leases first.loaded) (read_of r.leases c.loaded) old now

module _ {r : Kept} {arena : Frames} {position : Position} {old : BoardState} {first : Cursor} where
  pub Seeking-start : {c : Cursor} {es : List Entry} → RunOnFlash r old.pages arena es → Follows old.pages r es position first
      → ((flash : Flash) (arena : Frames) (es : List Entry) → RunOnFlash r flash arena es → Follows flash r es position first → Follows flash r es position c)
      → c ≡ record first { place = c.place } → (SkipsNoPage position → HasPassed first → HasPassed c) → first.head ≡ None → Seeking r arena position old old first c
  Seeking-start {c} {es} s f begun same passed none = record {
    sought = ap (λ (x : Cursor). x.head) same ∙ none;
    es = es;
    stands = s;
    follows = begun old.pages arena es s f;
    shape = ap (λ (x : Cursor). x.shape) same;
    reads = (0, (let e = ap (λ (x : Cursor). read_of r.leases x.loaded) same in omega (arith, e)), refl);
    all = λ none before. (passed none before, (0, (let e = ap (λ (x : Cursor). read_of r.leases x.loaded) same in omega (arith, e)), refl));
  }

  module _ {now : BoardState} {c : Cursor} (at : Seeking r arena position old now first c) where
    pub stands_now : RunOnFlash r now.pages arena at.es
    stands_now = subst (λ (flash : Flash). RunOnFlash r flash arena at.es) (sym (Reads-pages _ _ old now at.reads)) at.stands

    pub follows_now : Follows now.pages r at.es position c
    follows_now = subst (λ (flash : Flash). Follows flash r at.es position c) (sym (Reads-pages _ _ old now at.reads)) at.follows

    -- any list of the run is this one
    pub follows_any : (es : List Entry) → RunOnFlash r old.pages arena es → Follows old.pages r es position c
    follows_any es s = subst (λ (xs : List Entry). Follows old.pages r xs position c) (one_list r old.pages arena at.es es at.stands s) at.follows

    any_left : (es : List Entry) → RunOnFlash r old.pages arena es → wanted (is_wanted position) es ≡ wanted (is_wanted position) (drop c.place es)
    any_left es s = sought_left old.pages r es position c (follows_any es s) at.sought

    -- all entries are passed
    pub Seeking-end : (es : List Entry) → RunOnFlash r old.pages arena es → r.count ≤ c.place → None ≡ first_of (wanted (is_wanted position) es)
    Seeking-end es s past = none_here (is_wanted position) es c.place (omega (arith, s.many, past)) (any_left es s)

    -- a page was looked at, and the cursor has its bytes
    pub Seeking-looked : {next : BoardState} {d : Cursor} → StaysAt now.pages r c d → CursorLooks r arena now next c d → Seeking r arena position old next first d
    Seeking-looked {next} {d} stays looks = record {
      es = at.es;
      stands = at.stands;
      follows = subst (λ (flash : Flash). Follows flash r at.es position d) (Reads-pages _ _ old now at.reads) (stays.follows at.es position follows_now);
      sought = ap (λ (x : Cursor). x.head) stays.place ∙ at.sought;
      shape = ap (λ (x : Cursor). x.shape) stays.place ∙ at.shape;
      reads = Reads-more _ _ _ old now next at.reads looks.reads;
      all = λ none before.
          let far = at.all none before in
          let here = looks.here in
          (omega (arith, here), ReadsAll-more _ _ _ old now next far.1 (looks.all far.0));
    }

    -- it is the page of its place
    pub looked_page : {next : BoardState} {d : Cursor} → first.shape ≡ r.shape → c.place < r.count → StaysAt now.pages r c d → CursorLooks r arena now next c d → AtPage r old.pages arena d
    looked_page {next} {d} same inside stays looks = search (arith)

    -- the cursor goes on from the place that it has reached
    pub Seeking-goes_on : GoesOn old.pages arena r position first c
    Seeking-goes_on = record { follows = follows_any; shape = at.shape; passed = λ none before. (at.all none before).0 }

    -- and if no page could be read, it is as before
    follows_failed : (d : Cursor) → ((es : List Entry) (p : Position) → Follows now.pages r es p c → Follows now.pages r es p d)
        → (es : List Entry) → RunOnFlash r old.pages arena es → Follows old.pages r es position d
    follows_failed d moved es s =
        subst (λ (xs : List Entry). Follows old.pages r xs position d) (one_list r old.pages arena at.es es at.stands s)
        (subst (λ (flash : Flash). Follows flash r at.es position d) (Reads-pages _ _ old now at.reads) (moved at.es position follows_now))

    pub Seeking-stays : {d : Cursor} → StaysAt now.pages r c d → d.loaded ≡ c.loaded → GoesOn old.pages arena r position first d
    Seeking-stays {d} stays loaded = record {
      follows = follows_failed d stays.follows;
      shape = ap (λ (x : Cursor). x.shape) stays.place ∙ at.shape;
      passed = λ none before. HasPassed-kept c d stays.place loaded (at.all none before).0;
    }

    pub Seeking-fails : {next : BoardState} {d : Cursor} → FailsToShow r now next c d → ReadsFail (read_of r.leases first.loaded) (read_of r.leases d.loaded) old next
    Seeking-fails {next} {d} fails =
        subst (λ (n : ℕ). ReadsFail (read_of r.leases first.loaded) (read_of r.leases n) old next) (sym fails.kept)
        (Reads-failed _ _ old now next (page_of r (c.place / page_entries r.shape)) at.reads fails.failed)

    -- after all entries it has passed all pages
    pub Seeking-ended : IsShape r.shape → first.shape ≡ r.shape → r.count ≤ c.place → SkipsNoPage position → HasPassed first → c.loaded ≡ length r.firsts
    Seeking-ended is same past none before = all_come r old.pages arena at.es position c is (at.shape ∙ same) at.stands at.follows past (at.all none before).0

    -- no entry remains
    pub Seeking-none : IsShape r.shape → first.shape ≡ r.shape → r.count ≤ c.place → FindsIn r arena position old now first c None
    Seeking-none is same past = record {
      found = λ es s. Seeking-end es s past;
      at = λ e is. absurd (no_answer e (sym is));
      past = λ e. past;
      sought = at.sought;
      reads = at.reads;
      all = λ none before. (at.all none before).1;
      ended = λ e none before. Seeking-ended is same past none before;
    }

    -- the cursor has the page of its place, and goes on in it
    module _ (is : IsShape r.shape) (kept : IsKept r) (here : AtPage r old.pages arena c) {d : Cursor} {found : Bool} (m : CursorMoves position (bytes_in r arena c) c d found) where
      same_loaded : c.loaded ≡ d.loaded
      same_loaded = sym (ap (λ (x : Cursor). x.loaded) m.cursor)

      pub Seeking-moved : Seeking r arena position old now first d
      Seeking-moved = record {
        es = at.es;
        stands = at.stands;
        follows = moved_follows is kept at.stands here m at.sought at.follows;
        sought = moved_sought is kept at.stands here m at.sought;
        shape = ap (λ (x : Cursor). x.shape) m.cursor ∙ at.shape;
        reads = subst (λ (n : ℕ). Reads (read_of r.leases first.loaded) (read_of r.leases n) old now) same_loaded at.reads;
        all = λ none before. (
          moved_within is kept at.stands here m,
          subst (λ (n : ℕ). ReadsAll (read_of r.leases first.loaded) (read_of r.leases n) old now) same_loaded (at.all none before).1,
        );
      }

      -- to the first wanted entry
      pub Seeking-finds : (there : found ≡ true) {e : RustEntry}
          → ((level index : ℕ) (entries : List Entry) → IsMetaPage d.shape (bytes_in r arena d) level index entries → slice_get entries (d.place % page_entries d.shape) ≡ Some (seen e))
          → FindsIn r arena position old now first d (Some e)
      Seeking-finds there {e} shows = record {
        found = λ es s.
            let left = moved_left is kept s here m (any_left es s) in
            let got = found_here es s in
            first_here (is_wanted position) es d.place (seen e) got (found_wanted is kept s here m there (seen e) got) left;
        at = λ x same. subst (λ (y : RustEntry). IsAt r old.pages arena d (seen y)) (same_answer e x same) (record { inside = own.inside; loaded = own.loaded; is = found_here });
        past = λ is. absurd (no_answer e is);
        sought = Seeking-moved.sought;
        reads = Seeking-moved.reads;
        all = λ none before. (Seeking-moved.all none before).1;
        ended = λ is none before. absurd (no_answer e is);
      }
        where
          own : AtPage r old.pages arena d
          own = found_at is kept at.stands here m there

          found_here : (es : List Entry) → RunOnFlash r old.pages arena es → slice_get es d.place ≡ Some (seen e)
          found_here es s = entry_here is kept s (found_at is kept s here m there) (seen e) shows
