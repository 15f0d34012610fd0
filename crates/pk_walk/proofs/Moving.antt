-- A cursor that has the page of its place: what the page says of the run, and where the cursor goes in it.
use Rattle.std.proofs.Common.{◌≡◌, ℕ, zero, suc, ◌+◌, ◌-◌, ◌*◌, ◌/◌, ◌%◌, ◌<◌, ◌≤◌, min, refl, sym, ap, subst, ◌∙◌, arith, Bool, true, false, List, [], ◌∷◌, length, take, drop, ◌++◌, slice_get}
use Rattle.std.proofs.Common.{Option, Some, None, div-lt_iff_lt-mul}
use Rattle.std.proofs.lemmas.List.{length-take, length-drop}
use Rattle.std.{specs.Prelude.nat_lt, proofs.lemmas.Nat.div-add-mod', proofs.lemmas.Nat.le-div, proofs.lemmas.Bool.ltb-true, proofs.lemmas.Bool.ltb-false}
use Rattle.pk_base.{specs.Key.Key, specs.Shape.Shape, specs.Shape.IsShape, specs.Shape.page_entries, specs.Entry.Entry, specs.Entry.key_of, specs.EntryBytes.entry_at, specs.EntryBytes.cell_at}
use Rattle.pk_base.{specs.Fields.number_at, specs.Page.Flash, specs.Page.IsFlash, specs.Page.page_at, specs.Page.whole, proofs.EntryLemmas.key_of_at, proofs.ShapeLemmas.entries_some}
use Rattle.pk_meta.{specs.PageChecks.Decodes, specs.PageChecks.IsMetaPage, proofs.PageLemmas.meta_again, proofs.FindLemmas.cell_entry, proofs.FindLemmas.place_key}
use Rattle.pk_pin.specs.Frames.{Frames}
use Rattle.pk_run.specs.Kept.{Kept, IsKept, RunOnFlash, page_of}
use Rattle.pk_walk.{specs.declared.position.Position.Position, specs.Visible.is_wanted, specs.Visible.wanted, specs.Heads.Head, specs.Heads.IsNextWanted, specs.Heads.held, proofs.Wanting.passed_by}
use Rattle.pk_walk.{specs.Walking.Cursor, specs.Walking.Follows, specs.Steps.HasPage, specs.Steps.IsFirstWanted, specs.Steps.CursorMoves, specs.Steps.bytes_in}
use Rattle.pk_walk.proofs.Following.{entry_within, get_taken, get_dropped, holds, not_ended, sought_left}

-- ---- entries that are passed

inside_is : (es : List Entry) (n : ℕ) → n < length es → (e : Entry) × (slice_get es n ≡ Some e)
inside_is [] n h = absurd (omega (arith, h))
inside_is (x ∷ es) zero h = (x, refl)
inside_is (x ∷ es) (suc n) h = inside_is es n (omega (arith, h))

-- places whose keys are not wanted are passed
pub passed_many : (w : Key → Bool) (es : List Entry) (n m : ℕ) → n + m ≤ length es → ((k : ℕ) (e : Entry) → k < m → slice_get es (n + k) ≡ Some e → w e.0 ≡ false)
    → wanted w es ≡ wanted w (drop n es) → wanted w es ≡ wanted w (drop (n + m) es)
passed_many w es n zero room none left = let e : n + 0 ≡ n = omega arith in left ∙ ap (λ (k : ℕ). wanted w (drop k es)) (sym e)
passed_many w es n (suc m) room none left =
    let before = passed_many w es n m (omega (arith, room)) (λ k e less got. none k e (omega (arith, less)) got) left in
    let here = inside_is es (n + m) (omega (arith, room)) in
    let on : suc (n + m) ≡ n + suc m = omega arith in
    passed_by w es (n + m) here.0 here.1 (none m here.0 (omega arith) here.1) before ∙ ap (λ (k : ℕ). wanted w (drop k es)) on

-- ---- the page of the place

-- the cursor has the page of its place, and there is an entry at it
pub record AtPage (r : Kept) (flash : Flash) (arena : Frames) (c : Cursor) : Type 0 where
  pub shape : c.shape ≡ r.shape
  pub inside : c.place < r.count
  pub page : page_at flash (page_of r (c.place / page_entries r.shape)) ≡ whole (bytes_in r arena c)
  pub loaded : c.loaded ≡ suc (c.place / page_entries r.shape)

same_some : (x e : Entry) → ◌≡◌ {A = Option Entry} (Some x) (Some e) → x ≡ e
same_some x e p = cc

module _ {r : Kept} {flash : Flash} {arena : Frames} {es : List Entry} (is : IsShape r.shape) (kept : IsKept r) (s : RunOnFlash r flash arena es) {c : Cursor} (at : AtPage r flash arena c) where
  abbrev size : ℕ
  size = page_entries r.shape

  -- the entries before the page, and those before the place in it
  abbrev start : ℕ
  start = c.place / size * size

  abbrev piece : List Entry
  piece = take size (drop start es)

  page_has : IsMetaPage r.shape (bytes_in r arena c) r.level (c.place / size) piece
  page_has = holds r flash arena es is kept c.place at.inside s (bytes_in r arena c) at.page

  count_is : number_at 2 10 (bytes_in r arena c) ≡ min size (length es - start)
  count_is = (meta_again r.shape (bytes_in r arena c) r.level (c.place / size) piece is page_has).count_is ∙ length-take size (drop start es) ∙ ap (min size) (length-drop start es)

  place_is : start + c.place % size ≡ c.place
  place_is = div-add-mod' c.place size

  -- the entries of the page are entries of the run
  pub run_has : (k : ℕ) (e : Entry) → slice_get piece k ≡ Some e → slice_get es (start + k) ≡ Some e
  run_has k e got = sym (get_dropped es start k) ∙ get_taken (drop start es) size k e got

  at_decodes : Decodes c.shape (bytes_in r arena c)
  at_decodes = subst (λ (g : Shape). Decodes g (bytes_in r arena c)) (sym at.shape) (r.level, c.place / size, piece, page_has)

  at_within : c.place % page_entries c.shape < number_at 2 10 (bytes_in r arena c)
  at_within = subst (λ (g : Shape). c.place % page_entries g < number_at 2 10 (bytes_in r arena c))
      (sym at.shape) (entry_within r flash arena es is kept c.place at.inside s (bytes_in r arena c) at.page)

  fits : start + number_at 2 10 (bytes_in r arena c) ≤ r.count
  fits = let count = count_is in let place = place_is in let inside = at.inside in let many = s.many in omega (arith, count, place, inside, many)

  pub at_fits : c.place - c.place % page_entries c.shape + number_at 2 10 (bytes_in r arena c) ≤ r.count
  at_fits = search (arith, place_is, fits)

  -- the cursor has the page
  pub at_page : IsFlash r.shape flash → HasPage r arena c
  at_page full = record {
    loaded = at.loaded ∙ ap (λ (g : Shape). suc (c.place / page_entries g)) (sym at.shape);
    leased = λ lease got. (s.frames (c.loaded - 1) lease got).leased;
    sized = (full.full (page_of r (c.place / size)) (bytes_in r arena c) at.page).0 ∙ ap (λ (g : Shape). g.page_bytes) (sym at.shape);
    decodes = at_decodes;
    within = at_within;
  }

  -- the key at a place in the page is that of the run's entry
  pub key_there : (k : ℕ) (e : Entry) → k < number_at 2 10 (bytes_in r arena c) → slice_get es (start + k) ≡ Some e → key_of e ≡ place_key (bytes_in r arena c) k
  key_there k e less got =
      let cell = cell_entry r.shape (bytes_in r arena c) is r.level (c.place / size) piece page_has k less in
      let same : entry_at (cell_at (32 + 32 * k) (bytes_in r arena c)) ≡ e = same_some _ e (sym (run_has k (entry_at (cell_at (32 + 32 * k) (bytes_in r arena c))) cell) ∙ got) in
      ap key_of (sym same) ∙ key_of_at (cell_at (32 + 32 * k) (bytes_in r arena c))

  -- an entry at the place in the page is the run's at the place
  pub entry_here : (e : Entry) → ((level index : ℕ) (entries : List Entry) → IsMetaPage c.shape (bytes_in r arena c) level index entries → slice_get entries (c.place % page_entries c.shape) ≡ Some e)
      → slice_get es c.place ≡ Some e
  entry_here e shows =
      let got = subst (λ (g : Shape). (level index : ℕ) (entries : List Entry)
      → IsMetaPage g (bytes_in r arena c) level index entries → slice_get entries (c.place % page_entries g) ≡ Some e) at.shape shows in
      ap (slice_get es) (sym place_is) ∙ run_has (c.place % size) e (got r.level (c.place / size) piece page_has)

  -- ---- a move in the page

  module _ {position : Position} {d : Cursor} {found : Bool} (m : CursorMoves position (bytes_in r arena c) c d found) where
    -- as the run has it
    first : IsFirstWanted position (bytes_in r arena c) (c.place % size) m.to
    first = subst (λ (g : Shape). IsFirstWanted position (bytes_in r arena c) (c.place % page_entries g) m.to) at.shape m.first

    moved_to : d.place ≡ start + m.to
    moved_to = search (arith, place_is)

    none_between : (k : ℕ) (e : Entry) → k < m.to - c.place % size → slice_get es (c.place + k) ≡ Some e → is_wanted position e.0 ≡ false
    none_between k e less got =
        let most = first.most in
        let place = place_is in
        let same : c.place + k ≡ start + (c.place % size + k) = omega (arith, place) in
        ap (is_wanted position) (key_there (c.place % size + k) e (omega (arith, less, most)) (ap (slice_get es) (sym same) ∙ got))
        ∙ first.before (c.place % size + k) (omega arith) (omega (arith, less))

    -- none that is wanted was passed
    pub moved_left : wanted (is_wanted position) es ≡ wanted (is_wanted position) (drop c.place es) → wanted (is_wanted position) es ≡ wanted (is_wanted position) (drop d.place es)
    moved_left left =
        let most = first.most in
        let forth = first.forth in
        let place = place_is in
        let room = fits in
        let many = s.many in
        let to = moved_to in
        let same : c.place + (m.to - c.place % size) ≡ d.place = omega (arith, place, forth, to) in
        passed_many (is_wanted position) es c.place (m.to - c.place % size) (omega (arith, place, forth, most, room, many)) none_between left
        ∙ ap (λ (n : ℕ). wanted (is_wanted position) (drop n es)) same

    pub moved_forth : c.place ≤ d.place
    moved_forth = let forth = first.forth in let place = place_is in let to = moved_to in omega (arith, place, forth, to)

    -- it passes the page at most
    pub moved_within : d.place ≤ d.loaded * page_entries d.shape
    moved_within = search (arith, count_is, moved_to)

    later : c.place / size ≤ d.place / size
    later = le-div (c.place / size) d.place size (entries_some r.shape is) (let place = place_is in let forth = moved_forth in omega (arith, place, forth))

    same_loaded : d.loaded ≡ c.loaded
    same_loaded = ap (λ (x : Cursor). x.loaded) m.cursor

    pub moved_sought : c.head ≡ None → d.head ≡ None
    moved_sought sought = ap (λ (x : Cursor). x.head) m.cursor ∙ sought

    -- the cursor follows the run wherever it did
    pub moved_follows : c.head ≡ None → Follows flash r es position c → Follows flash r es position d
    moved_follows sought f = search (arith, same_loaded, later, holds, moved_sought, moved_left, sought_left, not_ended, moved_forth)

    -- if a wanted entry was found it has the page of its place still
    module _ (there : found ≡ true) where
      within : m.to < number_at 2 10 (bytes_in r arena c)
      within = ltb-true m.to (number_at 2 10 (bytes_in r arena c)) (sym m.tells ∙ there)

      pub found_at : AtPage r flash arena d
      found_at =
          let less = within in
          let room = fits in
          let to = moved_to in
          let count = count_is in
          let up = later in
          let below : d.place / size < suc (c.place / size) = (div-lt_iff_lt-mul (entries_some r.shape is)).1 (omega (arith, less, count, to)) in
          let same : c.place / size ≡ d.place / size = omega (arith, up, below) in
          search (arith)

      -- and the entry there is wanted
      pub found_wanted : (e : Entry) → slice_get es d.place ≡ Some e → is_wanted position e.0 ≡ true
      found_wanted e got = ap (is_wanted position) (key_there m.to e within (ap (slice_get es) (sym moved_to) ∙ got)) ∙ first.at within

    -- otherwise it went on
    pub none_forth : found ≡ false → c.place < d.place
    none_forth none =
        let least = ltb-false m.to (number_at 2 10 (bytes_in r arena c)) (sym m.tells ∙ none) in
        let own = entry_within r flash arena es is kept c.place at.inside s (bytes_in r arena c) at.page in
        let to = moved_to in
        let place = place_is in
        omega (arith, least, own, to, place)

-- ---- as the cursor goes there

pub moves_to : (position : Position) (page : List ℕ) (b : Cursor) (n to count : ℕ) → n ≡ page_entries b.shape
    → IsFirstWanted position page (b.place % page_entries b.shape) to → count ≡ number_at 2 10 page
    → CursorMoves position page b (record b { place = b.place - b.place % n + to }) (nat_lt to count)
moves_to position page b n to count size first is = search (to, first, ap (λ (m : ℕ). record b { place = b.place - b.place % m + to }) size, ap (λ (m : ℕ). nat_lt to m) is)
