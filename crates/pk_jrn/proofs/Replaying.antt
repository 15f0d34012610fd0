-- The commits of an epoch that are read one after another into a write buffer.
use Rattle.std.proofs.Common.{◌≡◌, ℕ, zero, suc, ◌+◌, ◌-◌, ◌^◌, ◌<◌, ◌≤◌, refl, sym, ap, subst, ◌∙◌, arith, Bool, true, false, T, List, [], ◌∷◌, ◌++◌, length, take, Some, None, Result, Ok, Err, ◌&&◌}
use Rattle.std.proofs.Common.{◌⊎◌, inl, inr, nat_le, le→leb, drop, below_more, zero-add, add-zero}
use Rattle.std.{specs.Prelude.slice_get, specs.Prelude.◌*◌, specs.Prelude.◌/◌, specs.Prelude.◌%◌, specs.List.AllByRecursion, specs.FinMap.Entries.put, specs.FinMap.Entries.is_sorted}
use Rattle.std.{proofs.Math.Seq.take-suc, proofs.lemmas.Option.slice_get_within, proofs.lemmas.Option.get_or_from_slice_get}
use Rattle.std.{proofs.lemmas.List.take_all, proofs.lemmas.List.take-append-drop, proofs.lemmas.Bool.Decides.nat_tests, proofs.lemmas.List.Folds.list_all-append}
use Rattle.pk_base.{specs.Key.key_cmp, specs.Key.space_of, specs.Shape.Shape, specs.Shape.IsShape, specs.Shape.buffer, specs.Shape.epoch_commits, specs.Entry.Entry, specs.Entry.key_of}
use Rattle.pk_base.{specs.Page.Page, specs.Page.page_at, specs.Page.whole, specs.Page.commit_page, specs.Page.commit_at, specs.Page.commits_of, specs.Firsts.firsts}
use Rattle.pk_base.{specs.EntryChecks.IsEntry, specs.Refusal.damaged, proofs.Logic.is_true, proofs.Logic.some_same}
use Rattle.pk_buf.specs.Table.{Table, no_entries}
use Rattle.pk_jrnfmt.{specs.declared.JrnHead.JrnHead, specs.declared.BadJournal.BadJournal, specs.Page.journal_entries, specs.PageChecks.IsJournalPage, proofs.PageLemmas.journal_held}
use Rattle.pk_jrnfmt.specs.Epoch.{may_follow, journal, epoch}
use Rattle.pk_space.specs.Entries.{in_spaces}
use Rattle.pk_nand.{specs.BoardState.BoardState, specs.Operations.after_read, specs.Counts.after_reads}
use Rattle.pk_pair.specs.Pairs.{reads_of_pair, whole_number}
use Rattle.pk_jrn.{specs.Epochs.HasCommit, specs.EpochReads.if_whole, specs.EpochReads.reads_to_end, specs.EpochReads.epoch_reads}
use Rattle.pk_jrn.specs.Replays.{puts, PutOrFull, PutsOrFull, TakesPage, buffer_of, Replayed, reads_before, ReplayRefused}
use Rattle.pk_jrn.proofs.Puts.{puts-snoc, puts_are_firsts, puts_too_many, firsts-reverse}
use Rattle.pk_jrn.proofs.Journals.{IsNotWhole, ends, goes_on, refuses, epoch_is}
use mathlib.Core.Bool.{and-true, and-false}

-- ---- the namespaces of the entries of one page

take_next : (es : List Entry) (i : ℕ) (e : Entry) → slice_get es i ≡ Some e → take (suc i) es ≡ take i es ++ e ∷ []
take_next es i e h = take-suc es i e (slice_get_within es i e h) ∙ ap (λ y. take i es ++ y ∷ []) (get_or_from_slice_get es i e e h)

-- of every page of an epoch with these bytes and this many entries
abbrev pub OfPage : Shape → List ℕ → ℕ → (List Entry → Type 0) → Type 0
OfPage shape page count P = (epoch index : ℕ) (es : List Entry) → IsJournalPage shape page epoch index es → length es ≡ count → P es

-- the first i entries of the page are of the first namespaces
abbrev pub InSpacesTo : Shape → List ℕ → ℕ → ℕ → ℕ → Type 0
InSpacesTo shape page spaces count i = OfPage shape page count (λ es. in_spaces spaces (take i es) ≡ true)

module _ (shape : Shape) (page : List ℕ) (spaces count i : ℕ) (e : Entry) (here : (epoch index : ℕ) (es : List Entry) → IsJournalPage shape page epoch index es → slice_get es i ≡ Some e) where
  in_next : (es : List Entry) → slice_get es i ≡ Some e → in_spaces spaces (take (suc i) es) ≡ (in_spaces spaces (take i es) && nat_le (space_of e.0) spaces)
  in_next es at =
      ap (in_spaces spaces) (take_next es i e at) ∙ list_all-append (λ x. nat_le (space_of x.0) spaces) (take i es) (e ∷ [])
      ∙ ap (λ b. in_spaces spaces (take i es) && b) (and-true (nat_le (space_of e.0) spaces))

  pub InSpacesTo-next : nat_le (space_of e.0) spaces ≡ true → InSpacesTo shape page spaces count i → InSpacesTo shape page spaces count (i + 1)
  InSpacesTo-next own before epoch index es is many =
      let one : i + 1 ≡ suc i = omega arith in
      let was = before epoch index es is many in
      rw one (in_next es (here epoch index es is) ∙ rw (was, own) refl)

  pub InSpacesTo-none : nat_le (space_of e.0) spaces ≡ false → OfPage shape page count (λ es. in_spaces spaces es ≡ false)
  InSpacesTo-none own epoch index es is many =
      let none : in_spaces spaces (take (suc i) es) ≡ false = in_next es (here epoch index es is) ∙ rw own (and-false (in_spaces spaces (take i es))) in
      subst (λ (xs : List Entry). in_spaces spaces xs ≡ false) (take-append-drop (suc i) es)
      (list_all-append (λ x. nat_le (space_of x.0) spaces) (take (suc i) es) (drop (suc i) es)
      ∙ ap (λ b. b && in_spaces spaces (drop (suc i) es)) none)

pub InSpacesTo-end : (shape : Shape) (page : List ℕ) (spaces count i : ℕ) → count ≤ i → InSpacesTo shape page spaces count i → OfPage shape page count (λ es. in_spaces spaces es ≡ true)
InSpacesTo-end shape page spaces count i all before epoch index es is many = ap (in_spaces spaces) (sym (take_all i es (omega (arith, all, many)))) ∙ before epoch index es is many

-- ---- the entries of one page

-- the first i entries of the page were written
abbrev pub Putting : Shape → List ℕ → ℕ → Table → Table → ℕ → Type 0
Putting shape page count old now i = OfPage shape page count (λ es. now ≡ record old { entries = puts (take i es) old.entries })

-- one more entry after the first i
next_puts : (es table : List Entry) (i : ℕ) (e : Entry) → slice_get es i ≡ Some e → puts (take (i + 1) es) table ≡ put key_cmp (key_of e) e.1 (puts (take i es) table)
next_puts es table i e h =
    let k : i + 1 ≡ suc i = omega arith in
    rw k (ap (λ xs. puts xs table) (take_next es i e h) ∙ puts-snoc (take i es) e table)

pub Putting-next : (shape : Shape) (page : List ℕ) (count : ℕ) (old now new : Table) (i : ℕ) (e : Entry)
    → ((epoch index : ℕ) (es : List Entry) → IsJournalPage shape page epoch index es → slice_get es i ≡ Some e)
    → Putting shape page count old now i → PutOrFull now e true new → Putting shape page count old new (i + 1)
Putting-next shape page count old now new i e here p done epoch index es is many =
    let was = p epoch index es is many in
    done.0 ∙ ap (λ (t : Table). record t { entries = put key_cmp (key_of e) e.1 t.entries }) was
    ∙ ap (λ (xs : List Entry). record old { entries = xs }) (sym (next_puts es old.entries i e (here epoch index es is)))

pub Putting-full : (shape : Shape) (page : List ℕ) (count : ℕ) (old now new : Table) (i : ℕ) (e : Entry) → T (is_sorted key_cmp old.entries)
    → ((epoch index : ℕ) (es : List Entry) → IsJournalPage shape page epoch index es → slice_get es i ≡ Some e)
    → Putting shape page count old now i → PutOrFull now e false new → OfPage shape page count (λ es. PutsOrFull old es false new)
Putting-full shape page count old now new i e up here p done epoch index es is many =
    let was = p epoch index es is many in
    let room : now.capacity ≡ old.capacity = ap (λ t. t.capacity) was in
    let size : length (put key_cmp (key_of e) e.1 now.entries) ≡ length (puts (take (i + 1) es) old.entries) =
    ap (λ (t : Table). length (put key_cmp (key_of e) e.1 t.entries)) was ∙ ap length (sym (next_puts es old.entries i e (here epoch index es is))) in
    let more = done.1 in
    let first : old.capacity < length (puts (take (i + 1) es) old.entries) = omega (arith, room, size, more) in
    let Q : List Entry → Type 0 = λ xs. old.capacity < length (puts xs old.entries) in (
      ap (λ t. t.capacity) done.0 ∙ room,
      subst Q (take-append-drop (i + 1) es) (puts_too_many old.capacity (take (i + 1) es) _ old.entries up first),
    )

pub Putting-end : (shape : Shape) (page : List ℕ) (count : ℕ) (old now : Table) (i : ℕ) → count ≤ i → length now.entries ≤ now.capacity → Putting shape page count old now i
    → OfPage shape page count (λ es. PutsOrFull old es true now)
Putting-end shape page count old now i all bound p epoch index es is many =
    let was = p epoch index es is many in
    let room : now.capacity ≡ old.capacity = ap (λ t. t.capacity) was in
    (was ∙ ap (λ (xs : List Entry). record old { entries = puts xs old.entries }) (take_all i es (omega (arith, all, many))), omega (arith, room, bound))

-- ---- one page

-- the page is the epoch's, and its entries were written, or there was no room
pub page_taken : (shape : Shape) (spaces number index count : ℕ) (page : List ℕ) (old : Table) (ok : Bool) (new : Table) → number < 2 ^ 64 → index < epoch_commits shape
    → (es : List Entry) × (journal_entries shape number index page ≡ Some es) × (length es ≡ count)
    → OfPage shape page count (λ es. in_spaces spaces es ≡ true) → OfPage shape page count (λ es. PutsOrFull old es ok new) → TakesPage shape spaces number index page old ok new
page_taken shape spaces number index count page old true new fits within reads spaced all =
    let held = journal_held shape number index page reads.0 fits within reads.1 in
    (reads.0, reads.1, spaced number index reads.0 held reads.2, all number index reads.0 held reads.2)
page_taken shape spaces number index count page old false new fits within reads spaced all =
    let many = all number index reads.0 (journal_held shape number index page reads.0 fits within reads.1) reads.2 in
    (many.0, λ es is. inr (subst (λ (xs : List Entry). old.capacity < length (puts xs old.entries)) (some_same _ _ (sym reads.1 ∙ is)) many.1))

-- the page has an entry of another namespace
pub page_of_others : (shape : Shape) (spaces number index count : ℕ) (page : List ℕ) (old : Table) → number < 2 ^ 64 → index < epoch_commits shape
    → (es : List Entry) × (journal_entries shape number index page ≡ Some es) × (length es ≡ count)
    → OfPage shape page count (λ es. in_spaces spaces es ≡ false) → TakesPage shape spaces number index page old false old
page_of_others shape spaces number index count page old fits within reads others =
    let not_in = others number index reads.0 (journal_held shape number index page reads.0 fits within reads.1) reads.2 in
    (refl, λ es is. inl (subst (λ (xs : List Entry). in_spaces spaces xs ≡ false) (some_same _ _ (sym reads.1 ∙ is)) not_in))

-- what a page is read as, if it is that of an epoch and index
abbrev pub Decoded : Shape → List ℕ → Result JrnHead BadJournal → Type 0
Decoded shape page r = (epoch index : ℕ) (entries : List Entry) → epoch < 2 ^ 64 → index < epoch_commits shape
    → journal_entries shape epoch index page ≡ Some entries → r ≡ Ok (record { epoch = epoch; index = index; count = length entries })

-- it is that of another epoch or index
pub page_of_another : (shape : Shape) (spaces number index : ℕ) (page : List ℕ) (old : Table) (r : Result JrnHead BadJournal) (head : JrnHead) → number < 2 ^ 64 → index < epoch_commits shape
    → Decoded shape page r → r ≡ Ok head → ((head.epoch ≡ number) × (head.index ≡ index) → ⊥) → TakesPage shape spaces number index page old false old
page_of_another shape spaces number index page old r head fits within read is other = (refl, λ es e. absurd (clash es (read number index es fits within e)))
  where
    head_same : (x y : JrnHead) → ◌≡◌ {A = Result JrnHead BadJournal} (Ok x) (Ok y) → x ≡ y
    head_same x y e = cc

    clash : (es : List Entry) → r ≡ Ok (record { epoch = number; index = index; count = length es }) → ⊥
    clash es e =
        let same : head ≡ record { epoch = number; index = index; count = length es } = head_same _ _ (sym is ∙ e) in
        other (ap (λ (h : JrnHead). h.epoch) same, ap (λ (h : JrnHead). h.index) same)

-- it is none
pub no_page : (shape : Shape) (spaces number index : ℕ) (page : List ℕ) (old : Table) (r : Result JrnHead BadJournal) (bad : BadJournal) → number < 2 ^ 64 → index < epoch_commits shape
    → Decoded shape page r → r ≡ Err bad → TakesPage shape spaces number index page old false old
no_page shape spaces number index page old r bad fits within read is = (refl, λ es e. absurd (clash es (read number index es fits within e)))
  where
    clash : (es : List Entry) → r ≡ Ok (record { epoch = number; index = index; count = length es }) → ⊥
    clash es e = cc

-- ---- what the reads of a pair answer

-- the page that was found is the one by which the pair is read
pub found_page : (p : ℕ × Page) (page : ℕ) → Some page ≡ whole_number p → (bytes : List ℕ) × (p.1 ≡ whole bytes) × (page ≡ p.0)
found_page (q, whole bytes) page is = (bytes, refl, some_same page q is)
found_page _ page is = cc

-- none of its pages is whole
pub found_none : (p : ℕ × Page) → None ≡ whole_number p → IsNotWhole p.1
found_none (q, whole bytes) is = cc
found_none _ is = λ bytes e. cc

-- ---- consecutive pages

all_append : (P : Entry → Type 0) (xs ys : List Entry) → AllByRecursion P xs → AllByRecursion P ys → AllByRecursion P (xs ++ ys)
all_append P [] ys front back = back
all_append P (x ∷ xs) ys front back = (front.0, all_append P xs ys front.1 back)

-- a commit without a page is the last that is read
ends_here : (page : Page) (more : ℕ) → IsNotWhole page → if_whole page more ≡ 0
ends_here (whole bytes) more not_whole = absurd (not_whole bytes refl)
ends_here _ more not_whole = refl

-- after a page that is Whole the reads go on
goes_here : (page : Page) (bytes : List ℕ) (more : ℕ) → page ≡ whole bytes → if_whole page more ≡ more
goes_here page bytes more is = ap (λ (q : Page). if_whole q more) is

reads_are : (shape : Shape) (at : ℕ → Page) (blocks : List ℕ) (rest : ℕ) → IsShape shape → length blocks ≡ 2
    → epoch_commits shape ≡ rest → epoch_reads shape at blocks ≡ reads_to_end shape at blocks 0 rest
reads_are shape at blocks rest is two all =
    let eights : shape.block_pages % 8 ≡ 0 = is.eights in
    let pairs : 2 * (shape.block_pages / 2) ≡ shape.block_pages = omega (arith, eights) in
    ap (λ (n : ℕ). reads_to_end shape at blocks 0 (n * (shape.block_pages / 2))) two ∙ ap (λ (n : ℕ). reads_to_end shape at blocks 0 n) (pairs ∙ all)

-- reads after others
more_reads : (k n : ℕ) (b : BoardState) → after_reads k (after_reads n b) ≡ after_reads (n + k) b
more_reads zero n b = ap (λ (m : ℕ). after_reads m b) (sym (add-zero n))
more_reads (suc k) n b =
    let e : suc (n + k) ≡ n + suc k = omega arith in
    ap after_read (more_reads k n b) ∙ ap (λ (m : ℕ). after_reads m b) e

module _ (shape : Shape) (spaces number : ℕ) (blocks : List ℕ) (old : BoardState) where
  -- i commits were read and their entries written, and what remains to be read is the rest of the epoch
  pub record Replaying (now : BoardState) (i : ℕ) (into : Table) : Type 0 where
    pub entries : List Entry
    pub board : now ≡ after_reads (reads_before shape (page_at old.pages) blocks i) old
    pub held : into ≡ buffer_of shape entries
    pub left : epoch shape spaces (page_at old.pages) number blocks ≡ journal shape spaces number i entries (commits_of shape (page_at old.pages) blocks i (epoch_commits shape - i))
    pub reads : epoch_reads shape (page_at old.pages) blocks ≡ reads_before shape (page_at old.pages) blocks i + reads_to_end shape (page_at old.pages) blocks i (epoch_commits shape - i)
    pub before : (j : ℕ) → j < i → HasCommit shape old.pages blocks j
    pub each : AllByRecursion (IsEntry shape) entries

  pub Replaying-start : (into : Table) → IsShape shape → length blocks ≡ 2 → into ≡ no_entries shape → Replaying old 0 into
  Replaying-start into is two empty = record {
    entries = [];
    board = refl;
    held = empty;
    left = epoch_is shape spaces (page_at old.pages) number blocks (epoch_commits shape - 0) is two (omega arith);
    reads = reads_are shape (page_at old.pages) blocks (epoch_commits shape - 0) is two (omega arith) ∙ sym (zero-add _);
    before = λ j small. absurd (omega (arith, small));
    each = tt;
  }

  module _ (now : BoardState) (i : ℕ) (into : Table) (r : Replaying now i into) where
    abbrev at : ℕ → Page
    at = page_at old.pages

    -- the commit that is read next
    abbrev next : ℕ × Page
    next = commit_at shape at blocks i

    pub pages_stay : now.pages ≡ old.pages
    pages_stay = ap (λ b. b.pages) r.board

    -- the reads of the next commit, counted by the board as it is
    pub reads_moved : (new : BoardState) (p : ℕ) → p ≡ commit_page shape blocks i
        → new ≡ after_reads (reads_of_pair (page_at now.pages p)) now → new ≡ after_reads (reads_of_pair (at (commit_page shape blocks i))) now
    reads_moved new p is read = read ∙ (λ k. after_reads (reads_of_pair (page_at (pages_stay k) (is k))) now)

    room : into.capacity ≡ buffer shape
    room = ap (λ t. t.capacity) r.held

    -- as many keys as the buffer has entries after writes
    keys : (es : List Entry) → length (puts es into.entries) ≡ length (firsts (r.entries ++ es))
    keys es = ap (λ (t : Table). length (puts es t.entries)) r.held ∙ ap length (puts_are_firsts r.entries es) ∙ firsts-reverse (r.entries ++ es)

    module _ (inside : i < epoch_commits shape) where
      step : epoch_commits shape - i ≡ suc (epoch_commits shape - (i + 1))
      step = omega (arith, inside)

      -- what remains is the next commit, and the rest after it
      left_here : epoch shape spaces at number blocks ≡ journal shape spaces number i r.entries (commits_of shape at blocks i (suc (epoch_commits shape - (i + 1))))
      left_here = r.left ∙ ap (λ k. journal shape spaces number i r.entries (commits_of shape at blocks i k)) step

      reads_here : epoch_reads shape at blocks ≡ reads_before shape at blocks (i + 1) + if_whole next.1 (reads_to_end shape at blocks (i + 1) (epoch_commits shape - (i + 1)))
      reads_here =
          let one : suc i ≡ i + 1 = omega arith in
          let shifted : reads_before shape at blocks (suc i) ≡ reads_before shape at blocks (i + 1) = ap (λ k. reads_before shape at blocks k) one in
          let all = r.reads ∙ ap (λ k. reads_before shape at blocks i + reads_to_end shape at blocks i k) step in
          omega (arith, all, shifted)

    -- the board after the reads of the next commit
    read_more : (new : BoardState) → new ≡ after_reads (reads_of_pair (at (commit_page shape blocks i))) now → new ≡ after_reads (reads_before shape at blocks (i + 1)) old
    read_more new read =
        let one : suc i ≡ i + 1 = omega arith in
        read ∙ ap (after_reads (reads_of_pair (at (commit_page shape blocks i)))) r.board
        ∙ more_reads (reads_of_pair (at (commit_page shape blocks i))) (reads_before shape at blocks i) old
        ∙ ap (λ k. after_reads (reads_before shape at blocks k) old) one

    pub Replaying-next : (bytes : List ℕ) (new : BoardState) (into' : Table) → number < 2 ^ 64 → i < epoch_commits shape → next.1 ≡ whole bytes
        → new ≡ after_reads (reads_of_pair (at (commit_page shape blocks i))) now → TakesPage shape spaces number i bytes into true into' → Replaying new (i + 1) into'
    Replaying-next bytes new into' fits inside here read takes =
        let es = takes.0 in
        let size : length into'.entries ≡ length (firsts (r.entries ++ es)) = ap (λ (t : Table). length t.entries) takes.3.0 ∙ keys es in
        let c = room in
        let most = takes.3.1 in
        let few : nat_le (length (firsts (r.entries ++ es))) (buffer shape) ≡ true = is_true _ (le→leb _ _ (omega (arith, size, most, c))) in
        let spaced : in_spaces spaces es ≡ true = takes.2 in
        let follows : may_follow shape spaces r.entries es ≡ true = rw (few, spaced) refl in
        record {
          entries = r.entries ++ es;
          board = read_more new read;
          held = takes.3.0 ∙ ap (λ (t : Table). record t { entries = puts es t.entries }) r.held
              ∙ ap (λ (xs : List Entry). record { capacity = buffer shape; entries = xs }) (puts_are_firsts r.entries es);
          left = left_here inside ∙ goes_on shape spaces number blocks at i r.entries (epoch_commits shape - (i + 1)) bytes here es takes.1 follows;
          reads = reads_here inside ∙ ap (λ k. reads_before shape at blocks (i + 1) + k) (goes_here next.1 bytes _ here);
          before = λ j small. below_more (λ (j : ℕ). HasCommit shape old.pages blocks j) i r.before (bytes, here) j (omega (arith, small));
          each = all_append (IsEntry shape) r.entries es r.each (journal_held shape number i bytes es fits inside takes.1).content.each;
        }

    pub Replaying-refused : (bytes : List ℕ) (new : BoardState) (into' : Table) (page : ℕ) → i < epoch_commits shape → next.1 ≡ whole bytes
        → new ≡ after_reads (reads_of_pair (at (commit_page shape blocks i))) now → page ≡ next.0 → TakesPage shape spaces number i bytes into false into' → ReplayRefused shape spaces number blocks old new page
    Replaying-refused bytes new into' page inside here read page_is takes =
        record {
          index = i;
          within = inside;
          page_is = page_is;
          read = left_here inside ∙ refuses shape spaces number blocks at i r.entries (epoch_commits shape - (i + 1)) bytes here (λ es is. not_followed es (takes.1 es is))
              ∙ ap (λ p. Err (damaged p)) (sym page_is);
          board = read_more new read;
        }
      where
        not_followed : (es : List Entry) → (in_spaces spaces es ≡ false) ⊎ (into.capacity < length (puts es into.entries)) → may_follow shape spaces r.entries es ≡ false
        not_followed es (inl other) = rw other (and-false (nat_le (length (firsts (r.entries ++ es))) (buffer shape)))
        not_followed es (inr many) =
            let k = keys es in
            let c = room in
            let full : nat_le (length (firsts (r.entries ++ es))) (buffer shape) ≡ false = grind (arith, nat_tests) in
            rw full refl

    -- the commit has no page that is whole
    pub Replayed-ends : i < epoch_commits shape → IsNotWhole next.1 → Replayed shape spaces number blocks old.pages i into
    Replayed-ends inside not_whole = record {
      entries = r.entries;
      read = r.left ∙ ends shape spaces number blocks at i r.entries (epoch_commits shape - i) not_whole;
      held = r.held;
      each = r.each;
      within = omega (arith, inside);
      before = r.before;
      ends = λ _ is. not_whole is.0 is.1;
    }

    -- it is read too
    pub reads_to_last : (new : BoardState) → i < epoch_commits shape → IsNotWhole next.1 → new ≡ after_reads (reads_of_pair (at (commit_page shape blocks i))) now
        → new ≡ after_reads (epoch_reads shape at blocks) old
    reads_to_last new inside not_whole read =
        let none = ends_here next.1 (reads_to_end shape at blocks (i + 1) (epoch_commits shape - (i + 1))) not_whole in
        let k : reads_before shape at blocks (i + 1) ≡ epoch_reads shape at blocks = omega (arith, reads_here inside, none) in
        read_more new read ∙ ap (λ n. after_reads n old) k

    -- a full epoch has no such commit
    pub reads_all : epoch_commits shape ≤ i → now ≡ after_reads (epoch_reads shape at blocks) old
    reads_all full =
        let none : epoch_commits shape - i ≡ 0 = omega (arith, full) in
        let all = r.reads ∙ ap (λ k. reads_before shape at blocks i + reads_to_end shape at blocks i k) none in
        let k : reads_before shape at blocks i ≡ epoch_reads shape at blocks = omega (arith, all) in
        r.board ∙ ap (λ n. after_reads n old) k
