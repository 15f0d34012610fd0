-- Every cut of the commit of the moves holds the map.
use Rattle.std.proofs.Common.{◌≡◌, inl, inr, ℕ, ◌+◌, ◌-◌, ◌%◌, ◌<◌, ◌≤◌, refl, sym, ap, subst, ◌∙◌, arith, false, true, List, [], Some, le_refl}
use Rattle.pk_base.{specs.Shape.Shape, specs.Shape.IsShape, specs.Shape.epoch_pages, specs.Shape.epoch_commits, specs.Entry.Entry, specs.Entry.Place, specs.Key.Key, specs.Map.Map}
use Rattle.pk_base.{specs.Page.Page, specs.Page.Flash, specs.Page.page_at, specs.Page.whole, specs.Page.page_in, specs.Page.commit_page, specs.Page.commit_at, specs.Mark.program, specs.Mark.after}
use Rattle.pk_base.proofs.CommitPages.{even_page}
use Rattle.pk_nand.{specs.BoardState.BoardState, specs.Cut.Interrupted, specs.Calls.IsReady, specs.Calls.after_program, specs.Calls.ProgramFailed, specs.Pairs.IsPairCut}
use Rattle.pk_nand.{proofs.Leaving.page_at-slice_set, proofs.Leaving.page_at-slice_set_same, proofs.Pairing.IsPairCut-cut, proofs.Pairing.IsPairCut-done}
use Rattle.pk_pair.proofs.PairLemmas.{pair_exists}
use Rattle.pk_jrnfmt.specs.Page.{journal_entries, journal_bytes}
use Rattle.pk_rootfmt.{specs.Root.Root, specs.Newest.newest_root}
use Rattle.pk_jrn.{specs.Epochs.JournalEpoch, specs.Epochs.left_of, specs.Epochs.next_page, specs.Epochs.before_half, specs.Appends.next_bytes, specs.Appends.last_bytes, specs.Appends.IsHalfMade}
use Rattle.pk_jrn.proofs.Appending.{takes_more, commit_left}
use Rattle.pk_model.{specs.Found.Found, specs.Laws.IsWholePage, specs.Laws.IsCommit, specs.Growth.Grows, specs.Growth.Goes, specs.Crashes.CrashFinds, specs.Crashes.background, specs.Spaces.limits_at}
use Rattle.pk_model.{proofs.Growing.top_limits, proofs.Running.Reaches-program, proofs.Running.Goes-program, proofs.Commits.commit_start}
use Rattle.pk_law_steps.{specs.Under.IsUnder, specs.Roots.committed, proofs.Untouched.under_reads, proofs.NewestBlocks.newest_exist, proofs.NewestBlocks.valid_root}
use Rattle.pk_law_moves.{specs.Moves.entries_of, specs.Moves.CanMove, proofs.Moving.moves_pair, proofs.Moving.moves_committed}
use Rattle.pk_gc.specs.Cuts.{Journals, IsHalfMoved, MovesStand, CommitBegins, CommitBeginFails, CommitEnds, CommitEndFails}

-- ---- the pair of a commit of moves, seen from the flash before its first program

module _ (shape : Shape) (former : Flash) (top : ℕ × Root) (was : Found) (m : Map) (moves : List (Key × Place)) (blocks : List ℕ) (index : ℕ) (bytes : List ℕ) (is_shape : IsShape shape)
    (stood : IsUnder shape former [] top was m) (can : CanMove shape former [] top.1 was moves blocks) (commit : IsCommit shape former top.1 (entries_of moves) index bytes) where
  abbrev p : ℕ
  p = commit_page shape top.1.newest index

  abbrev now_found : Found
  now_found = committed was (entries_of moves)

  even : p % shape.block_pages % 2 ≡ 0
  even = even_page shape top.1.newest is_shape index

  start : IsPairCut p bytes former former
  start = commit_start shape former top.1 (entries_of moves) index bytes is_shape commit

  -- every cut holds the map
  finds : (from cut : Flash) → IsPairCut p bytes former cut → CrashFinds shape background from m cut []
  finds from cut is_cut = (
    refl,
    elim (moves_pair shape former cut top was m moves blocks index bytes is_shape stood can commit is_cut) [
      | inl before ↦ under_reads shape cut [] top was m before
      | inr behind ↦ under_reads shape cut [] top now_found m behind
    ],
  )

  -- and has the same newest root
  finds_top : (cut : Flash) → IsPairCut p bytes former cut → newest_root shape (page_at cut) ≡ Some top
  finds_top cut is_cut = elim (moves_pair shape former cut top was m moves blocks index bytes is_shape stood can commit is_cut) [
    | inl before ↦ before.is_top
    | inr behind ↦ behind.is_top
  ]

  -- with the entries, once the first page holds them
  stands : (now : Flash) → IsPairCut p bytes former now → page_at now p ≡ whole bytes → IsUnder shape now [] top now_found m
  stands now is_cut here = moves_committed shape former now top was m moves blocks index bytes is_shape stood can commit is_cut here

  -- one of the two programs, after which the first page holds the bytes
  module _ (old : BoardState) (ready : IsReady old shape) (at : ℕ) (low : p ≤ at) (high : at < p + 2) (so_far : IsPairCut p bytes former old.pages)
      (is_top : newest_root shape (page_at old.pages) ≡ Some top) (here : page_at (after shape (program at bytes) old.pages) p ≡ whole bytes) where
    then_under : IsUnder shape (after shape (program at bytes) old.pages) [] top now_found m
    then_under = stands (after shape (program at bytes) old.pages) (IsPairCut-done shape p bytes even at former old.pages low high so_far) here

    holds : (cut : Flash) → Interrupted shape (program at bytes) old.pages cut [] → CrashFinds shape background old.pages m cut []
    holds cut done = finds old.pages cut (IsPairCut-cut shape p bytes even at former old.pages cut [] low high so_far done)

    grows : Grows shape old.pages (after shape (program at bytes) old.pages)
    grows = inl (then_under.is_top ∙ sym is_top)

    limited : (cut : Flash) → Interrupted shape (program at bytes) old.pages cut [] → limits_at shape cut ≡ limits_at shape old.pages
    limited cut done = top_limits shape cut old.pages
        (finds_top cut (IsPairCut-cut shape p bytes even at former old.pages cut [] low high so_far done) ∙ sym is_top)

    pub program_stands : (new : BoardState) → new ≡ after_program old at bytes → MovesStand shape old top was m moves new
    program_stands new made = record {
      under = subst (λ (b : BoardState). IsUnder shape b.pages [] top now_found m) (sym made) then_under;
      cuts = Reaches-program shape old (CrashFinds shape background old.pages m) ready.shape_is at bytes holds grows limited new made;
    }

    pub program_fails : (new : BoardState) → ProgramFailed old new at bytes → Goes shape old new (CrashFinds shape background old.pages m)
    program_fails = Goes-program shape old (CrashFinds shape background old.pages m) ready.shape_is at bytes holds grows limited

-- ---- the first program

module _ (shape : Shape) (board : BoardState) (top : ℕ × Root) (e : JournalEpoch) (es : List Entry)
    (ready : IsReady board shape) (is : Journals shape e board.pages top) (left : 0 < left_of e) (no_half : e.half ≡ false)
    (spells : journal_entries e.shape e.number e.used (next_bytes e es) ≡ Some es) where
  abbrev old : ℕ → Page
  old = page_at board.pages

  inside : e.used < epoch_commits shape
  inside = subst (λ (s : Shape). e.used < epoch_commits s) is.epoch_shape (commit_left e left)

  -- the pages of the root's newest epoch are the epoch's
  page_is : (j : ℕ) → page_in shape top.1.newest j ≡ page_in e.shape e.blocks j
  page_is j i = page_in (sym is.epoch_shape i) (sym is.epoch_blocks i) j

  pub next_is : next_page e ≡ commit_page shape top.1.newest e.used
  next_is i = commit_page (is.epoch_shape i) (is.epoch_blocks i) e.used

  commit_is : (j : ℕ) → commit_at shape old top.1.newest j ≡ commit_at e.shape old e.blocks j
  commit_is j i = commit_at (sym is.epoch_shape i) old (sym is.epoch_blocks i) j

  pub is_commit : IsCommit shape board.pages top.1 es e.used (next_bytes e es)
  is_commit = record {
    in_epoch = inside;
    exists =
        let size = ready.flash.size in
        let low = pair_exists shape top.1.newest e.used is.is_shape inside (newest_exist shape top.1 (valid_root shape old top is.is_top)) in
        omega (arith, size, low);
    before = λ j small. let w = is.epoch_fits.before j small in subst IsWholePage (sym (ap (λ (x : ℕ × Page). x.1) (commit_is j) ∙ w.1)) tt;
    behind = λ j low high. ap old (page_is j) ∙ is.epoch_fits.behind (takes_more e left) j (rw no_half low) (subst (λ (s : Shape). j < epoch_pages s) (sym is.epoch_shape) high);
    spells = (λ i. journal_entries (sym is.epoch_shape i) (sym is.epoch_number i) e.used (next_bytes e es)) ∙ spells;
  }

module _ (shape : Shape) (old : BoardState) (top : ℕ × Root) (found : Found) (m : Map) (moves : List (Key × Place))
    (blocks : List ℕ) (e : JournalEpoch) (ready : IsReady old shape) (is : Journals shape e old.pages top)
    (left : 0 < left_of e) (no_half : e.half ≡ false) (under : IsUnder shape old.pages [] top found m) (can : CanMove shape old.pages [] top.1 found moves blocks)
    (spells : journal_entries e.shape e.number e.used (next_bytes e (entries_of moves)) ≡ Some (entries_of moves)) where
  abbrev es : List Entry
  es = entries_of moves

  commit : IsCommit shape old.pages top.1 es e.used (next_bytes e es)
  commit = is_commit shape old top e es ready is left no_half spells

  at_is : next_page e ≡ commit_page shape top.1.newest e.used
  at_is = next_is shape old top e es ready is left no_half spells

  first_held : page_at (after shape (program (commit_page shape top.1.newest e.used) (next_bytes e es)) old.pages) (commit_page shape top.1.newest e.used) ≡ whole (next_bytes e es)
  first_held = let exists = commit.exists in page_at-slice_set_same old.pages (commit_page shape top.1.newest e.used) (whole (next_bytes e es)) (omega (arith, exists))

  abbrev From : Type 0
  From = IsPairCut (commit_page shape top.1.newest e.used) (next_bytes e es) old.pages old.pages

  from : From
  from = commit_start shape old.pages top.1 es e.used (next_bytes e es) is.is_shape commit

  begun_stands : (new : BoardState) → new ≡ after_program old (next_page e) (next_bytes e es) → MovesStand shape old top found m moves new
  begun_stands new made =
      program_stands shape old.pages top found m moves blocks e.used (next_bytes e es) is.is_shape under can commit old ready
      (commit_page shape top.1.newest e.used) (le_refl _) (omega arith) from under.is_top first_held
      new (made ∙ ap (λ (k : ℕ). after_program old k (next_bytes e es)) at_is)

  begun_fails : (new : BoardState) → ProgramFailed old new (next_page e) (next_bytes e es) → Goes shape old new (CrashFinds shape background old.pages m)
  begun_fails new failed =
      program_fails shape old.pages top found m moves blocks e.used (next_bytes e es) is.is_shape under can commit old ready
      (commit_page shape top.1.newest e.used) (le_refl _) (omega arith) from under.is_top first_held
      new (subst (λ (k : ℕ). ProgramFailed old new k (next_bytes e es)) at_is failed)

  half_moved : (new : BoardState) → IsHalfMade (record e { used = e.used + 1; half = true }) es old.pages new.pages
      → IsHalfMoved shape (record e { used = e.used + 1; half = true }) old.pages new.pages top found m moves blocks
  half_moved new half =
      let back : e.used ≡ e.used + 1 - 1 = omega arith in
      record {
        is_shape = is.is_shape;
        epoch_shape = is.epoch_shape;
        epoch_blocks = is.epoch_blocks;
        stood = under;
        can = can;
        commit = subst (λ (k : ℕ). IsCommit shape old.pages top.1 es k (journal_bytes e.shape e.number k es)) back commit;
        half = half;
      }

pub commit_begins : CommitBegins
commit_begins shape old new top found m moves blocks e e' ready is left no_half under can begins = (
  subst (λ (x : JournalEpoch). IsHalfMoved shape x old.pages new.pages top found m moves blocks) (sym begins.epoch_is)
      (half_moved shape old top found m moves blocks e ready is left no_half under can begins.spells new
      (subst (λ (x : JournalEpoch). IsHalfMade x (entries_of moves) old.pages new.pages) begins.epoch_is begins.half)),
  begun_stands shape old top found m moves blocks e ready is left no_half under can begins.spells new begins.program,
)

pub commit_begin_fails : CommitBeginFails
commit_begin_fails shape old new top found m moves blocks e ready is left no_half under can fails =
    begun_fails shape old top found m moves blocks e ready is left no_half under can fails.spells new fails.failed

-- ---- the second program

module _ (shape : Shape) (old : BoardState) (former : Flash) (top : ℕ × Root) (was : Found) (m : Map) (moves : List (Key × Place)) (blocks : List ℕ) (e : JournalEpoch) (ready : IsReady old shape)
    (is : IsHalfMoved shape e former old.pages top was m moves blocks) where
  abbrev written : List ℕ
  written = last_bytes e (entries_of moves)

  abbrev first : ℕ
  first = commit_page shape top.1.newest (e.used - 1)

  first_is : next_page (before_half e) ≡ first
  first_is i = commit_page (is.epoch_shape i) (is.epoch_blocks i) (e.used - 1)

  so_far : IsPairCut first written former old.pages
  so_far = subst (λ (k : ℕ). IsPairCut k written former old.pages) first_is is.half.cut

  held : page_at old.pages first ≡ whole written
  held = ap (page_at old.pages) (sym first_is) ∙ is.half.here

  -- the moves are already there
  pub stands_now : IsUnder shape old.pages [] top (committed was (entries_of moves)) m
  stands_now = moves_committed shape former old.pages top was m moves blocks (e.used - 1) written is.is_shape is.stood is.can is.commit so_far held

  still_held : page_at (after shape (program (first + 1) written) old.pages) first ≡ whole written
  still_held = page_at-slice_set old.pages (first + 1) first (whole written) (λ same. omega (arith, same)) ∙ held

  ends_stand : (new : BoardState) → new ≡ after_program old (next_page (before_half e) + 1) written → MovesStand shape old top was m moves new
  ends_stand new made =
      program_stands shape former top was m moves blocks (e.used - 1) written is.is_shape is.stood is.can is.commit old ready
      (first + 1) (omega arith) (omega arith) so_far stands_now.is_top still_held
      new (made ∙ ap (λ (k : ℕ). after_program old (k + 1) written) first_is)

  ends_fail : (new : BoardState) → ProgramFailed old new (next_page (before_half e) + 1) written → Goes shape old new (CrashFinds shape background old.pages m)
  ends_fail new failed =
      program_fails shape former top was m moves blocks (e.used - 1) written is.is_shape is.stood is.can is.commit old ready (first + 1) (omega arith) (omega arith) so_far stands_now.is_top still_held
      new (subst (λ (k : ℕ). ProgramFailed old new (k + 1) written) first_is failed)

pub commit_ends : CommitEnds
commit_ends shape old new former top was m moves blocks e e' ready is ends = ends_stand shape old former top was m moves blocks e ready is new ends.program

pub commit_end_fails : CommitEndFails
commit_end_fails shape old new former top was m moves blocks e ready is fails = ends_fail shape old former top was m moves blocks e ready is new fails.failed
