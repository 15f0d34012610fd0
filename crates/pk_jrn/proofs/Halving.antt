-- A commit that is made in two calls.
use Rattle.std.proofs.Common.{◌≡◌, ◌≢◌, ℕ, ◌+◌, ◌-◌, ◌*◌, ◌^◌, ◌<◌, ◌≤◌, refl, sym, ap, subst, ◌∙◌, arith, true, false, List, length}
use Rattle.std.{specs.Prelude.slice_index, specs.List.AllByRecursion}
use Rattle.pk_base.{specs.declared.entry.Entry.Entry as RustEntry, specs.Seen.entries as seen_all, specs.EntryChecks.IsEntry, specs.Entry.Entry, proofs.CommitPages.second}
use Rattle.pk_base.{specs.Shape.IsShape, specs.Shape.epoch_commits, specs.Shape.page_entries, specs.Page.Flash, specs.Page.page_at, specs.Page.erased, specs.Page.whole}
use Rattle.pk_nand.{specs.BoardState.BoardState, specs.Calls.after_program, specs.Operations.InOrder, specs.Crash.Reached, specs.Pairs.IsPairCut, proofs.Leaving.page_at-slice_set}
use Rattle.pk_jrn.{specs.Epochs.JournalEpoch, specs.Epochs.EpochOnFlash, specs.Epochs.left_of, specs.Epochs.next_page, specs.Epochs.before_half, specs.Epochs.pages_of, proofs.Places.InOrder-place}
use Rattle.pk_jrn.specs.Appends.{next_bytes, last_bytes, AddsAll, IsHalfMade, BeginsCommit}
use Rattle.pk_jrn.proofs.Appending.{NextCommit, takes_more, next_commit, second_erased, half_fits, both_fit, adds_all, commit_reached}

-- ---- the first program

module _ {e : JournalEpoch} {es : List Entry} (board : BoardState) (h : NextCommit e board.pages es (next_bytes e es)) where
  abbrev bytes : List ℕ
  bytes = next_bytes e es

  abbrev begun : JournalEpoch
  begun = record e { used = e.used + 1; half = true }

  -- before its last commit it was this one
  before_is : before_half begun ≡ e
  before_is = let back : e.used + 1 - 1 ≡ e.used = omega arith in λ i. record e { used = back i; half = sym h.whole_made i }

  half_made : (new : BoardState) → new ≡ after_program board (next_page e) bytes → IsPairCut (next_page e) bytes board.pages new.pages
      → page_at new.pages (next_page e) ≡ whole bytes → IsHalfMade begun es board.pages new.pages
  half_made new made is_cut here =
      let still : page_at new.pages (next_page e + 1) ≡ erased =
      ap (λ (b : BoardState). page_at b.pages (next_page e + 1)) made ∙ page_at-slice_set board.pages (next_page e) (next_page e + 1) (whole bytes) (λ same. omega (arith, same)) ∙ second_erased h in
      record {
        is_half = refl;
        some = omega arith;
        more = takes_more e h.left;
        stood = subst (λ (x : JournalEpoch). EpochOnFlash x board.pages) (sym before_is) h.fits;
        fits = half_fits h new.pages is_cut here still;
        cut = subst (λ (x : JournalEpoch). IsPairCut (next_page x) (next_bytes x es) board.pages new.pages) (sym before_is) is_cut;
        here = subst (λ (x : JournalEpoch). page_at new.pages (next_page x) ≡ whole (next_bytes x es)) (sym before_is) here;
      }

  pub Begun : (new : BoardState) → new ≡ after_program board (next_page e) bytes → IsPairCut (next_page e) bytes board.pages new.pages → page_at new.pages (next_page e) ≡ whole bytes
      → Reached board new (λ flash _. IsPairCut (next_page e) bytes board.pages flash) → BeginsCommit e es board begun new
  Begun new made is_cut here run = record {
    epoch_is = refl;
    program = made;
    spells = h.spells;
    half = half_made new made is_cut here;
    list = adds_all h new.pages is_cut here;
    cuts = commit_reached h board new run;
  }

-- ---- the second program

-- the last commit may be made if it is begun
pub before_left : (e : JournalEpoch) → 1 ≤ e.used → e.used ≤ epoch_commits e.shape → e.takes_more ≡ true → 0 < left_of (before_half e)
before_left e some within more = rw more (omega (arith, some, within))

-- it is the epoch after the commit
same_epoch : (e : JournalEpoch) → 1 ≤ e.used → record (before_half e) { used = (before_half e).used + 1; half = false } ≡ record e { half = false }
same_epoch e some = let back : e.used - 1 + 1 ≡ e.used = omega (arith, some) in λ i. record e { used = back i; half = false }

-- the commit that is half made, before its first program
pub again_commit : (e : JournalEpoch) (former flash : Flash) (entries : List RustEntry) → IsShape e.shape → e.number < 2 ^ 64 → 1 ≤ length entries → length entries ≤ page_entries e.shape
    → AllByRecursion (IsEntry e.shape) (seen_all entries) → slice_index e.blocks 0 ≢ slice_index e.blocks 1 → IsHalfMade e (seen_all entries) former flash
    → NextCommit (before_half e) former (seen_all entries) (last_bytes e (seen_all entries))
again_commit e former flash entries shape small some most each different half =
    next_commit (before_half e) former entries shape small (before_left e half.some half.fits.within half.more) refl some most each half.stood different

module _ {e : JournalEpoch} {es : List Entry} {former : Flash} (board : BoardState) (half : IsHalfMade e es former board.pages) (again : NextCommit (before_half e) former es (last_bytes e es)) where
  abbrev b : JournalEpoch
  b = before_half e

  -- the page that remains is the next of its block
  pub again_in_order : InOrder e.shape board.pages (next_page b + 1)
  again_in_order =
      let within = half.fits.within in
      let some = half.some in
      let pages : pages_of e ≡ 2 * (e.used - 1) + 1 = rw half.is_half (omega (arith, some)) in
      subst (λ (k : ℕ). InOrder e.shape board.pages k) (second e.shape e.blocks again.is (e.used - 1))
      (InOrder-place e.shape e.blocks board.pages (2 * (e.used - 1) + 1) (omega (arith, some, within))
      (λ j low. half.fits.filled half.more j (omega (arith, pages, low)))
      (λ j low high. half.fits.behind half.more j (omega (arith, pages, low)) high))

  module _ (new : BoardState) (made : new ≡ after_program board (next_page b + 1) (last_bytes e es)) (is_cut : IsPairCut (next_page b) (last_bytes e es) former new.pages) where
    still_here : page_at new.pages (next_page b) ≡ whole (last_bytes e es)
    still_here = ap (λ (s : BoardState). page_at s.pages (next_page b)) made
        ∙ page_at-slice_set board.pages (next_page b + 1) (next_page b) (whole (last_bytes e es)) (λ same. omega (arith, same)) ∙ half.here

    pub Ends-list : AddsAll b es former new.pages
    Ends-list = adds_all again new.pages is_cut still_here

    pub Ends-fits : page_at new.pages (next_page b + 1) ≡ whole (last_bytes e es) → EpochOnFlash (record e { half = false }) new.pages
    Ends-fits there = subst (λ (x : JournalEpoch). EpochOnFlash x new.pages) (same_epoch e half.some) (both_fit again new.pages is_cut still_here there)
