-- What the programs of an epoch's next commit leave of the epoch, cut or not.
use Rattle.std.proofs.Common.{◌≡◌, ◌≢◌, ◌⊎◌, inl, inr, ℕ, zero, suc, ◌+◌, ◌-◌, ◌*◌, ◌^◌, ◌<◌, ◌≤◌, refl, sym, ap, subst, ◌∙◌, arith, Bool, true, false, if◌then◌else◌, List, [], ◌++◌, length, Some, Ok}
use Rattle.std.proofs.Common.{zero-add, below_more, le_refl}
use Rattle.std.{specs.Prelude.slice_index, specs.List.AllByRecursion, proofs.lemmas.Bool.cases_lt}
use Rattle.pk_base.{specs.declared.entry.Entry.Entry as RustEntry, specs.Seen.entries as seen_all, specs.EntryChecks.IsEntry, specs.Entry.Entry}
use Rattle.pk_base.{specs.Shape.IsShape, specs.Shape.epoch_pages, specs.Shape.epoch_commits, specs.Shape.page_entries, proofs.CommitPages.second, proofs.CommitPages.only_commit}
use Rattle.pk_base.specs.Page.{Page, Flash, page_at, erased, whole, page_in, page_of_pair, commit_page, commit_at, commits_of}
use Rattle.pk_nand.{specs.BoardState.BoardState, specs.Crash.Reached, specs.Crash.Went, specs.Pairs.IsPairCut}
use Rattle.pk_nand.proofs.Pairing.{outside_pair, pair_read, read_first}
use Rattle.pk_jrnfmt.{specs.Page.journal_entries, specs.Epoch.journal, specs.Epoch.epoch, proofs.PageLemmas.journal_entries_again, proofs.PageLemmas.length-seen}
use Rattle.pk_jrn.specs.Epochs.{JournalEpoch, EpochOnFlash, Reads, HasCommit, left_of, next_page, pages_of}
use Rattle.pk_jrn.specs.Appends.{next_bytes, AddsAll, AddsAllOrNone, IsCommitCut}
use Rattle.pk_jrn.proofs.Journals.{IsNotWhole, erased_not_whole, torn_not_whole, pair_not_whole, epoch_is, reads_on, goes_on, ends}

-- an epoch with a commit left takes more
pub takes_more : (e : JournalEpoch) → 0 < left_of e → e.takes_more ≡ true
takes_more e some = elim e.takes_more as (λ b. e.takes_more ≡ b → 0 < (if b then epoch_commits e.shape - e.used else 0) → e.takes_more ≡ true) [
  | true ↦ λ is _. is
  | false ↦ λ is none. absurd (omega (arith, none))
] refl some

pub commit_left : (e : JournalEpoch) → 0 < left_of e → e.used < epoch_commits e.shape
commit_left e some = elim e.takes_more as (λ b. 0 < (if b then epoch_commits e.shape - e.used else 0) → e.used < epoch_commits e.shape) [
  | true ↦ λ more. omega (arith, more)
  | false ↦ λ none. absurd (omega (arith, none))
] some

-- the next commit of an epoch that is on a flash and has none half made: its pages are read as these entries
pub record NextCommit (e : JournalEpoch) (flash : Flash) (es : List Entry) (bytes : List ℕ) : Type 0 where
  pub is : IsShape e.shape
  pub left : 0 < left_of e
  pub whole_made : e.half ≡ false
  pub fits : EpochOnFlash e flash
  pub different : slice_index e.blocks 0 ≢ slice_index e.blocks 1
  pub spells : journal_entries e.shape e.number e.used bytes ≡ Some es

pub next_commit : (e : JournalEpoch) (flash : Flash) (entries : List RustEntry) → IsShape e.shape → e.number < 2 ^ 64 → 0 < left_of e → e.half ≡ false → 1 ≤ length entries
    → length entries ≤ page_entries e.shape → AllByRecursion (IsEntry e.shape) (seen_all entries) → EpochOnFlash e flash → slice_index e.blocks 0 ≢ slice_index e.blocks 1
    → NextCommit e flash (seen_all entries) (next_bytes e (seen_all entries))
next_commit e flash entries shape small left whole_made some most each fits different =
    let size = length-seen entries in
    record {
      is = shape;
      left = left;
      whole_made = whole_made;
      fits = fits;
      different = different;
      spells = journal_entries_again e.shape e.number e.used (seen_all entries) shape
          (record { epoch_fits = small; index_fits = commit_left e left; some = omega (arith, size, some); most = omega (arith, size, most); each = each });
    }

whole_erased : (bytes : List ℕ) (page : Page) → page ≡ whole bytes → page ≡ erased → ⊥
whole_erased bytes page is other = cc

module _ {e : JournalEpoch} {flash : Flash} {es : List Entry} {bytes : List ℕ} (h : NextCommit e flash es bytes) where
  more : e.takes_more ≡ true
  more = takes_more e h.left

  inside : e.used < epoch_commits e.shape
  inside = commit_left e h.left

  pages : pages_of e ≡ 2 * e.used
  pages = rw h.whole_made refl

  free : (j : ℕ) → 2 * e.used ≤ j → j < epoch_pages e.shape → page_at flash (page_in e.shape e.blocks j) ≡ erased
  free j low high = h.fits.behind more j (omega (arith, pages, low)) high

  next_is : page_in e.shape e.blocks (2 * e.used + 1) ≡ next_page e + 1
  next_is = second e.shape e.blocks h.is e.used

  pub first_erased : page_at flash (next_page e) ≡ erased
  first_erased = free (2 * e.used) (le_refl (2 * e.used)) (omega (arith, inside))

  pub second_erased : page_at flash (next_page e + 1) ≡ erased
  second_erased = ap (page_at flash) (sym next_is) ∙ free (2 * e.used + 1) (omega arith) (omega (arith, inside))

  rest : ℕ
  rest = epoch_commits e.shape - e.used - 1

  size : epoch_commits e.shape ≡ e.used + suc rest
  unfolding rest
  size = omega (arith, inside)

  -- no commit from the next one on has a page
  no_page : (j : ℕ) → e.used ≤ j → j < epoch_commits e.shape → IsNotWhole (commit_at e.shape (page_at flash) e.blocks j).1
  no_page j low high = pair_not_whole _ _ _
      (erased_not_whole _ (free (2 * j) (omega (arith, low)) (omega (arith, high))))
      (erased_not_whole _ (ap (page_at flash) (sym (second e.shape e.blocks h.is j)) ∙ free (2 * j + 1) (omega (arith, low)) (omega (arith, high))))

  -- a flash that differs in no other page
  module _ (cut : Flash) (others : (k : ℕ) → (next_page e ≤ k → k < next_page e + 2 → ⊥) → page_at cut k ≡ page_at flash k) where
    same : (j : ℕ) → j < epoch_pages e.shape → (j < 2 * e.used) ⊎ (2 * e.used + 2 ≤ j) → page_at cut (page_in e.shape e.blocks j) ≡ page_at flash (page_in e.shape e.blocks j)
    same j small other = others (page_in e.shape e.blocks j) (λ low high. apart other (only_commit e.shape e.blocks h.is e.used j h.different inside small low high))
      where
        apart : (j < 2 * e.used) ⊎ (2 * e.used + 2 ≤ j) → (2 * e.used ≤ j) × (j < 2 * e.used + 2) → ⊥
        apart (inl less) there = omega (arith, less, there.0)
        apart (inr past) there = omega (arith, past, there.1)

    same_commit : (j : ℕ) → j < epoch_commits e.shape → (j < e.used) ⊎ (e.used < j) → commit_at e.shape (page_at cut) e.blocks j ≡ commit_at e.shape (page_at flash) e.blocks j
    same_commit j small other =
        let next : page_in e.shape e.blocks (2 * j + 1) ≡ commit_page e.shape e.blocks j + 1 = second e.shape e.blocks h.is j in
        let one = same (2 * j) (omega (arith, small)) (twice other) in
        let two : page_at cut (commit_page e.shape e.blocks j + 1) ≡ page_at flash (commit_page e.shape e.blocks j + 1) =
        ap (page_at cut) (sym next) ∙ same (2 * j + 1) (omega (arith, small)) (twice_more other) ∙ ap (page_at flash) next in
        λ i. page_of_pair (commit_page e.shape e.blocks j) (one i) (two i)
      where
        twice : (j < e.used) ⊎ (e.used < j) → (2 * j < 2 * e.used) ⊎ (2 * e.used + 2 ≤ 2 * j)
        twice (inl less) = inl (omega (arith, less))
        twice (inr past) = inr (omega (arith, past))

        twice_more : (j < e.used) ⊎ (e.used < j) → (2 * j + 1 < 2 * e.used) ⊎ (2 * e.used + 2 ≤ 2 * j + 1)
        twice_more (inl less) = inl (omega (arith, less))
        twice_more (inr past) = inr (omega (arith, past))

    read_up : (spaces : ℕ) (before : List Entry) → Reads e spaces flash before
        → epoch e.shape spaces (page_at cut) e.number e.blocks ≡ journal e.shape spaces e.number e.used before (commits_of e.shape (page_at cut) e.blocks e.used (suc rest))
    read_up spaces before reads =
        let first : 0 + e.used ≡ e.used = zero-add e.used in
        epoch_is e.shape spaces (page_at cut) e.number e.blocks (e.used + suc rest) h.is h.fits.two size
        ∙ reads_on e.shape spaces e.number e.blocks (page_at flash) (page_at cut) e.used (suc rest) 0 [] before (λ j low high. h.fits.before j (omega (arith, high)))
        (λ j low high. same_commit j (omega (arith, high, inside)) (inl (omega (arith, high))))
        (no_page (0 + e.used) (omega arith) (omega (arith, inside)))
        (sym (epoch_is e.shape spaces (page_at flash) e.number e.blocks (e.used + suc rest) h.is h.fits.two size) ∙ reads)
        ∙ (λ i. journal e.shape spaces e.number (first i) before (commits_of e.shape (page_at cut) e.blocks (first i) (suc rest)))

    -- a commit without a page that is whole adds nothing
    without : IsNotWhole (commit_at e.shape (page_at cut) e.blocks e.used).1 → (spaces : ℕ) (before : List Entry) → Reads e spaces flash before → Reads e spaces cut before
    without not_whole spaces before reads = read_up spaces before reads ∙ ends e.shape spaces e.number e.blocks (page_at cut) e.used before (suc rest) not_whole

    ends_behind : (spaces : ℕ) (so_far : List Entry) (n : ℕ) → n ≡ rest → journal e.shape spaces e.number (e.used + 1) so_far (commits_of e.shape (page_at cut) e.blocks (e.used + 1) n) ≡ Ok so_far
    unfolding rest
    ends_behind spaces so_far zero is_rest = refl
    ends_behind spaces so_far (suc n) is_rest =
        let small : e.used + 1 < epoch_commits e.shape = omega (arith, is_rest) in
        let unchanged = same_commit (e.used + 1) small (inr (omega arith)) in
        ends e.shape spaces e.number e.blocks (page_at cut) (e.used + 1) so_far (suc n)
        (subst (λ (p : ℕ × Page). IsNotWhole p.1) (sym unchanged) (no_page (e.used + 1) (omega arith) small))

    -- a page that is whole adds its entries
    with_page : (commit_at e.shape (page_at cut) e.blocks e.used).1 ≡ whole bytes → AddsAll e es flash cut
    with_page here spaces before reads follows =
        read_up spaces before reads ∙ goes_on e.shape spaces e.number e.blocks (page_at cut) e.used before rest bytes here es h.spells follows ∙ ends_behind spaces (before ++ es) rest refl

    -- by the first page
    read_here : page_at cut (next_page e) ≡ whole bytes → (commit_at e.shape (page_at cut) e.blocks e.used).1 ≡ whole bytes
    read_here here = ap (λ (p : ℕ × Page). p.1) (read_first (next_page e) bytes (page_at cut (next_page e)) (page_at cut (next_page e + 1)) here)

    commits_before : page_at cut (next_page e) ≡ whole bytes → (j : ℕ) → j < e.used + 1 → HasCommit e.shape cut e.blocks j
    commits_before here j small =
        let below : (j : ℕ) → j < e.used
        → HasCommit e.shape cut e.blocks j = λ j less. let w = h.fits.before j less in (w.0, ap (λ (p : ℕ × Page). p.1) (same_commit j (omega (arith, less, inside)) (inl less)) ∙ w.1) in
        below_more (λ (j : ℕ). HasCommit e.shape cut e.blocks j) e.used below (bytes, read_here here) j (omega (arith, small))

    -- the pages of the commits before it, and its first one
    still_filled : (j : ℕ) → j < 2 * e.used → page_at cut (page_in e.shape e.blocks j) ≢ erased
    still_filled j less now = h.fits.filled more j (omega (arith, pages, less)) (sym (same j (omega (arith, less, inside)) (inl less)) ∙ now)

    first_filled : page_at cut (next_page e) ≡ whole bytes → (j : ℕ) → 2 * e.used ≡ j → page_at cut (page_in e.shape e.blocks j) ≢ erased
    first_filled here j first now = whole_erased bytes _ (ap (λ k. page_at cut (page_in e.shape e.blocks k)) (sym first) ∙ here) now

    second_is : (j : ℕ) → 2 * e.used + 1 ≡ j → page_at cut (page_in e.shape e.blocks j) ≡ page_at cut (next_page e + 1)
    second_is j second = ap (λ k. page_at cut (page_in e.shape e.blocks k)) (sym second) ∙ ap (page_at cut) next_is

    -- after the first program
    EpochOnFlash-half : page_at cut (next_page e) ≡ whole bytes → page_at cut (next_page e + 1) ≡ erased → EpochOnFlash (record e { used = e.used + 1; half = true }) cut
    EpochOnFlash-half here there = record {
      two = h.fits.two;
      within = omega (arith, inside);
      before = commits_before here;
      filled = λ _ j low. elim (cases_lt j (2 * e.used)) [ inl less ↦ still_filled j less | inr high ↦ first_filled here j (omega (arith, low, high)) ];
      behind = λ _ j low high. elim (cases_lt (2 * e.used + 1) j) [
        | inl past ↦ same j high (inr (omega (arith, past))) ∙ free j (omega (arith, low)) high
        | inr le ↦ second_is j (omega (arith, low, le)) ∙ there
      ];
    }

    -- after both
    EpochOnFlash-both : page_at cut (next_page e) ≡ whole bytes → page_at cut (next_page e + 1) ≡ whole bytes → EpochOnFlash (record e { used = e.used + 1; half = false }) cut
    EpochOnFlash-both here there = record {
      two = h.fits.two;
      within = omega (arith, inside);
      before = commits_before here;
      filled = λ _ j low. elim (cases_lt j (2 * e.used)) [
        | inl less ↦ still_filled j less
        | inr high ↦ elim (cases_lt (2 * e.used) j) [ inl past ↦ whole_erased bytes _ (second_is j (omega (arith, low, past)) ∙ there) | inr le ↦ first_filled here j (omega (arith, high, le)) ]
      ];
      behind = λ _ j low high. same j high (inr (omega (arith, low))) ∙ free j (omega (arith, low)) high;
    }

  -- what the programs may leave wherever they are cut
  all_or_none : (cut : Flash) → IsPairCut (next_page e) bytes flash cut → AddsAllOrNone e es flash cut
  all_or_none cut is_cut spaces before reads follows =
      let others = outside_pair (next_page e) flash cut is_cut.outside in
      elim (pair_read (next_page e) bytes (page_at cut (next_page e)) (page_at cut (next_page e + 1)) is_cut.first is_cut.second) [
        | inl done ↦ inr (with_page cut others done spaces before reads follows)
        | inr none ↦ elim none [
          | inl is_erased ↦ inl (without cut others (erased_not_whole _ is_erased) spaces before reads)
          | inr is_torn ↦ inl (without cut others (torn_not_whole _ is_torn) spaces before reads)
        ]
      ]

  pub commit_cut : (cut : Flash) → IsPairCut (next_page e) bytes flash cut → IsCommitCut e es flash cut
  commit_cut cut is_cut = record { outside = is_cut.outside; entries = all_or_none cut is_cut }

  module _ (new : Flash) (is_cut : IsPairCut (next_page e) bytes flash new) (here : page_at new (next_page e) ≡ whole bytes) where
    outside : (k : ℕ) → (next_page e ≤ k → k < next_page e + 2 → ⊥) → page_at new k ≡ page_at flash k
    outside = outside_pair (next_page e) flash new is_cut.outside

    pub adds_all : AddsAll e es flash new
    adds_all = with_page new outside (read_here new outside here)

    pub half_fits : page_at new (next_page e + 1) ≡ erased → EpochOnFlash (record e { used = e.used + 1; half = true }) new
    half_fits there = EpochOnFlash-half new outside here there

    pub both_fit : page_at new (next_page e + 1) ≡ whole bytes → EpochOnFlash (record e { used = e.used + 1; half = false }) new
    both_fit there = EpochOnFlash-both new outside here there

    -- the epoch has one commit more, with both its pages
    pub commit_fits : page_at new (next_page e + 1) ≡ whole bytes → EpochOnFlash (record e { used = e.used + 1 }) new
    commit_fits there = subst (λ (b : Bool). EpochOnFlash (record e { used = e.used + 1; half = b }) new) (sym h.whole_made) (both_fit there)

  -- ---- the board

  pub commit_reached : (old new : BoardState) → Reached old new (λ f _. IsPairCut (next_page e) bytes flash f) → Reached old new (λ f _. IsCommitCut e es flash f)
  commit_reached old new (marks, run) =
      (marks, record { trail = run.trail; posted = run.posted; same_shape = run.same_shape; cuts = λ f q c. commit_cut f (run.cuts f q c); stands = run.stands })

  pub commit_went : (old new : BoardState) → Went old new (λ f _. IsPairCut (next_page e) bytes flash f) → Went old new (λ f _. IsCommitCut e es flash f)
  commit_went old new (marks, run) =
      (marks, record { trail = run.trail; posted = run.posted; same_shape = run.same_shape; cuts = λ f q c. commit_cut f (run.cuts f q c); stands = run.stands })
