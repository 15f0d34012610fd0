-- What a commit leaves of a log and of a flash, cut or not.
use Rattle.std.proofs.Common.{◌≡◌, ◌≢◌, inl, inr, ℕ, ◌+◌, ◌-◌, ◌*◌, ◌%◌, ◌<◌, ◌≤◌, refl, sym, ap, subst, ◌∙◌, arith, Bool, if◌then◌else◌, List, [], ◌++◌, length, Some, Ok, append-nil, le→leb, true, T}
use Rattle.pk_base.{specs.Shape.Shape, specs.Shape.buffer, specs.Shape.epoch_pages, specs.Shape.epoch_commits, specs.Firsts.firsts, specs.Map.Map, proofs.Logic.is_true, proofs.Logic.both}
use Rattle.pk_base.specs.Page.{Page, Flash, page_at, erased, whole, page_in, commit_page, commit_at}
use Rattle.pk_base.{specs.Mark.program, specs.Mark.after, specs.Mark.all_posted, proofs.CommitPages.within, proofs.CommitPages.second, proofs.CommitPages.even_page}
use Rattle.pk_nand.{specs.BoardState.BoardState, specs.Cut.Interrupted, specs.Pairs.programs_of_pair, specs.Pairs.IsPairCut, proofs.Leaving.page_at-slice_set, proofs.Leaving.page_at-slice_set_same}
use Rattle.pk_nand.{specs.Calls.IsReady, specs.Calls.after_program, specs.Calls.after_programs, specs.Calls.ProgramsFailed, proofs.Reaching.Reached-start}
use Rattle.pk_nand.proofs.Pairing.{IsPairCut-cut, IsPairCut-done, outside_pair}
use Rattle.pk_jrnfmt.{specs.Page.journal_entries, specs.Epoch.epoch, specs.Epoch.may_follow}
use Rattle.pk_rootfmt.{specs.Root.Root, specs.Newest.newest_root}
use Rattle.pk_root.proofs.Places.{InstallerOnFlash-by_same}
use Rattle.pk_buf.specs.Table.{Table}
use Rattle.pk_jrn.{specs.Epochs.JournalEpoch, specs.Epochs.EpochOnFlash, specs.Epochs.Reads, specs.Epochs.left_of, specs.Epochs.next_page, specs.Epochs.pages_of, specs.Appends.AddsAll}
use Rattle.pk_jrn.{specs.Replays.buffer_of, proofs.Places.page_exists, proofs.Appending.takes_more, proofs.Appending.commit_left, proofs.Puts.firsts-reverse}
use Rattle.pk_model.{specs.Found.Found, specs.Found.newest_epoch, specs.Laws.IsWholePage, specs.Laws.IsCommit, specs.Growth.Grows, specs.Growth.Reaches, specs.Growth.Goes, specs.Spaces.limits_at}
use Rattle.pk_model.proofs.Commits.{Blocks, valid_blocks, pair_behind_roots, roots_stay, under, commit_start}
use Rattle.pk_model.specs.RootLimits.{root_spaces}
use Rattle.pk_model.{proofs.Growing.at_end, proofs.Growing.top_limits, proofs.Growing.Reaches-then, proofs.Growing.Goes-then, proofs.Running.Reaches-program, proofs.Running.Goes-program}
use Rattle.pk_law_steps.{specs.Under.IsUnder, specs.Roots.committed, proofs.Committing.commits_pair, proofs.Committing.commit_done, proofs.NewestBlocks.valid_root, proofs.UnderRoot.newest_found}
use Rattle.pk_log.{specs.State.LogState, specs.State.all_committed, specs.Logs.LogOnFlash, specs.Commits.CommitCut, specs.Commits.CommitHolds, specs.Commits.CommitReaches}
use Rattle.pk_log.proofs.Standing.{blocks_are}

-- ---- the programs

module _ (log : LogState) (board : BoardState) (top : ℕ × Root) (found : Found)
    (logs : LogOnFlash log board.pages top found) (ready : IsReady board log.shape) (some : log.pending ≢ []) (bytes : List ℕ)
    (spells : journal_entries log.epoch.shape log.epoch.number log.epoch.used bytes ≡ Some log.pending) where
  abbrev shape : Shape
  shape = log.shape

  abbrev e : JournalEpoch
  e = log.epoch

  abbrev old : ℕ → Page
  old = page_at board.pages

  -- the first page of the commit, as the root names it
  abbrev page : ℕ
  page = commit_page shape top.1.newest e.used

  left : 0 < left_of e
  left = logs.pending_room some

  inside : e.used < epoch_commits shape
  inside = subst (λ (s : Shape). e.used < epoch_commits s) logs.epoch_shape (commit_left e left)

  page_is : page ≡ next_page e
  page_is i = commit_page (sym logs.epoch_shape i) (sym logs.epoch_blocks i) e.used

  before : (j : ℕ) → j < e.used → IsWholePage (commit_at shape old top.1.newest j).1
  before j small =
      let w = logs.epoch_fits.before j small in
      let same : commit_at shape old top.1.newest j ≡ commit_at e.shape old e.blocks j = λ i. commit_at (sym logs.epoch_shape i) old (sym logs.epoch_blocks i) j in
      subst IsWholePage (sym (ap (λ (x : ℕ × Page). x.1) same ∙ w.1)) tt

  -- no commit is half made
  pages : pages_of e ≡ 2 * e.used
  pages = ap (λ (h : Bool). if h then 2 * e.used - 1 else 2 * e.used) (logs.pending_whole some)

  behind : (j : ℕ) → 2 * e.used ≤ j → j < epoch_pages shape → old (page_in shape top.1.newest j) ≡ erased
  behind j low high =
      ap old (λ i. page_in (sym logs.epoch_shape i) (sym logs.epoch_blocks i) j)
      ∙ logs.epoch_fits.behind (takes_more e left) j (subst (λ (n : ℕ). n ≤ j) (sym pages) low) (subst (λ (s : Shape). j < epoch_pages s) (sym logs.epoch_shape) high)

  commit_is : IsCommit shape board.pages top.1 log.pending e.used bytes
  commit_is = record {
    in_epoch = inside;
    exists =
        let size = ready.flash.size in
        let low = page_exists shape top.1.newest (2 * e.used + 1) (within shape e.used inside) (blocks_are shape top.1 (valid_root shape old top logs.is_top)).exist in
        let next = second shape top.1.newest logs.is_shape e.used in
        omega (arith, size, low, next);
    before = before;
    behind = behind;
    spells = (λ i. journal_entries (sym logs.epoch_shape i) (sym logs.epoch_number i) e.used bytes) ∙ spells;
  }

  blocks : Blocks top.1
  blocks = valid_blocks shape old top logs.is_top

  -- a cut of its pair has the same newest root
  top_stays : (f : Flash) → IsPairCut page bytes board.pages f → newest_root shape (page_at f) ≡ Some top
  top_stays f cut = roots_stay shape old (page_at f) top found log.pending e.used bytes logs.is_shape logs.is_top logs.is_found blocks inside before behind
      (outside_pair page board.pages f cut.outside)

  even : page % shape.block_pages % 2 ≡ 0
  even = even_page shape top.1.newest logs.is_shape e.used

  start : IsPairCut page bytes board.pages board.pages
  start = commit_start shape board.pages top.1 log.pending e.used bytes logs.is_shape commit_is

  abbrev half : BoardState
  half = after_program board page bytes

  abbrev done : BoardState
  done = after_program half (page + 1) bytes

  half_cut : IsPairCut page bytes board.pages half.pages
  half_cut = IsPairCut-done shape page bytes even page board.pages board.pages (omega arith) (omega arith) start

  done_cut : IsPairCut page bytes board.pages done.pages
  done_cut = IsPairCut-done shape page bytes even (page + 1) board.pages half.pages (omega arith) (omega arith) half_cut

  done_is : done ≡ after_programs board (programs_of_pair (next_page e) bytes)
  done_is i = after_programs board (programs_of_pair (page_is i) bytes)

  -- the first page has the bytes
  here : page_at done.pages page ≡ whole bytes
  here =
      let exists = commit_is.exists in
      page_at-slice_set half.pages (page + 1) page (whole bytes) (λ same. omega (arith, same)) ∙ page_at-slice_set_same board.pages page (whole bytes) (omega (arith, exists))

  module _ (m0 m1 : Map) (first : IsUnder shape board.pages [] top found m0) (second : IsUnder shape board.pages log.pending top found m1) where
    abbrev Holds : Flash → List ℕ → Type 0
    Holds = CommitCut shape top found log.pending m0 m1

    cut_holds : (f : Flash) → IsPairCut page bytes board.pages f → Holds f []
    cut_holds f cut = (refl, commits_pair shape board.pages f top found log.pending m0 m1 e.used bytes logs.is_shape first second commit_is cut)

    first_holds : (f : Flash) → Interrupted shape (program page bytes) board.pages f [] → Holds f []
    first_holds f cut = cut_holds f (IsPairCut-cut shape page bytes even page board.pages board.pages f [] (omega arith) (omega arith) start cut)

    second_holds : (f : Flash) → Interrupted shape (program (page + 1) bytes) half.pages f [] → Holds f []
    second_holds f cut = cut_holds f (IsPairCut-cut shape page bytes even (page + 1) board.pages half.pages f [] (omega arith) (omega arith) half_cut cut)

    first_grows : Grows shape board.pages (after shape (program page bytes) board.pages)
    first_grows = inl (top_stays half.pages half_cut ∙ sym logs.is_top)

    second_grows : Grows shape half.pages (after shape (program (page + 1) bytes) half.pages)
    second_grows = inl (top_stays done.pages done_cut ∙ sym (top_stays half.pages half_cut))

    first_limited : (f : Flash) → Interrupted shape (program page bytes) board.pages f [] → limits_at shape f ≡ limits_at shape board.pages
    first_limited f cut = top_limits shape f board.pages
        (top_stays f (IsPairCut-cut shape page bytes even page board.pages board.pages f [] (omega arith) (omega arith) start cut) ∙ sym logs.is_top)

    second_limited : (f : Flash) → Interrupted shape (program (page + 1) bytes) half.pages f [] → limits_at shape f ≡ limits_at shape half.pages
    second_limited f cut = top_limits shape f half.pages
        (top_stays f (IsPairCut-cut shape page bytes even (page + 1) board.pages half.pages f [] (omega arith) (omega arith) half_cut cut) ∙ sym (top_stays half.pages half_cut))

    begun : Reaches shape board half Holds
    begun = Reaches-program shape board Holds ready.shape_is page bytes first_holds first_grows first_limited half refl

    -- nothing went out before the second program
    later : (f : Flash) (q : List ℕ) → Holds f q → Holds f (all_posted begun.0 ++ q)
    later f q holds = (ap (λ t. t ++ q) (at_end begun.0 board half Holds begun.1).0 ∙ holds.0, holds.1)

    pub holds_done : IsUnder shape (after_programs board (programs_of_pair (next_page e) bytes)).pages [] top (committed found log.pending) m1
    holds_done = subst (λ (b : BoardState). IsUnder shape b.pages [] top (committed found log.pending) m1) done_is
        (commit_done shape board.pages done.pages top found log.pending m0 m1 e.used bytes logs.is_shape first second commit_is done_cut here)

    pub reaches : Reaches shape board (after_programs board (programs_of_pair (next_page e) bytes)) (CommitCut shape top found log.pending m0 m1)
    reaches = subst (λ (b : BoardState). Reaches shape board b Holds) done_is
        (Reaches-then shape begun.0 board half Holds ready.shape_is begun.1 begun.2 done Holds later
        (Reaches-program shape half Holds ready.shape_is (page + 1) bytes second_holds second_grows second_limited done refl))

    pub goes : (after' : BoardState) → ProgramsFailed board after' (programs_of_pair (next_page e) bytes) → Goes shape board after' (CommitCut shape top found log.pending m0 m1)
    goes after' failed = elim (subst (λ (p : ℕ). ProgramsFailed board after' (programs_of_pair p bytes)) (sym page_is) failed) [
      | inl one ↦ Goes-program shape board Holds ready.shape_is page bytes first_holds first_grows first_limited after' one
      | inr other ↦ Goes-then shape begun.0 board half Holds ready.shape_is begun.1 begun.2 after' Holds later
          (Goes-program shape half Holds ready.shape_is (page + 1) bytes second_holds second_grows second_limited after' other)
    ]

  -- ---- the log

  abbrev then_pages : Flash
  then_pages = (after_programs board (programs_of_pair (next_page e) bytes)).pages

  then_cut : IsPairCut page bytes board.pages then_pages
  then_cut = subst (λ (b : BoardState). IsPairCut page bytes board.pages b.pages) done_is done_cut

  others : (k : ℕ) → (page ≤ k → k < page + 2 → ⊥) → page_at then_pages k ≡ old k
  others = outside_pair page board.pages then_pages then_cut.outside

  -- the keys of the epoch with the pending entries
  have_room : length log.active.entries ≤ log.active.capacity → length (firsts (found.newest ++ log.pending)) ≤ buffer e.shape
  have_room bound = search (arith, firsts-reverse)

  -- they may follow those of the epoch
  may_commit : length log.active.entries ≤ log.active.capacity → may_follow e.shape (root_spaces shape top.1) found.newest log.pending ≡ true
  may_commit bound = is_true _ (both _ _ (le→leb _ _ (have_room bound)) (subst T (sym logs.spaced) tt))

  reads_all : length log.active.entries ≤ log.active.capacity → AddsAll e log.pending board.pages then_pages → newest_epoch shape (page_at then_pages) top.1 ≡ Ok (found.newest ++ log.pending)
  reads_all bound adds =
      let spaces : ℕ = root_spaces shape top.1 in
      let was : Reads e spaces board.pages found.newest = (λ i. epoch (logs.epoch_shape i) spaces old (logs.epoch_number i) (logs.epoch_blocks i)) ∙ newest_found shape old top.1 found logs.is_found in
      (λ i. epoch (sym logs.epoch_shape i) spaces (page_at then_pages) (sym logs.epoch_number i) (sym logs.epoch_blocks i)) ∙ adds spaces found.newest was (may_commit bound)

  pub stands_done : length log.active.entries ≤ log.active.capacity → AddsAll e log.pending board.pages then_pages → EpochOnFlash (record e { used = e.used + 1 }) then_pages
      → LogOnFlash (all_committed log) then_pages top (committed found log.pending)
  stands_done bound adds fits = record {
    is_shape = logs.is_shape;
    is_top = top_stays then_pages then_cut;
    root_is = logs.root_is;
    is_found = under shape old (page_at then_pages) top found log.pending e.used bytes logs.is_shape logs.is_top logs.is_found blocks inside before behind others
        (found.newest ++ log.pending) (reads_all bound adds);
    installs = InstallerOnFlash-by_same shape log.next top board.pages then_pages
        (λ k low. others k (λ least less. let high = pair_behind_roots shape logs.is_shape top.1 blocks e.used inside in omega (arith, low, high, least))) logs.installs;
    epoch_shape = logs.epoch_shape;
    epoch_number = logs.epoch_number;
    epoch_blocks = logs.epoch_blocks;
    epoch_fits = fits;
    active_is = logs.active_is ∙ ap (buffer_of shape) (sym (append-nil (found.newest ++ log.pending)));
    frozen_is = logs.frozen_is;
    pending_are = tt;
    spaced = refl;
    pending_few = omega arith;
    pending_room = λ other. absurd (other refl);
    pending_whole = λ other. absurd (other refl);
  }

-- ---- nothing is pending

module _ (log : LogState) (board : BoardState) (none : log.pending ≡ []) where
  -- found is as before
  same_found : (found : Found) → found ≡ committed found log.pending
  same_found found = λ i. record found { newest = (sym (append-nil found.newest) ∙ ap (λ es. found.newest ++ es) (sym none)) i }

  pub holds_none : CommitHolds log board board
  holds_none top found m0 m1 maps =
      subst (λ f. IsUnder log.shape board.pages [] top f m1) (same_found found) (subst (λ es. IsUnder log.shape board.pages es top found m1) none maps.all)

  pub reaches_none : CommitReaches log board board
  reaches_none top found m0 m1 maps = ([], Reached-start board board (CommitCut log.shape top found log.pending m0 m1) refl refl refl refl (refl, inl maps.without), tt)
