-- A background step: a spare block is erased, or nothing is done.
use Rattle.std.proofs.Common.{◌≡◌, ◌≢◌, inl, inr, ℕ, zero, suc, ◌+◌, ◌-◌, ◌*◌, ◌/◌, ◌<◌, ◌≤◌, refl, sym, ap, subst, ◌∙◌, arith, Bool, true, false, cond, List, [], ◌∷◌, ◌++◌, length, Option, Some}
use Rattle.std.proofs.Common.{None, Ok, nat_le}
use Rattle.std.specs.Prelude.{slice_get, filter, count_by, map, unwrap_or, MatchOption, ◌&&◌, ◌==◌, not}
use Rattle.std.{proofs.lemmas.Bool.le-leb, proofs.lemmas.Bool.eqb-true, proofs.lemmas.Bool.eq-eqb, proofs.lemmas.Bool.Decides.leb_tells, specs.List.range_with_len, specs.List.concat}
use Rattle.std.{proofs.lemmas.List.Sums.sum_by-cons, proofs.lemmas.List.length-append}
use Rattle.pk_base.{specs.Shape.Shape, specs.Shape.most_pages, specs.Shape.data_blocks, specs.Page.Page, specs.Page.Flash, specs.Page.page_at, specs.Page.erased, specs.Page.whole, specs.Page.torn}
use Rattle.pk_base.{specs.Mark.erase, specs.Mark.after, proofs.Logic.not_both, proofs.Logic.both_true}
use Rattle.pk_rootfmt.{specs.Root.Root, specs.Root.named}
use Rattle.pk_plan.{specs.declared.owner.Owner.Owner, specs.declared.owner.Owner.TheVariants.Journal, specs.declared.owner.Owner.TheVariants.Meta, specs.declared.owner.Owner.TheVariants.Values}
use Rattle.pk_nand.{specs.BoardState.BoardState, specs.BoardState.shape_or_none, specs.Calls.IsReady, specs.Operations.after_erase, specs.Operations.EraseFailed}
use Rattle.pk_nand.{proofs.Touching.untouched_after}
use Rattle.pk_pool.{specs.declared.state.BlockState.BlockState, specs.Unready.unready, proofs.States.free_is_not_root}
use Rattle.pk_pool.specs.declared.state.BlockState.TheVariants.{Root as RootBlock, Free, Ready}
use Rattle.pk_pool.specs.Blocks.{Blocks, PoolOnFlash, IsShared, IsOwned, IsNowhere, NoneLeaves, is_free, is_ready, is_owned_by, used_by, with_state, freed, freed_state}
use Rattle.pk_pool.{proofs.Sharing.count-set, proofs.Sharing.behind_roots, proofs.Sharing.all_counted, proofs.Sharing.none_free, proofs.Leaving.shared_freed, proofs.Leaving.state_after}
use Rattle.pk_schedule.{proofs.Settled.none_leaves_set, specs.declared.phase.Phase.Phase, specs.Index.Index, specs.Index.MergeStands, specs.Index.merging, specs.Index.output}
use Rattle.pk_schedule.specs.declared.phase.Phase.TheVariants.{Idle as NoMerge}
use Rattle.pk_schedule.specs.Steps.{merge_left, has_no_merge, is_between}
use Rattle.pk_run.specs.Kept.{Kept as KeptRun, empty}
use Rattle.pk_jrn.specs.Epochs.{left_of as pages_left}
use Rattle.pk_law_work.specs.Backlog.{Backlog, due_level, is_tight}
use Rattle.pk_law_work.specs.Work.{work, filling, filling_from, merging as merging_left, merging_from}
use Rattle.pk_compact.specs.FreezeSteps.{taken_by}
use Rattle.pk_model.{specs.Found.Found, specs.Reading.reading, specs.Growth.Grows, specs.Growth.Reaches, specs.Growth.Goes, specs.Wear.roots, specs.Crashes.CrashFinds, specs.Crashes.background}
use Rattle.pk_model.proofs.Growing.{weaken, weaken_went}
use Rattle.pk_call.{specs.Sight.is_erased, specs.Sight.has_open_room, specs.Sight.IsIdle}
use Rattle.pk_law_steps.{specs.Under.places, proofs.Untouched.under_reads}
use Rattle.pk_values.{specs.State.fits_open, specs.State.has_left, specs.Placed.HoldsValues, specs.Placed.ValuesOnFlash, specs.Placed.IsOpenIn, proofs.Unchanged.block_elsewhere, specs.Laws.SameValues}
use Rattle.pk_live.specs.declared.open_block.OpenBlock.{OpenBlock}
use Rattle.pk_gc.specs.Stepping.{runs_in}
use Rattle.pk_parts.specs.Parts.{Parts, frames_of, sight_of, counts_of, index_of, block_if_open, outputs_of, backlog_of, is_reclaim_due, reclaim_left, has_moves, may_freeze, is_half, settled_parts}
use Rattle.pk_parts.{specs.Agreeing.DriveOnFlashWith, specs.Agreeing.DriveOnFlash, specs.Agreeing.IsWhole, proofs.Holding.filled_if, proofs.Holding.held_if}
use Rattle.pk_parts.{proofs.Reclaiming.reclaim_elsewhere, proofs.Reclaiming.holds_none, proofs.Unchanging.own, proofs.Unchanging.own_whole}
use Rattle.pk_parts.proofs.Halves.{between, whole_of, whole_like, is_whole, counted_of, pool_same}
use Rattle.pk_level.specs.Arenas.{unfilled}
use Rattle.pk_background.{specs.Filling.lacks_frames, specs.Reclaiming.ReclaimHolds, specs.Ticking.HasNoStep, specs.Ticking.WantsReclaim, specs.Ticking.WantsFreeze}
use Rattle.pk_background.proofs.Unread.{KeepsOwners, SameRead, same_top, still_without, agrees_elsewhere}
use Rattle.pk_background.proofs.Stills.{IsStill, SameStill, StillCut, read_still, still_end, went_end, still_erase, still_erase_failed}
use Rattle.pk_background.proofs.Beside.{IsIndexed, spare_still, beside_still, same_roots}

pub yes_no : (b : Bool) → b ≡ false → b ≡ true → ⊥
yes_no true e f = cc
yes_no false e f = cc

due_same : (shape : Shape) (b : Backlog) (left : ℕ) → due_level shape (record b { unready = left }) ≡ due_level shape b
unfolding due_level
due_same shape b left = refl

-- an erase lowers the work
erase_lowers : (shape : Shape) (b : Backlog) (left : ℕ) → left < b.unready → work shape (record b { unready = left }) < work shape b
unfolding work
erase_lowers shape b left less =
    let same : due_level shape (record b { unready = left }) ≡ due_level shape b = due_same shape b left in
    let merges : merging_left shape (record b { unready = left }) ≡ merging_left shape b = ap (λ l. merging_from shape l b.merge) same in
    let fills : filling shape (record b { unready = left }) ≡ filling shape b = ap (λ n. filling_from shape n b.unfilled) merges in
    omega (arith, merges, fills, less)

-- whether a reclaim is due follows from the shape and from the number of blocks with values
pub due_so : (d : Parts) (shape : Shape) (used : ℕ) → shape ≡ d.log.shape → used ≡ used_by Values d.pool.states
    → (used - length (outputs_of d) == data_blocks shape - 1) && not (fits_open shape d.values (most_pages shape)) ≡ is_reclaim_due d
due_so d shape used same many = λ i. (many i - length (outputs_of d) == data_blocks (same i) - 1) && not (fits_open (same i) d.values (most_pages (same i)))

-- what remains of a merge does not depend on the pool
merge_beside : (p : Phase) (x : Index) (q : Blocks) → merge_left p (record x { pool = q }) ≡ merge_left p x
merge_beside NoMerge x q = refl
merge_beside p x q = refl

-- ---- a spare block is erased

free_or_values : (p : Blocks) (b : ℕ) → slice_get p.states b ≡ Some Free → HoldsValues p b → ⊥
free_or_values p b free held = cc

module _ (d : Parts) (old new : BoardState) (a : DriveOnFlash d old.shape old.pages) (whole : IsWhole d)
    (block : ℕ) (free : slice_get d.pool.states block ≡ Some Free) (shared : IsShared d.pool.shape d.pool.states) where
  -- the pages of the index are kept
  abbrev pub Kept : ℕ → Type 0
  Kept = IsIndexed d.pool d.log.shape

  abbrev pub Still : Flash → List ℕ → Type 0
  Still = StillCut d.log.shape a.top.1 a.found d.log.pending Kept old.pages

  has : old.shape ≡ Some d.log.shape
  has = a.told_is ∙ ap (λ s. Some s) (sym a.with.shape_is)

  unread : (k : ℕ) → k / d.log.shape.block_pages ≡ block → IsStill d.log.shape a.top.1 a.found d.log.pending Kept k → ⊥
  unread = spare_still d d.log.shape old.pages a.top a.found a.without a.all (own_whole d old a whole) block
      (inl free) (behind_roots d.pool.shape d.pool.states block Free free_is_not_root free shared)

  -- a cut at which no page differs that is read is one of the step
  cut_is : d.log.pending ≡ [] → (f : Flash) (q : List ℕ) → Still f q → CrashFinds d.log.shape background old.pages a.all f q
  cut_is none f q is =
      let w = own_whole d old a whole in
      let s = d.log.shape in
      let held = under_reads s f [] a.top a.found a.without
      (still_without d d.values d.pool s old.pages f a.top a.found a.without a.all w (read_still s a.top.1 a.found d.log.pending Kept old.pages f is.1)) in
      let first = under_reads s old.pages [] a.top a.found a.without w.committed in
      let second = subst (λ p. reading s old.pages p ≡ Ok a.all) none (under_reads s old.pages d.log.pending a.top a.found a.all w.pending) in
      (is.0, held ∙ (sym first ∙ second))

  -- ---- by a call that did not fail

  module _ (made : new ≡ after_erase old block) (ready : IsReady new d.log.shape) (q : Blocks) (marked : q ≡ with_state d.pool block Ready) (fits : PoolOnFlash q new.pages)
      (owned : (b : ℕ) → IsOwned d.pool b → slice_get q.states b ≡ slice_get d.pool.states b) where
    abbrev pub after_it : Parts
    after_it = record d { pool = q }

    reached : Reaches d.log.shape old new Still
    reached = still_erase d.log.shape a.top.1 a.found d.log.pending Kept old.pages old has (λ k is. refl) block unread new made

    kept_same : SameStill d.log.shape a.top.1 a.found d.log.pending Kept old.pages new.pages
    kept_same = still_end d.log.shape a.top.1 a.found d.log.pending Kept old.pages old new reached

    same : SameRead d.log.shape a.top.1 a.found d.log.pending old.pages new.pages
    same = read_still d.log.shape a.top.1 a.found d.log.pending Kept old.pages new.pages kept_same

    all_same : (k : ℕ) → HoldsValues d.pool (k / d.log.shape.block_pages) → page_at new.pages k ≡ page_at old.pages k
    all_same k held =
        let pages : new.pages ≡ after (shape_or_none old.shape) (erase block) old.pages = ap (λ b. b.pages) made in
        let in_shape : new.pages ≡ after d.log.shape (erase block) old.pages = pages ∙ ap (λ o. after (shape_or_none o) (erase block) old.pages) has in
        ap (λ f. page_at f k) in_shape ∙ untouched_after d.log.shape (erase block) old.pages k (λ here. free_or_values d.pool block free (subst (λ b. HoldsValues d.pool b) here held))

    values_same : SameValues d.log.shape d.pool (outputs_of d) old.pages new.pages
    values_same k held no_output = all_same k held

    placed : ValuesOnFlash d.log.shape d.values q (outputs_of d) new.pages (places a.found d.log.pending)
    placed =
        subst (λ p. ValuesOnFlash d.log.shape d.values p (outputs_of d) new.pages (places a.found d.log.pending)) (sym marked)
        (block_elsewhere d.log.shape d.values d.pool (outputs_of d) block Free Ready old.pages new.pages (places a.found d.log.pending)
        (own_whole d old a whole).placed free refl refl values_same (subst (λ p. PoolOnFlash p new.pages) marked fits))

    -- each owner has as many blocks
    as_many : (o : Owner) → used_by o q.states ≡ used_by o d.pool.states
    as_many o =
        let all = count-set (is_owned_by o) d.pool.states block Free Ready free in
        ap (λ p. used_by o p.states) marked ∙ omega (arith, all)

    agrees_now : DriveOnFlashWith (record d { pool = q }) d.log.shape new.pages a.top a.found a.without a.all
    agrees_now =
        let owners : KeepsOwners d.pool q = λ b o is. owned b (o, is) ∙ is in
        let its : q.shape ≡ d.log.shape = ap (λ p. p.shape) marked ∙ (own_whole d old a whole).placed.shape_is in
        agrees_elsewhere d d.values q d.log.shape old.pages new.pages a.top a.found a.without a.all (own_whole d old a whole) same ready.flash owners
        (beside_still d d.log.shape old.pages a.top a.found a.without a.all (own_whole d old a whole) q new.pages owners its fits (as_many Journal) (as_many Meta) kept_same) placed
        (reclaim_elsewhere d.log.shape d.reclaim d.values d.pool q old.pages new.pages (places a.found d.log.pending)
        (own_whole d old a whole).reclaim (own_whole d old a whole).placed (as_many Values) (λ k held not_open. all_same k held))

    less_left : unready q.states + 1 ≡ unready d.pool.states
    less_left =
        let all = count-set (λ s. not (is_ready s)) d.pool.states block Free Ready free in
        ap (λ p. unready p.states + 1) marked ∙ omega (arith, all)

    lowers_erased : (sight_of (record d { pool = q })).work < (sight_of d).work
    lowers_erased =
        let merge = merge_beside d.schedule.phase (index_of d) q in
        let due : is_reclaim_due (record d { pool = q }) ≡ is_reclaim_due d = due_so d d.log.shape (used_by Values q.states) refl (as_many Values) in
        let may : may_freeze (record d { pool = q }) ≡ may_freeze d = ap (λ b. has_moves b d.reclaim.phase && is_tight d.log.shape (length d.log.active.entries) (pages_left d.log.epoch)) due in
        let backlog : backlog_of (record d { pool = q }) ≡ record (backlog_of d) { unready = unready q.states } = λ i.
        record (backlog_of d) { merge = merge i; reclaim = reclaim_left d.log.shape d.values.live.heads (due i) d.reclaim.phase; may_freeze = may i; unready = unready q.states } in
        let same = ap (work d.log.shape) backlog in
        let less = erase_lowers d.log.shape (backlog_of d) (unready q.states) (omega (arith, less_left)) in
        omega (arith, same, less)

    pub erase_holds : d.log.pending ≡ []
        → ReclaimHolds after_it d.log.shape a.all old new × Grows d.log.shape old.pages new.pages × (roots new ≤ roots old + 1) × ((sight_of after_it).work < (sight_of d).work)
    erase_holds none =
        let then_whole = whole_like d after_it refl (λ none_left. subst NoneLeaves (sym marked) (none_leaves_set d.pool block Ready refl none_left)) refl refl whole in
        let tree = same_top d.log.shape a.top.1 a.found d.log.pending old.pages new.pages same in
        let still_roots = same_roots d.log.shape old new has ready.shape_is tree in (
          record {
            stands = between after_it d.log.shape new.pages a.all (record { top = a.top; found = a.found; without = a.without; with = agrees_now; whole = then_whole });
            cuts = (reached.0, weaken reached.0 old new Still (CrashFinds d.log.shape background old.pages a.all) (cut_is none) reached.1, reached.2);
          },
          inl tree,
          omega (arith, still_roots),
          lowers_erased,
        )

  -- ---- by one that failed

  pub erase_broken : EraseFailed old new block → d.log.pending ≡ [] → Goes d.log.shape old new (CrashFinds d.log.shape background old.pages a.all) × (roots new ≤ roots old + 1)
  erase_broken failed none =
      let went = still_erase_failed d.log.shape a.top.1 a.found d.log.pending Kept old.pages old has (λ k is. refl) block unread new failed in
      let same = read_still d.log.shape a.top.1 a.found d.log.pending Kept old.pages new.pages (went_end d.log.shape a.top.1 a.found d.log.pending Kept old.pages old new went) in
      let still_roots = same_roots d.log.shape old new has (ap (λ b. b.shape) failed.rest ∙ has) (same_top d.log.shape a.top.1 a.found d.log.pending old.pages new.pages same) in
      ((went.0, weaken_went went.0 old new Still (CrashFinds d.log.shape background old.pages a.all) (cut_is none) went.1, went.2), omega (arith, still_roots))

-- ---- counts of blocks

-- a block that leaves is not erased
pub ready_freed : (states : List BlockState) → count_by is_ready (map freed_state states) ≡ count_by is_ready states
ready_freed [] = refl
ready_freed (RootBlock ∷ ss) = omega (arith, ready_freed ss, sum_by-cons {X = BlockState})
ready_freed (s ∷ ss) = omega (arith, ready_freed ss, sum_by-cons {X = BlockState})

pub some_free : (states : List BlockState) (b : ℕ) → slice_get states b ≡ Some Free → 1 ≤ count_by is_free states
some_free states b free =
    let all = count-set is_free states b Free Ready free in
    omega (arith, all)

-- ---- the room of the open block

pub count_free : (flash : Flash) (a n u : ℕ) → u ≤ n → ((k : ℕ) → a ≤ k → k < a + u → page_at flash k ≢ erased) → ((k : ℕ) → a + u ≤ k → k < a + n → page_at flash k ≡ erased)
    → length (filter (λ p. is_erased (page_at flash p)) (range_with_len a n)) ≡ n - u
count_free flash a zero u less before behind = omega (arith, less)
count_free flash a (suc n) zero less before behind =
    let here : is_erased (page_at flash a) ≡ true = ap is_erased (behind a (omega arith) (omega arith)) in
    let rest = count_free flash (a + 1) n 0 (omega arith) (λ k low high. absurd (omega (arith, low, high))) (λ k low high. behind k (omega (arith, low)) (omega (arith, high))) in
    ap (λ b. length (cond b (a ∷ filter (λ p. is_erased (page_at flash p)) (range_with_len (a + 1) n)) (filter (λ p. is_erased (page_at flash p)) (range_with_len (a + 1) n)))) here
    ∙ omega (arith, rest)
count_free flash a (suc n) (suc u) less before behind =
    let here : is_erased (page_at flash a) ≡ false = not_erased (page_at flash a) (before a (omega arith) (omega arith)) in
    let rest = count_free flash (a + 1) n u (omega (arith, less)) (λ k low high. before k (omega (arith, low)) (omega (arith, high)))
    (λ k low high. behind k (omega (arith, low)) (omega (arith, high))) in
    ap (λ b. length (cond b (a ∷ filter (λ p. is_erased (page_at flash p)) (range_with_len (a + 1) n)) (filter (λ p. is_erased (page_at flash p)) (range_with_len (a + 1) n)))) here
    ∙ (rest ∙ omega arith)
  where
    not_erased : (p : Page) → p ≢ erased → is_erased p ≡ false
    not_erased erased not = absurd (not refl)
    not_erased (whole bytes) not = refl
    not_erased torn not = refl

pub le_same : (m n u : ℕ) → u ≤ n → nat_le m (n - u) ≡ nat_le (u + m) n
le_same m n u within = elim (leb_tells m (n - u)) [
  | inl first ↦ first.0 ∙ sym (le-leb (u + m) n (let e = first.1 in omega (arith, e, within)))
  | inr past ↦ elim (leb_tells (u + m) n) [
    | inl first ↦ absurd (let e = first.1 in let f = past.1 in omega (arith, e, f, within))
    | inr other ↦ past.0 ∙ sym other.0
  ]
]

-- the open block takes every value, by the flash and by what memory keeps
room_is : (shape : Shape) (pool : Blocks) (flash : Flash) (o : Option OpenBlock) → MatchOption o (Unit {0}) (λ x. IsOpenIn shape pool flash x)
    → has_open_room shape flash (block_if_open o) ≡ has_left shape o (most_pages shape)
room_is shape pool flash None is = refl
room_is shape pool flash (Some o) is =
    let n = shape.block_pages in
    ap (λ k. nat_le (most_pages shape) k) (count_free flash (o.block * n) n o.used is.within is.written is.unwritten) ∙ le_same (most_pages shape) n o.used is.within

-- ---- when nothing remains to be done

-- none runs
pub no_phase : (p : Phase) → is_between p ≡ true → p ≡ NoMerge
no_phase NoMerge e = refl
no_phase p e = absurd (yes_no false refl e)

-- so no merge has steps left
pub none_left : (p : Phase) (x : Index) → is_between p ≡ true → merge_left p x ≡ None
none_left p x e = ap (λ q. merge_left q x) (no_phase p e)

-- no run is taken if no merge runs
none_taken : (x : Index) (flash : Flash) (root : Root) (found : Found) → MergeStands x.schedule.phase x flash root found → is_between x.schedule.phase ≡ true → length (output x.schedule).blocks ≡ 0
none_taken x flash root found stands e =
    let idle = subst (λ p. MergeStands p x flash root found) (no_phase x.schedule.phase e) stands in
    ap (λ (o : Option KeptRun). length (unwrap_or o (empty x.schedule.job.merger.shape x.schedule.job.target)).blocks) idle.output

-- if no merge is due, none runs, and nothing is frozen
pub no_merge_is : (x : Index) → has_no_merge x ≡ true → (is_between x.schedule.phase ≡ true) × (length x.log.frozen.entries ≡ 0)
no_merge_is x e =
    let parts = both_true (is_between x.schedule.phase) (length x.log.frozen.entries == 0) e in
    (parts.0, eqb-true (length x.log.frozen.entries) 0 parts.1)

-- whether a page lacks a frame
none_lacks : (d : Parts) → lacks_frames d ≡ false → unfilled d.levels (frames_of d) ≡ 0
none_lacks d e = eqb-true (unfilled d.levels (frames_of d)) 0 (not_not (unfilled d.levels (frames_of d) == 0) e)
  where
    not_not : (b : Bool) → not b ≡ false → b ≡ true
    not_not true e = refl
    not_not false e = absurd (yes_no true e refl)

lacks_some : (d : Parts) → lacks_frames d ≡ true → unfilled d.levels (frames_of d) ≡ 0 → ⊥
lacks_some d e none = yes_no (lacks_frames d) (ap not (eq-eqb (unfilled d.levels (frames_of d)) 0 none)) e

-- it is not idle if one does
pub busy_unfilled : (d : Parts) (old : BoardState) (a : DriveOnFlash d old.shape old.pages) → lacks_frames d ≡ true → IsIdle d.log.shape old.pages (sight_of d) → ⊥
busy_unfilled d old a lacks idle = lacks_some d lacks (filled_if (settled_parts d) d.log.shape old.pages a.top a.found a.without a.all (own d old a) idle.all_held)

module _ (d : Parts) (old : BoardState) (a : DriveOnFlash d old.shape old.pages) (shared : IsShared d.pool.shape d.pool.states) where
  -- as if the blocks that leave were free
  with : DriveOnFlashWith (settled_parts d) d.log.shape old.pages a.top a.found a.without a.all
  with = own d old a

  abbrev states : List BlockState
  states = (freed d.pool).states

  values_are : used_by Values d.pool.states ≡ used_by Values states
  values_are = counted_of d old.pages a.top a.found a.without a.course

  ready_are : count_by is_ready states ≡ count_by is_ready d.pool.states
  ready_are = ready_freed d.pool.states

  all_blocks : 2 + length (named a.top.1) + length (taken_by d.schedule.freeze) + length
      (output d.schedule).blocks + used_by Values states + count_by is_ready states + count_by is_free states ≡ d.log.shape.blocks
  all_blocks =
      let all = all_counted states in
      let split = length-append (a.top.1.newest ++ a.top.1.older) (concat a.top.1.runs) in
      let journal = with.index.journal_few in
      let meta = with.index.runs_few in
      let size = with.placed.size in
      let two = (shared_freed d.pool.shape d.pool.states shared).roots in
      omega (arith, all, split, journal, meta, size, two)

  open_room : has_open_room d.log.shape old.pages (block_if_open d.values.open_block) ≡ fits_open d.log.shape d.values (most_pages d.log.shape)
  open_room = room_is d.log.shape (freed d.pool) old.pages d.values.open_block with.placed.open_is

  -- every block without an owner is erased if no step remains
  none_unready : HasNoStep d → 2 + length (named a.top.1) + used_by Values d.pool.states + count_by is_ready d.pool.states ≡ d.log.shape.blocks
  none_unready no_step =
      let all = all_blocks in
      let taken = ap (λ (bs : List ℕ). length bs) no_step.no_freeze in
      let output = none_taken (index_of (settled_parts d)) old.pages a.top.1 a.found with.index.merge (no_merge_is (index_of d) no_step.no_merge).0 in
      let whole = whole_of d old.pages a.top a.found a.without a.course no_step.whole in
      let no_free = none_free states (subst (λ (p : Blocks). IsNowhere Free p.states) (sym (pool_same d whole.settles)) no_step.none_free) in
      let values = values_are in
      let ready = ready_are in
      omega (arith, all, no_free, taken, output, values, ready)

  -- if no reclaim runs, all blocks with values are in use
  blocks_are : runs_in d.reclaim.phase ≡ false → (counts_of d).blocks ≡ used_by Values d.pool.states
  blocks_are rests = ap (λ (os : List ℕ). used_by Values d.pool.states - length os) (holds_none d.reclaim.phase rests) ∙ omega arith

  -- one is due by what is seen of the drive
  pub due_is : ((counts_of d).blocks == data_blocks d.log.shape - 1) && not (has_open_room d.log.shape old.pages (block_if_open d.values.open_block)) ≡ is_reclaim_due d
  due_is = ap (λ b. ((counts_of d).blocks == data_blocks d.log.shape - 1) && not b) open_room

  all_unready : HasNoStep d → runs_in d.reclaim.phase ≡ false → 2 + length (named a.top.1) + (counts_of d).blocks + count_by is_ready d.pool.states ≡ d.log.shape.blocks
  all_unready no_step rests = let all = none_unready no_step in let same = blocks_are rests in omega (arith, all, same)

  -- nothing remains to be done if no step does
  pub none_idle : HasNoStep d → IsIdle d.log.shape old.pages (sight_of d)
  none_idle no_step =
      let merged = no_merge_is (index_of d) no_step.no_merge in
      record {
        top = a.top;
        is_newest = with.committed.is_top;
        no_merge = ap merging (no_phase d.schedule.phase merged.0);
        none_frozen = merged.1;
        no_reclaim = no_step.no_reclaim;
        all_erased = all_unready no_step no_step.no_reclaim;
        has_room = due_is ∙ no_step.none_due;
        all_held = held_if (settled_parts d) d.log.shape old.pages a.top a.found a.without a.all with (none_lacks d no_step.all_filled);
      }

  pub idle_rests : IsIdle d.log.shape old.pages (sight_of d) → is_reclaim_due d ≡ false
  idle_rests idle = sym due_is ∙ idle.has_room

  same_top_is : (x y : ℕ × Root) → ◌≡◌ {A = Option (ℕ × Root)} (Some x) (Some y) → x ≡ y
  same_top_is x y e = cc

  all_erased_is : IsIdle d.log.shape old.pages (sight_of d) → 2 + length (named a.top.1) + used_by Values d.pool.states + count_by is_ready d.pool.states ≡ d.log.shape.blocks
  all_erased_is idle =
      let top : idle.top ≡ a.top = same_top_is idle.top a.top (sym idle.is_newest ∙ with.committed.is_top) in
      let seen = subst (λ (t : ℕ × Root). 2 + length (named t.1) + (counts_of d).blocks + count_by is_ready d.pool.states ≡ d.log.shape.blocks) top idle.all_erased in
      let same = blocks_are idle.no_reclaim in
      omega (arith, seen, same)

  -- it is not idle if a freeze runs, or a free block was not erased
  pub busy_freeze : (length (taken_by d.schedule.freeze) == 0) ≡ false → IsIdle d.log.shape old.pages (sight_of d) → ⊥
  busy_freeze some idle =
      let all = all_blocks in
      let whole = all_erased_is idle in
      let values = values_are in
      let ready = ready_are in
      let none : length (taken_by d.schedule.freeze) ≡ 0 = omega (arith, all, whole, values, ready) in
      yes_no (length (taken_by d.schedule.freeze) == 0) some (eq-eqb (length (taken_by d.schedule.freeze)) 0 none)

  busy_free : (block : ℕ) → slice_get states block ≡ Some Free → IsIdle d.log.shape old.pages (sight_of d) → ⊥
  busy_free block free idle =
      let all = all_blocks in
      let one = some_free states block free in
      let whole = all_erased_is idle in
      let values = values_are in
      let ready = ready_are in
      omega (arith, all, one, whole, values, ready)

  pub busy_spare : (block : ℕ) → slice_get d.pool.states block ≡ Some Free → IsIdle d.log.shape old.pages (sight_of d) → ⊥
  busy_spare block free idle = busy_free block (state_after d.pool.states block Free free) idle

  -- nor if a pair is half made
  pub busy_half : is_half d ≡ true → IsIdle d.log.shape old.pages (sight_of d) → ⊥
  busy_half half idle = elim a.course [
    | inl w ↦ not_both (is_half d) half (is_whole d w)
    | inr (inl root) ↦ elim root.index.busy [
      | inl some ↦ (let none = idle.none_frozen in omega (arith, some, none))
      | inr there ↦ busy_free there.0 there.1 idle
    ]
    | inr (inr commit) ↦ yes_no (runs_in d.reclaim.phase) idle.no_reclaim (ap runs_in commit.phase)
  ]

  -- nor if a reclaim runs or is due, or a freeze is needed
  pub busy_reclaim : WantsReclaim d → IsIdle d.log.shape old.pages (sight_of d) → ⊥
  busy_reclaim (inl runs) idle = yes_no (runs_in d.reclaim.phase) idle.no_reclaim runs
  busy_reclaim (inr due) idle = yes_no (is_reclaim_due d) (idle_rests idle) due

  pub busy_wanted : WantsFreeze d → IsIdle d.log.shape old.pages (sight_of d) → ⊥
  busy_wanted (inl some) idle = busy_freeze some idle
  busy_wanted (inr (runs, may)) idle = busy_reclaim (inl runs) idle
