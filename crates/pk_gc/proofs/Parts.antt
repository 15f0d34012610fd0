-- A step of a reclaim, put together from its parts.
use Rattle.std.proofs.Common.{◌≡◌, ℕ, ◌+◌, ◌*◌, ◌<◌, ◌≤◌, List, [], sym, ap, subst, ◌∙◌}
use Rattle.std.specs.Prelude.{slice_index}
use Rattle.pk_base.specs.Shape.{Shape}
use Rattle.pk_nand.specs.BoardState.{BoardState}
use Rattle.pk_jrn.specs.Epochs.{JournalEpoch}
use Rattle.pk_gc.{specs.declared.course.Course.Course, specs.declared.reclaimed.Reclaimed.Reclaimed, specs.declared.reclaimed.Committed.Committed, specs.declared.moves.Move.Move}
use Rattle.pk_gc.specs.declared.reclaimed.Committed.TheVariants.{None, NeedsFreeze, All}
use Rattle.pk_gc.specs.Stepping.{Hands, CanEnd, Finishes, moved_in, handed_over, victim_given}
use Rattle.pk_gc.specs.Asking.{CanFinish, ReclaimFinished, IsBehindCommit}
use Rattle.pk_gc.{specs.declared.course.Phase.TheVariants.Idle, specs.declared.course.Phase.TheVariants.Commits, specs.State.JobState, specs.State.CanGoAll, specs.State.heads_all, specs.State.source}
use Rattle.pk_gc.{specs.Victims.AreDead, specs.Committing.BecameOf, specs.Committing.Adds, specs.Committing.Refuses, specs.Committing.entries_left}
use Rattle.pk_live.specs.Values.{block_sum}

-- ---- the search for the next head

-- a head in the rest of the victim that no other one precedes
pub record IsFirstHead (shape : Shape) (c : Course) (heads : List ℕ) (page : ℕ) : Type 0 where
  pub behind : source shape c ≤ page
  pub inside : page < c.victim * shape.block_pages + shape.block_pages
  pub head : 0 < slice_index heads page
  pub first : AreDead heads (source shape c) page

-- the first page of a block, of n pages, and its end
module _ (shape : Shape) (c : Course) (n m : ℕ)
    (n_is : n ≡ shape.block_pages) (m_is : m ≡ shape.block_pages) where
  start_is : c.victim * n + c.seen ≡ source shape c
  start_is = λ i. c.victim * n_is i + c.seen

  end_is : c.victim * n + m ≡ c.victim * shape.block_pages + shape.block_pages
  end_is = λ i. c.victim * n_is i + m_is i

  -- no head remains
  pub dead_to_end : (heads : List ℕ) → AreDead heads (c.victim * n + c.seen) (c.victim * n + m)
      → AreDead heads (source shape c) (c.victim * shape.block_pages + shape.block_pages)
  dead_to_end heads dead =
      subst (λ (x : ℕ). AreDead heads (source shape c) x) end_is
      (subst (λ (x : ℕ). AreDead heads x (c.victim * n + m)) start_is dead)

  pub first_head : (heads : List ℕ) (page : ℕ)
      → (c.victim * n + c.seen ≤ page) × (page < c.victim * n + m)
      × (0 < slice_index heads page) × AreDead heads (c.victim * n + c.seen) page
      → IsFirstHead shape c heads page
  first_head heads page found = record {
    behind = subst (λ (x : ℕ). x ≤ page) start_is found.0;
    inside = subst (λ (x : ℕ). page < x) end_is found.1;
    head = found.2;
    first = subst (λ (x : ℕ). AreDead heads x page) start_is found.3;
  }

-- ---- the end

module _ (c : Course) (job : JobState) (h : Hands) (old : BoardState) (epoch : JournalEpoch)
    (new : BoardState) where
  -- what became of the moves that remain
  abbrev CommitsIn : Committed → Type 0
  CommitsIn committed =
      BecameOf (entries_left h.live.heads job.moves) h.active h.epoch old epoch new committed

  -- If the output may take the victim's place, the end can be tried.
  pub can_finish : (committed : Committed) (kept : JobState) → CommitsIn committed
      → kept.moves ≡ job.moves → CanEnd c job h
      → CanFinish committed c kept h.live h.front h.pool h.active
  can_finish committed kept commits same end = record {
    goes = goes committed commits;
    none = none committed commits;
    closed = end.closed;
    empty = subst (λ (ms : List Move). block_sum (heads_all h.live.heads ms) h.live.block_pages c.victim ≡ 0)
        (sym same) end.empty;
    owned = end.owned;
    open_exists = end.open_exists;
  }
    where
      goes : (x : Committed) → CommitsIn x → x ≡ All → CanGoAll h.live.block_pages h.active.capacity h.live.heads h.active.entries kept.moves
      goes None commits is = cc
      goes NeedsFreeze commits is = cc
      goes All commits is =
          subst (λ (ms : List Move). CanGoAll h.live.block_pages h.active.capacity h.live.heads h.active.entries ms)
          (sym same) (end.goes commits.room)

      none : (x : Committed) → CommitsIn x → x ≡ None → heads_all h.live.heads kept.moves ≡ h.live.heads
      none None commits is =
          subst (λ (ms : List Move). heads_all h.live.heads ms ≡ h.live.heads) (sym same) (end.none commits.0)
      none NeedsFreeze commits is = cc
      none All commits is = cc

  module _ (job' : JobState) (h' : Hands) (r : Reclaimed) where
    -- the end was tried, with this answer
    abbrev FinishesIn : Reclaimed → Type 0
    FinishesIn x = Finishes c job h old job' h' new x

    -- commit and end together finish the reclaim, if the commit left this job
    pub finishes : (committed : Committed) (kept : JobState) → CommitsIn committed
        → IsBehindCommit committed c.victim (entries_left h.live.heads job.moves) job kept
        → ReclaimFinished committed c kept (record h { epoch = epoch }) job' h' r → FinishesIn r
    finishes None kept commits same done =
        let rests : record h { epoch = epoch } ≡ h = λ i. record h { epoch = commits.1.kept i } in
        subst FinishesIn (sym done.0) (record {
          job_is = done.1 ∙ (λ i. record (same i) { phase = Idle; entries = [] });
          none = commits.0;
          hands = done.2 ∙ ap (λ (x : Hands). victim_given c.victim (handed_over c x)) rests;
          board = commits.1.same;
        })
    finishes NeedsFreeze kept commits same done =
        let es = entries_left h.live.heads job.moves in
        let epoch_is : h'.epoch ≡ epoch = ap (λ (x : Hands). x.epoch) done.2 in
        let refuses : Refuses es h.active h.epoch old h'.epoch new =
        subst (λ (e : JournalEpoch). Refuses es h.active h.epoch old e new) (sym epoch_is) commits in
        let hands : h' ≡ h = done.2 ∙ (λ i. record h { epoch = commits.rests.kept i }) in
        subst FinishesIn (sym done.0) (done.1 ∙ same, hands, refuses)
    finishes All kept commits same done =
        let es = entries_left h.live.heads job.moves in
        let epoch_is : h'.epoch ≡ epoch = ap (λ (x : Hands). x.epoch) done.2 in
        let adds : Adds es h.active h.epoch old h'.epoch new =
        subst (λ (e : JournalEpoch). Adds es h.active h.epoch old e new) (sym epoch_is) commits in
        let page_is : job'.page ≡ kept.page = ap (λ (j : JobState). j.page) done.1 in
        subst FinishesIn (sym done.0) (record {
          job_is = done.1 ∙ same ∙ (λ i. record job { phase = Commits c.victim; entries = es; page = sym page_is i });
          adds = adds;
          hands = done.2
              ∙ (λ i. record (handed_over c (moved_in (same i) h)) { epoch = sym epoch_is i });
        })
