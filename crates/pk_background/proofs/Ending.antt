-- The second program of the commit of a reclaim's moves, stated for the drive.
use Rattle.std.proofs.Common.{◌≡◌, inl, inr, ℕ, ◌+◌, ◌-◌, ◌*◌, ◌<◌, if◌then◌else◌, refl, sym, ap, subst, ◌∙◌, arith, Bool, true, length, Result, Ok, Err}
use Rattle.pk_base.{specs.Shape.Shape, specs.Shape.IsShape, specs.Shape.epoch_commits, specs.Page.Flash, specs.Page.page_at, specs.Page.page_in, specs.Page.commit_page, specs.Map.Map}
use Rattle.pk_base.proofs.CommitPages.{within, second}
use Rattle.pk_jrn.specs.Epochs.{JournalEpoch, pages_of, next_page, before_half}
use Rattle.pk_call.specs.Half.{HasHalf, MakesPair}
use Rattle.pk_plan.specs.declared.owner.Owner.TheVariants.{Values}
use Rattle.pk_rootfmt.specs.Root.{Root}
use Rattle.pk_nand.{specs.declared.types.Fault.Fault, specs.declared.types.Fault.TheVariants.Reading, specs.declared.types.Fault.TheVariants.Stopped, specs.BoardState.BoardState, specs.Calls.IsReady}
use Rattle.pk_nand.specs.Effects.{NoFault, OneProgram, OnlyFlash, Stops}
use Rattle.pk_pool.specs.Blocks.{Blocks, used_by}
use Rattle.pk_model.{specs.Found.Found, specs.Growth.Grows, specs.Growth.Goes, specs.Crashes.CrashFinds, specs.Crashes.background, specs.Wear.roots}
use Rattle.pk_gc.{specs.declared.course.Course.Course, specs.declared.course.Phase.Phase, specs.declared.course.Phase.TheVariants.Copies, specs.declared.course.Phase.TheVariants.Commits}
use Rattle.pk_gc.{specs.declared.reclaimed.Reclaimed.Reclaimed, specs.Standing.held_blocks, specs.Stepping.runs_in}
use Rattle.pk_gc.specs.declared.reclaimed.Reclaimed.TheVariants.{Worked, NeedsFreeze, Ended}
use Rattle.pk_values.specs.State.{ValuesState}
use Rattle.pk_log.specs.State.{LogState}
use Rattle.pk_reclaim.specs.Space.{ReclaimParts, HalfIn, HasRoom as HasSpace, MayReclaim}
use Rattle.pk_reclaim.specs.Steps.{MakesWhole, PairIn, RoomIn, RoomBehind, RepeatsIn, StillIn, KeepsLog, with_newest}
use Rattle.pk_reclaim.specs.Steps as steps
use Rattle.pk_parts.{specs.Parts.Parts, specs.Parts.commits_in, specs.Parts.block_if_open, specs.Parts.sight_of, specs.Moves.StandsBetween, specs.Moves.MayCommit}
use Rattle.pk_parts.{specs.Agreeing.DriveOnFlashWith, specs.Agreeing.IsHalfCommit, specs.Staying.Stays, proofs.Halves.commit_of, proofs.Halves.with_whole, proofs.Standing.found_between}
use Rattle.pk_background.{specs.Pairing.Finished, specs.Pairing.FinishesCommit, specs.Pairing.FinishesCommitOr, specs.Reclaiming.RunsOn, specs.Reclaiming.space_of, proofs.Finishing.HalfHere}
use Rattle.pk_background.{proofs.Finishing.half_here, proofs.Finishing.on_own_shape}
use Rattle.pk_background.proofs.Reclaimed.{over_space, space_stands, drive_moved, settles_then, leaves_index}
use Rattle.pk_background.proofs.ReclaimWork.{worked_less}

-- the commit is half made
abbrev pub CommitHere : Parts → Flash → Map → Type 0
CommitHere d flash m = HalfHere d flash m (λ top found w. IsHalfCommit d flash top found w)

commit_here : (d : Parts) (flash : Flash) (m : Map) → StandsBetween d d.log.shape flash m → commits_in d.reclaim.phase ≡ true → CommitHere d flash m
commit_here d flash m s commits =
    let half = commit_of d flash s.top s.found s.without s.course commits in half_here d flash m (λ top found w. IsHalfCommit d flash top found w) s half.none_pending half

-- what the step asks
may_end : (d : Parts) (flash : Flash) (m : Map) (h : CommitHere d flash m) → MayReclaim (space_of d) flash h.top h.found m
may_end d flash m h =
    let with = with_whole d d.log.shape flash h.top h.found m m h.half.settles h.with in
    let half : HalfIn d.reclaim.phase (space_of d) flash h.top h.found m = subst (λ (p : Phase). HalfIn p (space_of d) flash h.top h.found m) (sym h.half.phase) h.half.half in
    record {
      stands = space_stands d d.log.shape flash h.top h.found m m h.half.none_pending with half h.half.settles.none_leaves;
      turn = inl (ap runs_in h.half.phase);
    }

pub some_end : (d : Parts) (board : BoardState) → MayCommit d board → commits_in d.reclaim.phase ≡ true
    → (top : ℕ × Root) × (found : Found) × (m : Map) × MayReclaim (space_of d) board.pages top found m
some_end d board may commits =
    let m = may.stands.0 in
    let h = commit_here d board.pages m may.stands.1 commits in
    (h.top, h.found, m, may_end d board.pages m h)

copies_commits : {X : Type 0} (p : Phase) (c : Course) (victim : ℕ) → p ≡ Copies c → p ≡ Commits victim → X
copies_commits p c victim one other = absurd (let clash : Copies c ≡ Commits victim = sym one ∙ other in let z : ⊥ = cc in z)

module _ (d : Parts) (x' : ReclaimParts) (old new : BoardState) (keeps : KeepsLog (space_of d) x') (ready : IsReady new d.log.shape) (grows : Grows d.log.shape old.pages new.pages) where
  abbrev then_drive : Parts
  then_drive = over_space d x'

  module _ (w : steps.Works (space_of d) old x' new) (m : Map) (h : CommitHere d old.pages m) where
    whole : MakesWhole h.half.victim (space_of d) old x' new
    whole = subst (λ (p : Phase). PairIn p (space_of d) old x' new) h.half.phase w.pair

    now : steps.SpaceMoves (space_of d) old h.top h.found m x' new
    now = w.moves h.top h.found m (may_end d old.pages m h)

    still : now.newest ≡ h.found.newest
    still = subst (λ (p : Phase). StillIn p h.found now.newest) h.half.phase now.still

    found_is : with_newest h.found now.newest ≡ h.found
    found_is = ap (λ es. with_newest h.found es) still

    with_then : DriveOnFlashWith then_drive d.log.shape new.pages h.top (with_newest h.found now.newest) m m
    with_then =
        drive_moved d x' keeps d.log.shape old new h.top h.found m m h.half.none_pending ready (with_whole d d.log.shape old.pages h.top h.found m m h.half.settles h.with) now

    finished_here : Finished d then_drive d.log.shape m old new
    finished_here = record {
      stands = record {
        top = h.top;
        found = with_newest h.found now.newest;
        without = m;
        with = with_then;
        whole = record {
          settles = settles_then d x' keeps new.pages h.top (with_newest h.found now.newest) m h.half.settles.whole now.stands;
          moves = ap commits_in whole.phase;
          epoch = ap (λ (l : LogState). l.epoch.half) whole.log;
        };
      };
      same_found = λ was. found_is ∙ found_between d d d.log.shape old.pages m m was (record { top = h.top; found = h.found; without = m; with = h.with; course = inr (inr h.half) });
      cuts = now.cuts;
      grows = grows;
    }

    log_is : x'.log ≡ record d.log { next = x'.log.next; epoch = record d.log.epoch { half = x'.log.epoch.half } }
    log_is = let T : LogState → Type 0 = λ l. l ≡ record d.log { next = l.next; epoch = record d.log.epoch { half = l.epoch.half } } in subst T (sym whole.log) refl

    counted : used_by Values x'.pool.states ≡ used_by Values d.pool.states
    counted = ap (λ (p : Blocks). used_by Values p.states) whole.pool

    -- the pair is that of the epoch's last commit
    abbrev half_is : HasHalf d.log.shape old.pages
    half_is =
        let e : JournalEpoch = d.log.epoch in
        let logs = h.with.index.logs in
        let made = h.half.half.can.half in
        let inside : e.used - 1 < epoch_commits e.shape = omega (arith, made.fits.within, made.some) in
        let pages : pages_of e ≡ 2 * e.used - 1 = ap (λ (b : Bool). if b then 2 * e.used - 1 else 2 * e.used) made.is_half in
        let next : page_in e.shape e.blocks (2 * (e.used - 1) + 1) ≡ commit_page e.shape e.blocks (e.used - 1) + 1 =
        second e.shape e.blocks (subst IsShape (sym logs.epoch_shape) logs.is_shape) (e.used - 1) in
        record {
          top = h.top;
          is_newest = logs.is_top;
          page = next_page (before_half e);
          under = inr (
            e.used - 1,
            subst (λ (s : Shape). e.used - 1 < epoch_commits s) logs.epoch_shape inside,
            λ i. commit_page (logs.epoch_shape i) (logs.epoch_blocks i) (e.used - 1),
          );
          bytes = whole.bytes;
          first = whole.first;
          second = ap (page_at old.pages) (sym next)
              ∙ made.fits.behind made.more (2 * (e.used - 1) + 1) (omega (arith, pages, made.some)) (within e.shape (e.used - 1) inside);
        }

    pair_made : MakesPair d.log.shape old.pages new.pages
    pair_made = record { half = half_is; pages = whole.pages; same_root = with_then.committed.is_top ∙ sym h.with.committed.is_top }

    -- the reclaim holds a block still
    one_held : length (held_blocks x'.job.phase) ≡ length (held_blocks d.reclaim.phase)
    one_held = ap (λ (p : Phase). length (held_blocks p)) whole.phase ∙ sym (ap (λ (p : Phase). length (held_blocks p)) h.half.phase)

    stays_then : Stays d then_drive
    stays_then = record {
      fresh = record { stays = λ more. ap (λ (l : LogState). l.epoch.takes_more) whole.log ∙ more; begun = inl (ap (λ (l : LogState). l.root.epoch) whole.log) };
      blocks = record {
        used = λ i. counted i - one_held i;
        open_same = ap (λ (v : ValuesState). block_if_open v.open_block) whole.values;
      };
    }

    room : HasSpace x'
    room = subst (λ (p : Phase). RoomIn p x') whole.phase w.room

    lowers : (sight_of then_drive).work < (sight_of d).work
    lowers = worked_less d then_drive (leaves_index d x' keeps) (inl (ap runs_in h.half.phase)) w.falls (subst (λ (p : Phase). RunsOn p d then_drive) (sym whole.phase) room)

  finished_all : steps.Works (space_of d) old x' new → commits_in d.reclaim.phase ≡ true → (shape : Shape) (m : Map) → StandsBetween d shape old.pages m → Finished d then_drive shape m old new
  finished_all w commits = on_own_shape d old.pages (λ t m. Finished d then_drive t m old new) (λ m there. finished_here w m (commit_here d old.pages m there commits))

  pub finishes_commit : steps.Works (space_of d) old x' new → MayCommit d old → commits_in d.reclaim.phase ≡ true → NoFault old new → OneProgram old new → OnlyFlash old new → roots new ≡ roots old
      → FinishesCommit d then_drive old new
  finishes_commit w may commits sound program rest same_roots =
      let m = may.stands.0 in
      let h = commit_here d old.pages m may.stands.1 commits in
      let is = whole w m h in
      record {
        finishes = record {
          finished = finished_all w commits;
          log = log_is w m h;
          rest = ap (λ (v : ValuesState). record d { log = x'.log; values = v; reclaim = x'.job; pool = x'.pool }) is.values;
          counted = counted w m h;
          stays = stays_then w m h;
          lowers = lowers w m h;
          works = record { no_fault = sound; reads = program.reads; rest = rest };
          program = program;
          pair = pair_made w m h;
          same_roots = same_roots;
          ready = ready;
        };
        victim = h.half.victim;
        was = h.half.phase;
        phase = is.phase;
        leaves = leaves_index d x' keeps;
        falls = w.falls;
        room = room w m h;
      }

-- ---- the program failed

fails_commit : (d : Parts) (old new : BoardState) → steps.ReclaimBroken (space_of d) old new → commits_in d.reclaim.phase ≡ true → (shape : Shape) (m : Map) → StandsBetween d shape old.pages m
    → Goes shape old new (CrashFinds shape background old.pages m)
fails_commit d old new breaks commits = on_own_shape d old.pages (λ t m. Goes t old new (CrashFinds t background old.pages m)) (λ m there.
    let h = commit_here d old.pages m there commits in breaks h.top h.found m (may_end d old.pages m h))

-- ---- by the answer

module _ (d : Parts) (x' : ReclaimParts) (old new : BoardState) (may : MayCommit d old)
    (commits : commits_in d.reclaim.phase ≡ true) (keeps : KeepsLog (space_of d) x') (ready : IsReady new d.log.shape)
    (grows : Grows d.log.shape old.pages new.pages) (same_roots : roots new ≡ roots old) (rest : OnlyFlash old new) where
  its_phase : (victim : ℕ) × (d.reclaim.phase ≡ Commits victim)
  its_phase = let h = commit_here d old.pages may.stands.0 may.stands.1 commits in (h.half.victim, h.half.phase)

  pub one_program : (result : Result Reclaimed Fault) → RepeatsIn d.reclaim.phase old new result → OneProgram old new
  one_program result repeats = (subst (λ (p : Phase). RepeatsIn p old new result) its_phase.1 repeats).0

  pub not_read : (result : Result Reclaimed Fault) → RepeatsIn d.reclaim.phase old new result → result ≡ Err Reading → ⊥
  not_read result repeats = (subst (λ (p : Phase). RepeatsIn p old new result) its_phase.1 repeats).1

  pub commit_ended : (r : Reclaimed) (result : Result Reclaimed Fault) → steps.Does (space_of d) old x' new r
      → NoFault old new → RepeatsIn d.reclaim.phase old new result → FinishesCommitOr d (over_space d x') old new (Ok tt)
  commit_ended Worked result w sound repeats = finishes_commit d x' old new keeps ready grows w may commits sound (one_program result repeats) rest same_roots
  commit_ended NeedsFreeze result w sound repeats = copies_commits d.reclaim.phase w.course its_phase.0 w.copies its_phase.1
  commit_ended Ended result e sound repeats = absurd (subst (λ (p : Phase). RoomBehind p (space_of d) x') its_phase.1 e.room)

  pub commit_failed : (e : Fault) (result : Result Reclaimed Fault) → result ≡ Err e
      → (result ≡ Err Stopped → steps.ReclaimBroken (space_of d) old new × Stops old new) → RepeatsIn d.reclaim.phase old new result
      → FinishesCommitOr d (over_space d x') old new (Err e)
  commit_failed Reading result is broken repeats = absurd (not_read result repeats is)
  commit_failed Stopped result is broken repeats =
      let both = broken is in (
        refl,
        ap (λ (l : LogState). l.pending) keeps,
        record { fails = fails_commit d old new both.0 commits; stops = both.1; program = one_program result repeats; no_root = omega (arith, same_roots); ready = ready },
      )
