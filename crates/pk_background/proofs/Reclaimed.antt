-- A step of a reclaim, stated for the drive.
use Rattle.std.proofs.Common.{◌≡◌, inl, inr, ℕ, ◌/◌, [], List, refl, sym, ◌∙◌, ap, subst, true, false, Some, Result, Ok, Err}
use Rattle.std.{specs.Prelude.slice_get, specs.Prelude.IfOk, specs.Prelude.IfErr, specs.Prelude.◌++◌, specs.List.concat}
use Rattle.pk_base.{specs.Shape.Shape, specs.Shape.IsShape, specs.Page.Flash, specs.Page.IsFlash, specs.Entry.Entry, specs.Entry.Place, specs.Key.Key, specs.Map.Map, proofs.Logic.not_both}
use Rattle.pk_rootfmt.specs.Root.{Root}
use Rattle.pk_plan.specs.declared.owner.Owner.TheVariants.{Journal, Meta}
use Rattle.pk_pool.{specs.declared.state.BlockState.TheVariants.Owned, specs.Blocks.Blocks, specs.Blocks.NoneLeaves, specs.Blocks.PoolOnFlash}
use Rattle.pk_root.specs.Installing.{repeats_next}
use Rattle.pk_nand.{specs.BoardState.BoardState, specs.declared.types.Fault.Fault, specs.declared.types.Fault.TheVariants.Reading, specs.declared.types.Fault.TheVariants.Stopped, specs.Effects.Stops}
use Rattle.pk_nand.specs.Calls.{IsReady}
use Rattle.pk_model.{specs.Found.Found, specs.Laws.AnyByRecursion, specs.Growth.Reaches, specs.Growth.Goes, specs.Crashes.CrashFinds, specs.Crashes.background, proofs.SamePages.any_front}
use Rattle.pk_law_steps.specs.Under.{IsUnder, places}
use Rattle.pk_gc.{specs.Stepping.runs_in, specs.Standing.held_blocks, specs.Standing.ReclaimOnFlash, specs.declared.course.Phase.Phase, specs.declared.reclaimed.Reclaimed.Reclaimed}
use Rattle.pk_gc.specs.declared.course.Phase.TheVariants.{Idle, Copies, Commits}
use Rattle.pk_gc.specs.declared.reclaimed.Reclaimed.TheVariants.{Worked, NeedsFreeze, Ended}
use Rattle.pk_scan.specs.Used.{IsUseOf}
use Rattle.pk_parts.{proofs.Using.use_elsewhere, specs.Parts.Parts, specs.Parts.frames_of, specs.Parts.index_of, specs.Parts.outputs_of, specs.Parts.commits_in, specs.Moves.StandsFor}
use Rattle.pk_parts.{specs.Agreeing.DriveOnFlashWith, specs.Agreeing.IsWhole, specs.Agreeing.IsHalfAtMost, proofs.Halves.with_settled, proofs.Halves.whole_like, proofs.Halves.half_in}
use Rattle.pk_values.specs.Placed.{ValuesOnFlash}
use Rattle.pk_merge.specs.Elsewhere.{IsElsewhere}
use Rattle.pk_compact.specs.FreezeSteps.{IsTaken, taken_by}
use Rattle.pk_log.{specs.State.LogState, specs.Logs.LogOnFlash}
use Rattle.pk_schedule.{specs.Index.Index, specs.Index.IndexOnFlash, specs.Index.IsSettled, proofs.Keeping.KeepsTaken, proofs.Keeping.index_then, proofs.Keeping.member_all}
use Rattle.pk_reclaim.specs.Space as spaces
use Rattle.pk_reclaim.{specs.Space.ReclaimParts, specs.Space.SpaceOnFlash, specs.Space.HalfIn, specs.Steps.SpaceMoves, specs.Steps.KeepsLog, specs.Steps.KeepsOthers, specs.Steps.with_newest}
use Rattle.pk_reclaim.specs.Steps as steps
use Rattle.pk_background.specs.Reclaiming.{MayReclaim, HoldsAll, FailsAll, LeavesIndex, Lessens, RunsOn, DoesReclaim, CannotRead, FailsReclaim, space_of}
use Rattle.pk_background.proofs.Indexing.{agrees_like}

-- ---- the space of a drive

-- the drive with another space
abbrev pub over_space : Parts → ReclaimParts → Parts
over_space d x = record d { log = x.log; values = x.values; reclaim = x.job; pool = x.pool }

module _ (d : Parts) (shape : Shape) (flash : Flash) (top : ℕ × Root) (found : Found) (without m : Map) (none : d.log.pending ≡ []) (with : DriveOnFlashWith d shape flash top found without m)
    (half : HalfIn d.reclaim.phase (space_of d) flash top found m) (none_leaves : NoneLeaves d.pool) where
  pub space_stands : SpaceOnFlash (space_of d) flash top found m
  space_stands =
      let U : Shape → List Entry → Type 0 = λ s p. IsUnder s flash p top found m in
      let V : Shape → List Entry → Type 0 = λ s p. ValuesOnFlash s d.values d.pool (outputs_of d) flash (places found p) in
      let R : Shape → List Entry → Type 0 = λ s p. ReclaimOnFlash s d.reclaim d.values.live d.pool flash (places found p) in
      record {
        logs = with.index.logs;
        none_pending = none;
        under = subst (λ p. U d.log.shape p) none (subst (λ s. U s d.log.pending) (sym with.shape_is) with.pending);
        placed = subst (λ p. V d.log.shape p) none (subst (λ s. V s d.log.pending) (sym with.shape_is) with.placed);
        reclaim = subst (λ p. R d.log.shape p) none (subst (λ s. R s d.log.pending) (sym with.shape_is) with.reclaim);
        half = half;
        journal = with.index.journal;
        runs = with.index.runs;
        none_leaves = none_leaves;
      }

-- no commit of a drive that is whole is half made
whole_in : (d : Parts) (flash : Flash) (top : ℕ × Root) (found : Found) (m : Map) → IsWhole d → HalfIn d.reclaim.phase (space_of d) flash top found m
whole_in d flash top found m whole = half_in d.reclaim.phase (space_of d) flash top found m whole.moves whole.epoch

-- it may make a step of a reclaim, for each map that it represents
pub may_for : (d : Parts) (board : BoardState) (shape : Shape) (m : Map) → MayReclaim d board → (s : StandsFor d shape board.pages m) → spaces.MayReclaim (space_of d) board.pages s.top s.found m
may_for d board shape m may s =
    record { stands = space_stands d shape board.pages s.top s.found s.without m may.none_pending s.with (whole_in d board.pages s.top s.found m s.whole) s.whole.settles.none_leaves; turn = may.turn }

pub may_reclaim : (d : Parts) (board : BoardState) (may : MayReclaim d board) → (top : ℕ × Root) × (found : Found) × (m : Map) × spaces.MayReclaim (space_of d) board.pages top found m
may_reclaim d board may = let s = may.may.stands in (s.1.top, s.1.found, s.0, may_for d board d.log.shape s.0 may s.1)

-- ---- the index after a step

module _ (x : Index) (frames : ℕ) (old new : Flash) (top : ℕ × Root) (found : Found) (stands : IndexOnFlash x frames old top found)
    (pool' : Blocks) (others : KeepsOthers x.log.shape top.1 x.pool old pool' new) where
  at_shape : (b k : ℕ) → k / x.pool.shape.block_pages ≡ b → k / x.log.shape.block_pages ≡ b
  at_shape b k here = ap (λ (s : Shape). k / s.block_pages) (sym stands.pool_shape) ∙ here

  runs_apart : PoolOnFlash pool' new → IsElsewhere x.pool old pool' new
  runs_apart fits = record {
    shape = others.shape_is;
    fits = fits;
    used = others.meta_used;
    owned = others.meta;
    same = λ b k owned here. others.meta_pages k (subst (λ (n : ℕ). slice_get x.pool.states n ≡ Some (Owned Meta)) (sym (at_shape b k here)) owned);
  }

  -- the blocks that a freeze has taken are none of the newest epoch
  taken_apart : KeepsTaken x.pool (taken_by x.schedule.freeze) old pool' new
  taken_apart = record {
    owned = others.journal;
    used = others.journal_used;
    same = λ b k is here.
        let t = member_all (IsTaken x.log.shape x.pool old top.1) (taken_by x.schedule.freeze) b stands.freeze.taken is in
        let at : k / x.log.shape.block_pages ≡ b = at_shape b k here in
        others.journal_pages k (subst (λ (n : ℕ). slice_get x.pool.states n ≡ Some (Owned Journal)) (sym at) t.owned)
        (λ newest. t.unnamed (any_front (λ c. b ≡ c) (top.1.newest ++ top.1.older) (concat top.1.runs)
        (any_front (λ c. b ≡ c) top.1.newest top.1.older (subst (λ (n : ℕ). AnyByRecursion (λ c. n ≡ c) top.1.newest) at newest))));
  }

  -- with more entries in the newest epoch and in its buffer
  pub index_moved : (log' : LogState) (newest : List Entry)
      → log' ≡ record x.log { active = record x.log.active { entries = log'.active.entries }; epoch = record x.log.epoch { used = log'.epoch.used; half = log'.epoch.half } }
      → PoolOnFlash pool' new → LogOnFlash log' new top (with_newest found newest) → IndexOnFlash (record x { log = log'; pool = pool' }) frames new top (with_newest found newest)
  index_moved log' newest keeps fits logs =
      let L : LogState → Type 0 = λ l. LogOnFlash l new top (with_newest found newest) in
      let I : LogState → Type 0 = λ l. IndexOnFlash (record x { log = l; pool = pool' }) frames new top (with_newest found newest) in
      subst I (sym keeps)
      (index_then x frames old new top found stands pool' (runs_apart fits) taken_apart (record x.log.epoch { used = log'.epoch.used; half = log'.epoch.half })
      (record x.log.active { entries = log'.active.entries }) x.log.pending newest (subst L keeps logs))

-- ---- the drive after a step

module _ (d : Parts) (x' : ReclaimParts) (keeps : KeepsLog (space_of d) x') where
  same_shape : x'.log.shape ≡ d.log.shape
  same_shape = ap (λ (l : LogState). l.shape) keeps

  same_pending : x'.log.pending ≡ d.log.pending
  same_pending = ap (λ (l : LogState). l.pending) keeps

  -- nothing else differs
  pub leaves_index : LeavesIndex d (over_space d x')
  leaves_index = ap (λ (l : LogState). record d { log = l; values = x'.values; reclaim = x'.job; pool = x'.pool }) keeps

  module _ (shape : Shape) (old new : BoardState) (top : ℕ × Root) (found : Found) (without m : Map) (none : d.log.pending ≡ [])
      (ready : IsReady new d.log.shape) (with : DriveOnFlashWith d shape old.pages top found without m) where
    pub drive_moved : (moves : SpaceMoves (space_of d) old top found m x' new) → DriveOnFlashWith (over_space d x') shape new.pages top (with_newest found moves.newest) m m
    drive_moved moves =
        let s = moves.stands in
        let then : Found = with_newest found moves.newest in
        let is : x'.log.shape ≡ shape = same_shape ∙ with.shape_is in
        let empty : x'.log.pending ≡ [] = same_pending ∙ none in
        let under : IsUnder shape new.pages [] top then m = subst (λ t. IsUnder t new.pages [] top then m) is s.under in
        let placed : ValuesOnFlash shape x'.values x'.pool (held_blocks x'.job.phase) new.pages (places then []) = subst
        (λ t. ValuesOnFlash t x'.values x'.pool (held_blocks x'.job.phase) new.pages (places then [])) is s.placed in
        let is_flash : IsFlash shape new.pages = subst (λ t. IsFlash t new.pages) with.shape_is ready.flash in
        let is_shape : IsShape shape = subst IsShape with.shape_is with.index.logs.is_shape in
        let reclaim : ReclaimOnFlash shape x'.job x'.values.live x'.pool new.pages (places then []) = subst
        (λ t. ReclaimOnFlash t x'.job x'.values.live x'.pool new.pages (places then [])) is s.reclaim in
        record {
          shape_is = is;
          is_flash = is_flash;
          index = index_moved (index_of d) (frames_of d) old.pages new.pages top found with.index x'.pool moves.others x'.log moves.newest keeps s.placed.fits s.logs;
          committed = under;
          pending = subst (λ p. IsUnder shape new.pages p top then m) (sym empty) under;
          placed = subst (λ p. ValuesOnFlash shape x'.values x'.pool (held_blocks x'.job.phase) new.pages (places then p)) (sym empty) placed;
          former = placed.owned;
          former_read = placed.outputs_are.unread;
          reclaim = subst (λ p. ReclaimOnFlash shape x'.job x'.values.live x'.pool new.pages (places then p)) (sym empty) reclaim;
          uses =
              let U : List (Key × Place) → Type 0 = IsUseOf shape d.spaces in
              let before : IsUnder shape old.pages [] top found m = subst (λ p. IsUnder shape old.pages p top found m) none with.pending in
              let unchanged = use_elsewhere shape old.pages new.pages top found then m d.spaces is_shape with.is_flash is_flash before under (subst (λ p. U (places found p)) none with.uses) in
              subst (λ p. U (places then p)) (sym empty) unchanged;
        }

-- ---- which pair is half made then

module _ (d : Parts) (x' : ReclaimParts) (keeps : KeepsLog (space_of d) x') (flash : Flash) (top : ℕ × Root)
    (found : Found) (m : Map) (was : repeats_next d.log.next ≡ false) (stands : SpaceOnFlash x' flash top found m) where
  pub settles_then : IsSettled (index_of (over_space d x'))
  settles_then = record { whole = ap (λ (l : LogState). repeats_next l.next) keeps ∙ was; none_leaves = stands.none_leaves }

  course_at : (p : Phase) → x'.job.phase ≡ p → HalfIn p x' flash top found m → IsHalfAtMost (over_space d x') flash top found m
  course_at (Commits victim) is half = inr (inr (record { settles = settles_then; victim = victim; phase = is; half = half; none_pending = stands.none_pending }))
  course_at p is half = inl (record { settles = settles_then; moves = ap commits_in is; epoch = half })

  pub course_then : IsHalfAtMost (over_space d x') flash top found m
  course_then = course_at x'.job.phase refl stands.half

-- every map that it represented
pub holds_all : (d : Parts) (x' : ReclaimParts) (old new : BoardState) → MayReclaim d old → KeepsLog (space_of d) x'
    → IsReady new d.log.shape → steps.ReclaimMoves (space_of d) old x' new → HoldsAll d (over_space d x') old new
holds_all d x' old new may keeps ready moves shape m was =
    let now = moves was.top was.found m (may_for d old shape m may was) in
    record {
      stands = record {
        top = was.top;
        found = with_newest was.found now.newest;
        without = m;
        with =
            with_settled (over_space d x') shape new.pages was.top (with_newest was.found now.newest) m m
            (settles_then d x' keeps new.pages was.top (with_newest was.found now.newest) m was.whole.settles.whole now.stands)
            (drive_moved d x' keeps shape old new was.top was.found was.without m may.none_pending ready was.with now);
        course = course_then d x' keeps new.pages was.top (with_newest was.found now.newest) m was.whole.settles.whole now.stands;
      };
      cuts = subst (λ t. Reaches t old new (CrashFinds t background old.pages m)) was.with.shape_is now.cuts;
    }

pub fails_all : (d : Parts) (old new : BoardState) → MayReclaim d old → steps.ReclaimBroken (space_of d) old new → FailsAll d old new
fails_all d old new may breaks shape m was =
    subst (λ t. Goes t old new (CrashFinds t background old.pages m)) was.with.shape_is (breaks was.top was.found m (may_for d old shape m may was))

-- ---- by the answer

module _ (d : Parts) (x' : ReclaimParts) (old new : BoardState) (may : MayReclaim d old) (keeps : KeepsLog (space_of d) x') (ready : IsReady new d.log.shape) where
  lessens : steps.ReclaimMoves (space_of d) old x' new → spaces.Falls (space_of d) x' → Lessens d (over_space d x') old new
  lessens moves falls = record { holds = holds_all d x' old new may keeps ready moves; leaves = leaves_index d x' keeps; falls = falls }

  runs_on : (p : Phase) → runs_in p ≡ true → steps.RoomIn p x' → steps.LogIn p (space_of d) x' → RunsOn p d (over_space d x')
  runs_on Idle runs room same = not_both false runs refl
  runs_on (Copies c) runs room same = same
  runs_on p runs room same = room

  pub does_reclaim : (r : Reclaimed) → steps.Does (space_of d) old x' new r → DoesReclaim d (over_space d x') old new r
  does_reclaim Worked w = (lessens w.moves w.falls, runs_on x'.job.phase w.runs w.room w.log)
  does_reclaim Ended e = (lessens e.moves e.falls, record { idle = e.idle; given = e.given; from = e.room })
  does_reclaim NeedsFreeze w = record {
    same = ap (over_space d) w.same;
    board = w.board;
    course = w.course;
    copies = w.copies;
    tight = w.tight;
  }

  pub does_if : (result : Result Reclaimed Fault) → IfOk result (λ r. steps.Does (space_of d) old x' new r) → IfOk result (λ r. DoesReclaim d (over_space d x') old new r)
  does_if (Ok r) does = does_reclaim r does
  does_if (Err fault) does = tt

-- ---- a read failed

pub cannot_read : (d : Parts) (x' : ReclaimParts) (old new : BoardState) → MayReclaim d old → steps.Unread (space_of d) old x' new → CannotRead d (over_space d x') old new
cannot_read d x' old new may u =
    let page : List ℕ = x'.job.page in
    let pages : new.pages ≡ old.pages = ap (λ (b : BoardState). b.pages) u.only in
    let later : Parts = record d { reclaim = record d.reclaim { page = page } } in
    let is : over_space d x' ≡ later = ap (over_space d) u.rest in
    record {
      rest = is;
      stands = λ shape m was.
          let again = u.again was.top was.found m (may_for d old shape m may was) in
          let X : ReclaimParts → Flash → Type 0 = λ x f. spaces.MayReclaim x f was.top was.found m in
          let here : X (record (space_of d) { job = record d.reclaim { page = page } }) old.pages = subst
          (λ f. X (record (space_of d) { job = record d.reclaim { page = page } }) f) pages (subst (λ x. X x new.pages) u.rest again) in
          let R : Shape → List Entry → Type 0 = λ t p. ReclaimOnFlash t (record d.reclaim { page = page }) d.values.live d.pool old.pages (places was.found p) in
          let reclaim : R shape d.log.pending = subst (λ p. R shape p) (sym may.none_pending) (subst (λ t. R t []) was.with.shape_is here.stands.reclaim) in
          subst (λ e. StandsFor e shape old.pages m) (sym is)
          (record {
            top = was.top;
            found = was.found;
            without = was.without;
            with = agrees_like d d.levels d.arena d.schedule page shape old.pages was.top was.found was.without m was.with was.with.index reclaim;
            whole = whole_like d later refl (λ none. none) refl refl was.whole;
          });
      only = u.only;
      read = u.read;
      flash = u.flash;
    }

-- ---- by the fault

pub fails_if : (d : Parts) (x' : ReclaimParts) (old new : BoardState) → MayReclaim d old → (result : Result Reclaimed Fault) → (result ≡ Err Reading → steps.Unread (space_of d) old x' new)
    → (result ≡ Err Stopped → steps.ReclaimBroken (space_of d) old new × Stops old new) → IfErr result (λ e. FailsReclaim d (over_space d x') old new e)
fails_if d x' old new may (Ok r) unread broken = tt
fails_if d x' old new may (Err Reading) unread broken = cannot_read d x' old new may (unread refl)
fails_if d x' old new may (Err Stopped) unread broken = let is = broken refl in (fails_all d old new may is.0, is.1)
