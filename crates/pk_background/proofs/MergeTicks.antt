-- What one step of a merge or of a freeze does, and what a Tick promises of it.
use Rattle.std.proofs.Common.{◌≡◌, ◌⊎◌, inl, inr, ◌||◌, refl, sym, ap, subst, ◌∙◌, arith, Bool, true, false, length, Result, Ok, Err}
use Rattle.std.specs.Prelude.{IfOk, IfErr, ◌&&◌, ◌==◌}
use Rattle.pk_base.{specs.Page.Flash, proofs.Logic.not_both}
use Rattle.pk_nand.{specs.declared.types.Fault.Fault, specs.declared.types.Fault.TheVariants.Reading, specs.declared.types.Fault.TheVariants.Stopped, specs.BoardState.BoardState, specs.Calls.IsReady}
use Rattle.pk_model.specs.Wear.{roots}
use Rattle.pk_rootfmt.specs.Root.{Root}
use Rattle.pk_root.specs.Installing.{repeats_next}
use Rattle.pk_law_work.specs.Work.{work}
use Rattle.pk_call.specs.declared.types.Ticked.TheVariants.{Worked as Goes, Fault as Fails}
use Rattle.pk_schedule.{specs.declared.phase.Stepped.Stepped, specs.declared.phase.Stepped.TheVariants.Worked, specs.declared.phase.Stepped.TheVariants.Idle, specs.Index.Index}
use Rattle.pk_schedule.specs.Steps.{Moves, Unmoved, backlog_of as backlog_of_index, has_no_merge, is_between}
use Rattle.pk_parts.{specs.Parts.Parts, specs.Parts.frames_of, specs.Parts.index_of, specs.Parts.sight_of, specs.Parts.backlog_of, specs.Parts.may_freeze}
use Rattle.pk_parts.{specs.Parts.is_half, specs.Parts.commits_in, specs.Moves.StandsFor}
use Rattle.pk_parts.{proofs.Unchanging.agrees_ready, proofs.Staying.stays_frees}
use Rattle.pk_background.{specs.Emptying.MayEmpty, specs.Emptying.MergesOnce, specs.Emptying.FreezesOnce, specs.Reclaiming.FailsAll, proofs.Indexing.with_index, proofs.Advancing.busy_merge}
use Rattle.pk_background.{specs.Merging.DoesMerge, specs.Merging.FailsMerge, specs.Merging.Merges, specs.Merging.CannotMerge, specs.Merging.FreezesOn, proofs.Ticking.busy_wanted}
use Rattle.pk_background.{specs.Ticking.MayTick, specs.Ticking.Advances, specs.Ticking.WantsFreeze, proofs.Remaining.merge_less, proofs.Remaining.freeze_less, proofs.Remaining.freeze_wanted}
use Rattle.pk_background.proofs.Inside.{MergeStep, FreezeDone, number_is, may_work, moved_holds, moved_many, whole_epoch, freeze_epoch, broken_fails, still_keeps}
use Rattle.pk_background.proofs.TickSteps.{its_whole, whole_holds, whole_fails, read_grows, made_advances, unread_advances, stop_advances}
use Rattle.pk_pool.specs.Blocks.{IsShared}
use Rattle.pk_background.proofs.Ordering.{merge_due, freeze_due, makes_merge, makes_freeze}

-- ---- made by a Tick or by a command

busy_of : (d : Parts) → is_between d.schedule.phase ≡ false → has_no_merge (index_of d) ≡ false
busy_of d running = ap (λ b. b && (length d.log.frozen.entries == 0)) running

-- only the job of the schedule differs, so the view of the drive is unchanged
seen_same : (d : Parts) (x : Index) → Unmoved (index_of d) x → sight_of (with_index d x) ≡ sight_of d
seen_same d x unmoved =
    let same_job : Index = record (index_of d) { schedule = record d.schedule { job = x.schedule.job } } in
    let index : backlog_of_index same_job ≡ backlog_of_index (index_of d) = ap backlog_of_index (sym unmoved.rest) ∙ unmoved.same_backlog in
    let w : work d.log.shape (backlog_of (with_index d same_job)) ≡ work d.log.shape (backlog_of d) =
    ap (λ b. work d.log.shape (record b { reclaim = (backlog_of d).reclaim; may_freeze = may_freeze d })) index in
    let rest : sight_of (with_index d same_job) ≡ sight_of d = λ i. record (sight_of d) { work = w i } in
    ap (λ y. sight_of (with_index d y)) unmoved.rest ∙ rest

module _ (d : Parts) (old : BoardState) (may : MayEmpty d old) (x : Index) (new : BoardState) (freeze : x.schedule.freeze ≡ d.schedule.freeze) where
  pub merge_does : (r : Result Stepped Fault) → MergeStep (index_of d) old x new r → (r ≡ Ok Worked → has_no_merge (index_of d) ≡ false) → IfOk r (λ s. DoesMerge d (with_index d x) old new s)
  merge_does (Ok Idle) step works = let idle = step.idle refl in record { none = idle.0; same = ap (with_index d) idle.1; board = idle.2 }
  merge_does (Ok Worked) step works =
      let some = may.may.stands in
      let work_may = may_work d old may some.0 some.1 in
      let is = step.moves refl (frames_of d) some.1.top some.1.found some.0 work_may in
      let less = step.less refl (frames_of d) some.1.top some.1.found some.0 work_may in
      record {
        holds = moved_holds d old may x new step.ready (whole_epoch d old may x new step.active) (step.moves refl);
        grows = is.grows;
        busy = works refl;
        begins = is.begins;
        number = is.numbers;
        less = merge_less d x (moved_many d old may x new (step.moves refl)) is.same_shape freeze step.active less.work;
      }
  merge_does (Err e) step works = tt

  pub merge_fails : (r : Result Stepped Fault) → MergeStep (index_of d) old x new r → IfErr r (λ e. FailsMerge d (with_index d x) old new e)
  merge_fails (Ok s) step = tt
  merge_fails (Err Reading) step =
      let unmoved = step.unmoved refl in
      let rose = step.unread refl in
      let same : new.pages ≡ old.pages = ap (λ (b : BoardState). b.pages) unmoved.1 in
      record {
        busy = busy_of d step.running;
        rest = ap (with_index d) unmoved.0.rest;
        seen = seen_same d x unmoved.0;
        stands = λ shape m there. subst (λ (f : Flash). StandsFor (with_index d x) shape f m) same (still_keeps d old may x new unmoved.0 unmoved.1 (step.again refl) shape m there).stands;
        only = unmoved.1;
        read = rose.0;
        flash = rose.1;
      }
  merge_fails (Err Stopped) step = let broken = step.broken refl in (busy_of d step.running, broken_fails d old may new broken.0, broken.1)

module _ (d : Parts) (old : BoardState) (may : MayEmpty d old) (x : Index) (new : BoardState) where
  pub freeze_does : Moves (index_of d) old x new → FreezeDone d old may x new → has_no_merge (index_of d) ≡ true → IsReady new d.log.shape → FreezesOn d (with_index d x) old new
  freeze_does moves freezes merged ready =
      let some = may.may.stands in
      let is = moves (frames_of d) some.1.top some.1.found some.0 (may_work d old may some.0 some.1) in
      record {
        holds = moved_holds d old may x new ready (freeze_epoch d old may x new freezes) moves;
        grows = is.grows;
        begins = is.begins;
        number = is.numbers;
        less = λ wants.
            freeze_less d x merged some.1.whole.settles.whole (freeze_wanted d wants) freezes
            (moved_many d old may x new moves) is.same_shape some.1.with.index.logs.is_shape is.stands.logs.epoch_shape;
      }

-- ---- made by a Tick

module _ (d : Parts) (old : BoardState) (m : MayTick d old) (none_half : is_half d ≡ false) where
  no_pair : {X : Type 0} → is_half d ≡ true → X
  no_pair half = absurd (not_both (is_half d) half none_half)

  pub may_empty : MayEmpty d old
  may_empty =
      let ready = agrees_ready d old m.agrees in
      let there = its_whole d old m none_half in
      let few = m.number in
      let of_root : roots old ≡ d.log.root.number = number_is (index_of d) (frames_of d) old there.top there.found ready there.with.index in
      record { may = record { ready = ready; stands = (m.agrees.all, there) }; none_pending = m.none; number = omega (arith, few, of_root) }

  module _ (d' : Parts) (new : BoardState) where
    -- the root is the same, or its pair is half made
    begins_pair : (d'.log.root ≡ d.log.root) ⊎ (repeats_next d'.log.next ≡ true) → (d'.log.root.number ≡ d.log.root.number) ⊎ (is_half d' ≡ true)
    begins_pair (inl same) = inl (ap (λ (r : Root). r.number) same)
    begins_pair (inr repeats) = inr (ap (λ (b : Bool). b || commits_in d'.reclaim.phase) repeats)

    pub tick_merged : MergesOnce d d' old new (Ok Worked) → Merges d d' old new → Advances d d' old new Goes
    tick_merged once is =
        made_advances d old m d' new once.step.ready once.calls once.step.rest once.step.roots_few no_pair no_pair no_pair is.grows (busy_merge d old old m none_half is.busy) once.none_pending
        (whole_holds d old m d' new none_half is.holds) once.step.came.1 once.leaves.frames (ap (λ (e : Parts). e.stopped) once.leaves.rest)
        (stays_frees d d' once.stays) is.number (begins_pair is.begins) is.less
        (makes_merge d d' old new none_half is.busy (record { leaves = once.leaves; fewer = once.less refl }))

    pub tick_unread : MergesOnce d d' old new (Err Reading) → CannotMerge d d' old new → Advances d d' old new (Fails false)
    tick_unread once is =
        let number = ap (λ (e : Parts). e.log.root.number) is.rest in
        unread_advances d old m d' new once.step.ready once.calls once.step.rest once.step.roots_few no_pair no_pair no_pair
        (read_grows d.log.shape old new is.only) (busy_merge d old old m none_half is.busy) once.none_pending
        is.seen (is.stands d.log.shape m.agrees.all (its_whole d old m none_half)) is.only is.read is.flash once.leaves.frames (ap (λ (e : Parts). e.stopped) once.leaves.rest)
        (stays_frees d d' once.stays) (omega (arith, number)) (merge_due d none_half is.busy)

    pub tick_stopped : MergesOnce d d' old new (Err Stopped) → FailsMerge d d' old new Stopped → Advances d (record d' { stopped = true }) old new (Fails true)
    tick_stopped once is =
        stop_advances d old m (record d' { stopped = true }) new once.step.ready once.calls once.step.rest once.step.roots_few no_pair (busy_merge d old old m none_half is.0) once.none_pending refl
        (whole_fails d old m d' new none_half is.1) is.2 (merge_due d none_half is.0)

    pub tick_frozen : FreezesOnce d d' old new (Ok tt) → FreezesOn d d' old new → has_no_merge (index_of d) ≡ true → WantsFreeze d → IsShared d.pool.shape d.pool.states → Advances d d' old new Goes
    tick_frozen once is merged wants shared =
        made_advances d old m d' new once.step.ready once.calls once.step.works.rest once.step.roots_few no_pair no_pair no_pair is.grows (busy_wanted d old m.agrees shared wants) once.none_pending
        (whole_holds d old m d' new none_half is.holds) once.step.works.no_fault once.leaves.frames
        (ap (λ (e : Parts). e.stopped) once.leaves.rest) (stays_frees d d' once.stays) is.number (begins_pair is.begins) (is.less wants)
        (makes_freeze d d' old new none_half merged wants (record { leaves = once.leaves; further = once.freezes }))

    pub tick_unfrozen : (e : Fault) → FreezesOnce d d' old new (Err e) → FailsAll d old new → has_no_merge (index_of d) ≡ true → WantsFreeze d → IsShared d.pool.shape d.pool.states
        → Advances d (record d' { stopped = true }) old new (Fails true)
    tick_unfrozen e once fails merged wants shared =
        stop_advances d old m (record d' { stopped = true }) new once.step.ready once.calls once.step.stops.rest once.step.roots_few no_pair
        (busy_wanted d old m.agrees shared wants) once.none_pending refl (whole_fails d old m d' new none_half fails) once.step.stops (freeze_due d none_half merged wants)
