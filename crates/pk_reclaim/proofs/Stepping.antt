-- What a step did, for each of its answers, by how far the reclaim had come.
use Rattle.std.proofs.Common.{◌≡◌, ◌≢◌, ◌⊎◌, inl, inr, ℕ, ◌≤◌, refl, sym, ap, subst, ◌∙◌, arith, List, length}
use Rattle.std.specs.Prelude.{unwrap_or}
use Rattle.pk_base.{specs.Shape.Shape, specs.Shape.dense, specs.Map.Map, specs.Entry.Entry}
use Rattle.pk_law_work.specs.Rest.{Lowers}
use Rattle.pk_buf.specs.Table.{Table}
use Rattle.pk_nand.{specs.BoardState.BoardState, specs.Calls.IsReady}
use Rattle.pk_rootfmt.specs.Root.{Root}
use Rattle.pk_pool.{specs.Blocks.Blocks, specs.Unready.unready}
use Rattle.pk_model.specs.Found.{Found}
use Rattle.pk_gc.{specs.declared.course.Course.Course, specs.declared.course.Phase.Phase, specs.declared.moves.Move.Move, specs.declared.reclaimed.Reclaimed.Reclaimed, proofs.Lowering.step_lowers}
use Rattle.pk_gc.specs.declared.course.Phase.TheVariants.{Idle, Copies, Commits, GivesBack}
use Rattle.pk_gc.specs.declared.reclaimed.Reclaimed.TheVariants.{Worked, NeedsFreeze, Ended}
use Rattle.pk_gc.specs.State.{JobState, left_in}
use Rattle.pk_gc.specs.Stepping.{Hands, CanStep, StepsIn, Tries, ReclaimGoesOn, ProgramsHeld, ReadsNext, BeginsValue, runs_in}
use Rattle.pk_values.specs.State.{ValuesState}
use Rattle.pk_reclaim.{specs.Hands.hands_of, specs.Space.ReclaimParts, specs.Space.MayReclaim, specs.Space.Falls, specs.Space.left_before, specs.Space.reclaim_parts, proofs.Room.tight_known}
use Rattle.pk_reclaim.specs.Steps.{SpaceMoves, Works, Does, LogIn, RoomIn, RoomBehind}
use Rattle.pk_reclaim.proofs.Repeated.{repeat_moves, repeat_room, repeat_whole}
use Rattle.pk_reclaim.proofs.Given.{same_parts, end_moves, end_given, end_room, given_moves, given_one, given_values}
use Rattle.pk_reclaim.{proofs.Ready.job_in, proofs.Ready.space_in, proofs.Ready.can_step_in, proofs.Begun.starts_moves, proofs.Begun.dead_moves, proofs.Begun.dead_given, proofs.Begun.dead_room}
use Rattle.pk_reclaim.{proofs.Copies.read_moves, proofs.Copies.begin_moves, proofs.Copies.begin_phase, proofs.Copies.program_moves, proofs.Committed.commit_moves, proofs.Committed.commit_room}
use Rattle.pk_log.specs.State.{LogState}

-- a space that may reclaim, for some root and map
pub record Somewhere (x : ReclaimParts) (board : BoardState) : Type 0 where
  pub top : ℕ × Root
  pub found : Found
  pub m : Map
  pub may : MayReclaim x board.pages top found m

worked_needs : Worked ≡ NeedsFreeze → ⊥
worked_needs e = cc

ended_needs : Ended ≡ NeedsFreeze → ⊥
ended_needs e = cc

module _ (log log' : LogState) (values values' : ValuesState) (pool pool' : Blocks) (moves : List Move) (entries : List Entry) (page : List ℕ) (old new : BoardState) (job' : JobState)
    (ready : IsReady old log.shape) (ready' : IsReady new log.shape) (log_is : log' ≡ record log { active = log'.active; epoch = log'.epoch }) (job_shape : job'.shape ≡ log.shape) where
  abbrev pub before : Phase → ReclaimParts
  before phase = space_in log values pool moves entries page phase

  abbrev pub after : ReclaimParts
  after = reclaim_parts log' values' pool' job'

  abbrev pub hands : Hands
  hands = hands_of values pool log.active log.epoch

  abbrev pub hands' : Hands
  hands' = hands_of values' pool' log'.active log'.epoch

  can : (phase : Phase) → Somewhere (before phase) old → CanStep (job_in log moves entries page phase) hands old.pages
  can phase s = can_step_in log values pool moves entries page old.pages s.top s.found s.m phase ready.flash s.may

  -- less remains
  falls : (phase : Phase) (r : Reclaimed) → Somewhere (before phase) old
      → StepsIn phase (job_in log moves entries page phase) hands old job' hands' new r → r ≢ NeedsFreeze → Falls (before phase) after
  falls phase r s steps other =
      let less = step_lowers (job_in log moves entries page phase) hands old job' hands' new r (can phase s) steps other in
      let same : log'.shape ≡ job'.shape = ap (λ (l : LogState). l.shape) log_is ∙ sym job_shape in
      subst (λ (x : Shape). Lowers (left_before (before phase)) (unready pool.states) (unwrap_or (left_in x values'.live.heads job'.phase) 0) (unready pool'.states)) (sym same) less

  same_log : log'.active ≡ log.active → log'.epoch ≡ log.epoch → log' ≡ log
  same_log active epoch = log_is ∙ (λ i. record log { active = active i; epoch = epoch i })

  -- ---- none ran

  idle_does : (r : Reclaimed) → Somewhere (before Idle) old → StepsIn Idle (job_in log moves entries page Idle) hands old job' hands' new r → Does (before Idle) old after new r
  idle_does Worked s steps =
      let same = same_log steps.1 steps.2 in
      let phase = ap (λ (j : JobState). j.phase) steps.0.job_is in
      record {
        moves = λ top found m may. subst (λ (l : LogState). SpaceMoves (before Idle) old top found m (reclaim_parts l values' pool' job') new) (sym same)
            (starts_moves log values values' pool pool' moves entries page old new top found m ready may job' steps.0);
        falls = falls Idle Worked s steps worked_needs;
        runs = ap runs_in phase;
        log = subst (λ (p : Phase). LogIn p (before Idle) after) (sym phase) same;
        room = subst (λ (p : Phase). RoomIn p after) (sym phase) tt;
        pair = tt;
      }
  idle_does NeedsFreeze s steps = absurd steps.0
  idle_does Ended s steps =
      let same = same_log steps.1 steps.2 in
      record {
        moves = λ top found m may. subst (λ (l : LogState). SpaceMoves (before Idle) old top found m (reclaim_parts l values' pool' job') new) (sym same)
            (dead_moves log values values' pool pool' moves entries page old new top found m ready may job' steps.0);
        falls = falls Idle Ended s steps ended_needs;
        idle = ap (λ (j : JobState). j.phase) steps.0.kept;
        given = dead_given log values values' pool pool' moves entries page old new s.top s.found s.m ready s.may job' steps.0;
        room = subst (λ (l : LogState). RoomBehind Idle (before Idle) (reclaim_parts l values' pool' job')) (sym same)
            (dead_room log values values' pool pool' moves entries page old new s.top s.found s.m ready s.may job' steps.0);
      }

  -- ---- values are copied

  abbrev Copied : Course → Type 0
  Copied c = ProgramsHeld c (job_in log moves entries page (Copies c)) old job' new
      ⊎ (ReadsNext c (job_in log moves entries page (Copies c)) old job' new ⊎ BeginsValue c (job_in log moves entries page (Copies c)) hands old job' new)

  module _ (c : Course) (s : Somewhere (before (Copies c)) old) where
    copy_moves : Copied c → (top : ℕ × Root) (found : Found) (m : Map) → MayReclaim (before (Copies c)) old.pages top found m
        → SpaceMoves (before (Copies c)) old top found m (reclaim_parts log values pool job') new
    copy_moves (inl p) top found m may = program_moves log values pool c moves entries page old new top found m ready may.stands job' p
    copy_moves (inr (inl r)) top found m may = read_moves log values pool c moves entries page old new top found m ready may.stands job' r
    copy_moves (inr (inr b)) top found m may = begin_moves log values pool c moves entries page old new top found m ready may.stands job' b

    -- the values are copied still
    copy_phase : Copied c → (then : Course) × (job'.phase ≡ Copies then)
    copy_phase (inl p) = (_, ap (λ (j : JobState). j.phase) p.job_is)
    copy_phase (inr (inl r)) = (_, ap (λ (j : JobState). j.phase) r.job_is)
    copy_phase (inr (inr b)) = begin_phase log values pool c moves entries page old new s.top s.found s.m ready s.may.stands job' b

    goes_worked : (h : hands' ≡ hands) → Copied c → StepsIn (Copies c) (job_in log moves entries page (Copies c)) hands old job' hands' new Worked → Works (before (Copies c)) old after new
    goes_worked h copied steps =
        let parts = same_parts values values' pool pool' log.active log'.active log.epoch log'.epoch h in
        let same = same_log parts.active parts.epoch in
        let phase = (copy_phase copied).1 in
        record {
          moves = λ top found m may.
              subst (λ (l : LogState). SpaceMoves (before (Copies c)) old top found m (reclaim_parts l values' pool' job') new) (sym same)
              (subst (λ (d : ValuesState). SpaceMoves (before (Copies c)) old top found m (reclaim_parts log d pool' job') new) (sym parts.values)
              (subst (λ (q : Blocks). SpaceMoves (before (Copies c)) old top found m (reclaim_parts log values q job') new) (sym parts.pool) (copy_moves copied top found m may)));
          falls = falls (Copies c) Worked s steps worked_needs;
          runs = ap runs_in phase;
          log = subst (λ (p : Phase). LogIn p (before (Copies c)) after) (sym phase) same;
          room = subst (λ (p : Phase). RoomIn p after) (sym phase) tt;
          pair = tt;
        }

    moves_few : length moves ≤ dense log.shape
    moves_few =
        let few = s.may.stands.reclaim.stands.runs.few in
        let sparse = s.may.stands.reclaim.stands.sparse in
        omega (arith, few, sparse)

    -- the end
    ends_does : (r : Reclaimed) → Tries c (job_in log moves entries page (Copies c)) hands old job' hands' new r → Does (before (Copies c)) old after new r
    ends_does Worked t =
        let phase = ap (λ (j : JobState). j.phase) t.finishes.job_is in
        record {
          moves = λ top found m may. commit_moves log values pool c moves entries page old top found m ready may.stands t.whole t.dead log' values' pool' job' new ready' log_is t.finishes;
          falls = falls (Copies c) Worked s (inr t) worked_needs;
          runs = ap runs_in phase;
          log = subst (λ (p : Phase). LogIn p (before (Copies c)) after) (sym phase) tt;
          room = subst (λ (p : Phase). RoomIn p after) (sym phase)
              (commit_room log values pool c moves entries page old s.top s.found s.m ready s.may.stands t.whole t.dead log' values' pool' job' new ready' log_is t.finishes);
          pair = tt;
        }
    ends_does NeedsFreeze t =
        let refuses = t.finishes.2 in
        let parts = same_parts values values' pool pool' log.active log'.active log.epoch log'.epoch t.finishes.1 in
        record {
          same = λ i. reclaim_parts (same_log parts.active parts.epoch i) (parts.values i) (parts.pool i) (t.finishes.0 i);
          board = refuses.rests.same;
          course = c;
          copies = refl;
          no_room = refuses.no_room;
          tight = tight_known log.shape log.active log.epoch values.live.heads moves (ap (λ (x : Table). x.capacity) s.may.stands.logs.active_is) moves_few refuses.no_room;
        }
    ends_does Ended t =
        record {
          moves = λ top found m may. end_moves log log' values values' pool pool' c moves entries page old new top found m may.stands log_is t.whole t.dead job' t.finishes;
          falls = falls (Copies c) Ended s (inr t) ended_needs;
          idle = ap (λ (j : JobState). j.phase) t.finishes.job_is;
          given = end_given log log' values values' pool pool' c moves entries page old new s.top s.found s.m s.may.stands log_is t.whole t.dead job' t.finishes;
          room = end_room log log' values values' pool pool' c moves entries page old new s.top s.found s.m s.may.stands log_is t.whole t.dead job' t.finishes;
        }

    copies_does : (r : Reclaimed) → ReclaimGoesOn c (job_in log moves entries page (Copies c)) hands old job' hands' new r → Does (before (Copies c)) old after new r
    copies_does r (inl on) = subst (λ (x : Reclaimed). Does (before (Copies c)) old after new x) (sym on.0) (goes_worked on.1 on.2 (inl (refl, on.1, on.2)))
    copies_does r (inr t) = ends_does r t

  -- ---- the second program of the moves' commit

  repeats_does : (victim : ℕ) (r : Reclaimed) → Somewhere (before (Commits victim)) old → StepsIn (Commits victim) (job_in log moves entries page (Commits victim)) hands old job' hands' new r
      → Does (before (Commits victim)) old after new r
  repeats_does victim r s g =
      let steps = subst (λ (x : Reclaimed). StepsIn (Commits victim) (job_in log moves entries page (Commits victim)) hands old job' hands' new x) g.answer g in
      let phase = ap (λ (j : JobState). j.phase) g.job_is in
      subst (λ (x : Reclaimed). Does (before (Commits victim)) old after new x) (sym g.answer) (record {
        moves = λ top found m may. repeat_moves log values pool victim moves entries page old top found m ready may.stands log' values' pool' job' new r log_is g;
        falls = falls (Commits victim) Worked s steps worked_needs;
        runs = ap runs_in phase;
        log = subst (λ (p : Phase). LogIn p (before (Commits victim)) after) (sym phase) tt;
        room = subst (λ (p : Phase). RoomIn p after) (sym phase)
            (repeat_room log values pool victim moves entries page old s.top s.found s.m ready s.may.stands log' values' pool' job' new r log_is g);
        pair = repeat_whole log values pool victim moves entries page old s.top s.found s.m ready s.may.stands log' values' pool' job' new r log_is g;
      })

  -- ---- a victim is freed

  gives_does : (victim : ℕ) (r : Reclaimed) → Somewhere (before (GivesBack victim)) old → StepsIn (GivesBack victim) (job_in log moves entries page (GivesBack victim)) hands old job' hands' new r
      → Does (before (GivesBack victim)) old after new r
  gives_does victim r s g =
      let steps = subst (λ (x : Reclaimed). StepsIn (GivesBack victim) (job_in log moves entries page (GivesBack victim)) hands old job' hands' new x) g.answer g in
      subst (λ (x : Reclaimed). Does (before (GivesBack victim)) old after new x) (sym g.answer) (record {
        moves = λ top found m may. given_moves log log' values values' pool pool' victim moves entries page old new top found m may.stands log_is job' r g;
        falls = falls (GivesBack victim) Ended s steps ended_needs;
        idle = ap (λ (j : JobState). j.phase) g.job_is;
        given = given_one log log' values values' pool pool' victim moves entries page old new s.top s.found s.m s.may.stands log_is job' r g;
        room = (
          same_log (ap (λ (h : Hands). h.active) g.hands) (ap (λ (h : Hands). h.epoch) g.hands),
          given_values log log' values values' pool pool' victim moves entries page old new s.top s.found s.m s.may.stands log_is job' r g,
        );
      })

  -- ---- the whole

  pub does_in : (phase : Phase) (r : Reclaimed) → Somewhere (before phase) old → StepsIn phase (job_in log moves entries page phase) hands old job' hands' new r → Does (before phase) old after new r
  does_in Idle r s steps = idle_does r s steps
  does_in (Copies c) r s steps = copies_does c s r steps
  does_in (Commits victim) r s steps = repeats_does victim r s steps
  does_in (GivesBack victim) r s steps = gives_does victim r s steps
