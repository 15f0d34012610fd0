-- A step, whatever it answered, for the reclaim as it is.
use Rattle.std.proofs.Common.{◌≡◌, refl, sym, ap, subst, ◌∙◌, Some, Result, Ok, Err}
use Rattle.std.specs.Prelude.{IfOk, IfErr, OnOk, OnErr}
use Rattle.pk_base.{specs.Shape.Shape, specs.Page.page_at}
use Rattle.pk_nand.{specs.declared.types.Fault.Fault, specs.declared.types.Fault.TheVariants.Reading, specs.declared.types.Fault.TheVariants.Stopped, specs.BoardState.BoardState, specs.Calls.IsReady}
use Rattle.pk_nand.specs.Effects.{AtMostOneCall, NoFault, OnlyFlash, Stops}
use Rattle.pk_rootfmt.specs.Newest.{newest_root}
use Rattle.pk_pool.specs.Blocks.{Blocks, IsShared}
use Rattle.pk_gc.{specs.declared.reclaimed.Reclaimed.Reclaimed, specs.State.JobState, specs.Stepping.Hands, specs.Stepping.CanStep, specs.Stepping.Steps, specs.Breaking.JobBroken}
use Rattle.pk_gc.specs.declared.reclaimed.Reclaimed.TheVariants.{Worked, NeedsFreeze, Ended}
use Rattle.pk_values.specs.State.{ValuesState}
use Rattle.pk_reclaim.{specs.Hands.hands_of, specs.Space.ReclaimParts, specs.Space.reclaim_parts, proofs.Boards.SameRoots, proofs.Boards.roots_stay, proofs.Ready.job_in, proofs.Ready.can_step_in}
use Rattle.pk_reclaim.{specs.Steps.ReclaimMoves, specs.Steps.Does, specs.Steps.Unread, specs.Steps.ReclaimBroken, specs.Steps.KeepsLog, proofs.Stepping.Somewhere, proofs.Stepping.does_in}
use Rattle.pk_reclaim.proofs.Sounding.{keeps_log, sound_in, failed_in, roots_in, broken_in, unread_in}
use Rattle.pk_log.specs.State.{LogState}

-- a job of this shape, part by part
job_is : (log : LogState) (job : JobState) → job.shape ≡ log.shape → job ≡ job_in log job.moves job.entries job.page job.phase
job_is log job same = λ i. record { shape = same i; phase = job.phase; moves = job.moves; entries = job.entries; page = job.page }

same_answer : (a b : Fault) → ◌≡◌ {A = Result Reclaimed Fault} (Err a) (Err b) → a ≡ b
same_answer a b e = cc

other_answer : {X : Type 0} (r : Reclaimed) (e : Fault) → ◌≡◌ {A = Result Reclaimed Fault} (Ok r) (Err e) → X
other_answer r e is = cc

pub can_step : (log : LogState) (values : ValuesState) (pool : Blocks) (job : JobState) (old : BoardState) → IsReady old log.shape
    → Somewhere (reclaim_parts log values pool job) old → CanStep job (hands_of values pool log.active log.epoch) old.pages
can_step log values pool job old ready s =
    let P : JobState → Type 0 = λ j. Somewhere (reclaim_parts log values pool j) old → CanStep j (hands_of values pool log.active log.epoch) old.pages in
    subst P (sym (job_is log job s.may.stands.reclaim.shape_is)) (λ t. can_step_in log values pool job.moves job.entries job.page old.pages t.top t.found t.m job.phase ready.flash t.may) s

-- what the step of the parts below said
pub record Below (log log' : LogState) (values values' : ValuesState) (pool pool' : Blocks) (job job' : JobState) (old new : BoardState) (result : Result Reclaimed Fault) : Type 0 where
  pub ready : IsReady old log.shape
  pub then_ready : IsReady new log.shape
  pub shared : IsShared pool.shape pool.states
  pub where_is : Somewhere (reclaim_parts log values pool job) old
  pub rest : log' ≡ record log { active = log'.active; epoch = log'.epoch }
  pub shape : job'.shape ≡ job.shape
  pub steps : IfOk result (λ r. Steps job (hands_of values pool log.active log.epoch) old job' (hands_of values' pool' log'.active log'.epoch) new r)
  pub breaks : IfErr result (λ e. JobBroken job (hands_of values pool log.active log.epoch) old new e)
  pub kept : OnErr result (log' ≡ log)
  pub kept_job : OnErr result (job' ≡ record job { page = job'.page })
  pub kept_pool : OnErr result (pool' ≡ pool)
  pub kept_values : IfErr result (λ e. e ≡ Reading → values' ≡ values)

-- what the whole step says
pub record Whole (log log' : LogState) (values values' : ValuesState) (pool pool' : Blocks) (job job' : JobState) (old new : BoardState) (result : Result Reclaimed Fault) : Type 0 where
  pub does : IfOk result (λ r. Does (reclaim_parts log values pool job) old (reclaim_parts log' values' pool' job') new r)
  pub same_log : KeepsLog (reclaim_parts log values pool job) (reclaim_parts log' values' pool' job')
  pub same_roots : SameRoots log.shape old new
  pub unread : result ≡ Err Reading → Unread (reclaim_parts log values pool job) old (reclaim_parts log' values' pool' job') new
  pub broken : result ≡ Err Stopped → ReclaimBroken (reclaim_parts log values pool job) old new × Stops old new
  pub sound : OnOk result (NoFault old new)
  pub calls : AtMostOneCall old new
  pub only : OnlyFlash old new

module _ (log log' : LogState) (values values' : ValuesState) (pool pool' : Blocks) (job job' : JobState) (old new : BoardState) where
  abbrev x : ReclaimParts
  x = reclaim_parts log values pool job

  abbrev x' : ReclaimParts
  x' = reclaim_parts log' values' pool' job'

  abbrev hands : Hands
  hands = hands_of values pool log.active log.epoch

  abbrev hands' : Hands
  hands' = hands_of values' pool' log'.active log'.epoch

  told : IsReady old log.shape → IsReady new log.shape → new.shape ≡ old.shape
  told ready then = then.shape_is ∙ sym ready.shape_is

  roots_moved : IsReady old log.shape → IsReady new log.shape → Somewhere x old → ReclaimMoves x old x' new → log'.shape ≡ log.shape → SameRoots log.shape old new
  roots_moved ready then s moves same =
      let stands = (moves s.top s.found s.m s.may).stands in
      roots_stay log.shape old new ready (told ready then)
      (subst (λ (g : Shape). newest_root g (page_at new.pages) ≡ Some s.top) same stands.logs.is_top ∙ sym s.may.stands.logs.is_top)

  roots_done : (r : Reclaimed) → IsReady old log.shape → IsReady new log.shape → Somewhere x old → log'.shape ≡ log.shape → Does x old x' new r → SameRoots log.shape old new
  roots_done Worked ready then s same d = roots_moved ready then s d.moves same
  roots_done NeedsFreeze ready then s same d =
      roots_stay log.shape old new ready (told ready then) (ap (λ (b : BoardState). newest_root log.shape (page_at b.pages)) d.board)
  roots_done Ended ready then s same d = roots_moved ready then s d.moves same

  of_step : (r : Reclaimed) → Below log log' values values' pool pool' job job' old new (Ok r) → Whole log log' values values' pool pool' job job' old new (Ok r)
  of_step r b =
      let is = job_is log job b.where_is.may.stands.reclaim.shape_is in
      let there = subst (λ (j : JobState). Somewhere (reclaim_parts log values pool j) old) is b.where_is in
      let steps = subst (λ (j : JobState). Steps j hands old job' hands' new r) is b.steps in
      let shape = b.shape ∙ b.where_is.may.stands.reclaim.shape_is in
      let does = subst (λ (j : JobState). Does (reclaim_parts log values pool j) old x' new r) (sym is)
      (does_in log log' values values' pool pool' job.moves job.entries job.page old new job' b.ready b.then_ready b.rest shape job.phase r there steps) in
      let sound = sound_in log log' values values' pool pool' job.moves job.entries job.page old new job' job.phase r steps in
      record {
        does = does;
        same_log = keeps_log log log' values values' pool pool' job.moves job.entries job.page old new job' job.phase r b.rest steps;
        same_roots = roots_done r b.ready b.then_ready b.where_is (ap (λ (l : LogState). l.shape) b.rest) does;
        unread = λ e. other_answer r Reading e;
        broken = λ e. other_answer r Stopped e;
        sound = sound.fault;
        calls = sound.calls;
        only = sound.rest;
      }

  of_failure : (e : Fault) → Below log log' values values' pool pool' job job' old new (Err e) → Whole log log' values values' pool pool' job job' old new (Err e)
  of_failure e b =
      let is = job_is log job b.where_is.may.stands.reclaim.shape_is in
      let there = subst (λ (j : JobState). Somewhere (reclaim_parts log values pool j) old) is b.where_is in
      let breaks = subst (λ (j : JobState). JobBroken j hands old new e) is b.breaks in
      let failed = failed_in log log' values values' pool pool' job.moves job.entries job.page old new job' job.phase e breaks in
      let job_kept : job' ≡ job_in log job.moves job.entries job'.page job.phase = b.kept_job ∙ (λ i. record (is i) { page = job'.page }) in
      record {
        does = tt;
        same_log = subst (λ (l : LogState). KeepsLog x (reclaim_parts l values' pool' job')) (sym b.kept) refl;
        same_roots = roots_in log log' values values' pool pool' job.moves job.entries job.page old new job' b.ready b.then_ready b.shared job.phase e there breaks;
        unread = λ same.
            let reading = same_answer e Reading same in
            subst (λ (j : JobState). Unread (reclaim_parts log values pool j) old x' new) (sym is)
            (unread_in log log' values values' pool pool' job.moves job.entries job.page old new job' b.ready b.then_ready b.shared job.phase
            (subst (λ (f : Fault). JobBroken (job_in log job.moves job.entries job.page job.phase) hands old new f) reading breaks) b.kept (b.kept_values reading) b.kept_pool job_kept);
        broken = λ same.
            subst (λ (j : JobState). ReclaimBroken (reclaim_parts log values pool j) old new × Stops old new) (sym is)
            (broken_in log log' values values' pool pool' job.moves job.entries job.page old new job' b.ready b.then_ready b.shared job.phase
            (subst (λ (f : Fault). JobBroken (job_in log job.moves job.entries job.page job.phase) hands old new f) (same_answer e Stopped same) breaks));
        sound = tt;
        calls = failed.calls;
        only = failed.rest;
      }

  pub whole : (result : Result Reclaimed Fault) → Below log log' values values' pool pool' job job' old new result → Whole log log' values values' pool pool' job job' old new result
  whole (Ok r) b = of_step r b
  whole (Err e) b = of_failure e b
