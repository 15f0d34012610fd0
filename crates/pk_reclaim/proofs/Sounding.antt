-- What a step leaves of the log and of the board, whatever it did.
use Rattle.std.proofs.Common.{◌≡◌, inl, inr, ℕ, ◌+◌, refl, sym, ap, subst, ◌∙◌, true, false, Bool, List}
use Rattle.pk_base.{specs.Entry.Entry, specs.Page.page_at}
use Rattle.pk_buf.specs.Table.{Table}
use Rattle.pk_nand.{specs.declared.types.Fault.Fault, specs.declared.types.Fault.TheVariants.Reading, specs.declared.types.Fault.TheVariants.Stopped, specs.BoardState.BoardState, specs.Calls.IsReady}
use Rattle.pk_nand.{specs.Effects.Stops, proofs.Effects.stops_erase, proofs.Effects.stops_program}
use Rattle.pk_pool.specs.Blocks.{Blocks, IsShared}
use Rattle.pk_jrn.{specs.Epochs.JournalEpoch, specs.Epochs.next_page, specs.Epochs.before_half, specs.Appends.next_bytes, specs.Appends.last_bytes}
use Rattle.pk_gc.{specs.declared.course.Course.Course, specs.declared.course.Phase.Phase, specs.declared.moves.Move.Move, specs.declared.reclaimed.Reclaimed.Reclaimed, specs.Committing.entries_left}
use Rattle.pk_gc.specs.declared.course.Phase.TheVariants.{Idle, Copies, Commits, GivesBack}
use Rattle.pk_gc.specs.declared.reclaimed.Reclaimed.TheVariants.{Worked, NeedsFreeze, Ended}
use Rattle.pk_gc.{specs.State.JobState, specs.State.target, specs.Stepping.Hands, specs.Stepping.StepsIn, specs.Stepping.ReclaimGoesOn, specs.Breaking.BreaksIn, specs.Breaking.FailsToRead}
use Rattle.pk_values.specs.State.{ValuesState}
use Rattle.pk_reclaim.{specs.Hands.hands_of, specs.Space.ReclaimParts, specs.Space.reclaim_parts, specs.Steps.KeepsLog, specs.Steps.Unread, specs.Steps.ReclaimBroken, proofs.Given.same_parts}
use Rattle.pk_reclaim.{proofs.Ready.job_in, proofs.Ready.space_in, proofs.Committed.commit_breaks, proofs.Repeated.second_high, proofs.Repeated.repeat_breaks, proofs.Stepping.Somewhere}
use Rattle.pk_reclaim.proofs.Boards.{Sound, Failed, SameRoots, sound_none, sound_read, sound_program, sound_erase, failed_read, failed_program, failed_erase, only_read, roots_low, program_low}
use Rattle.pk_reclaim.proofs.Broken.{erase_breaks, erase_roots, copy_breaks, copy_roots, commit_roots, read_again}
use Rattle.pk_log.specs.State.{LogState}

keeps_entries : (t t' : Table) (es : List Entry) → t' ≡ record t { entries = es } → t' ≡ record t { entries = t'.entries }
keeps_entries t t' es is = subst (λ (x : Table). x ≡ record t { entries = x.entries }) (sym is) refl

keeps_used : (e e' : JournalEpoch) (n : ℕ) (h : Bool) → e' ≡ record e { used = n; half = h } → e' ≡ record e { used = e'.used; half = e'.half }
keeps_used e e' n h is = subst (λ (x : JournalEpoch). x ≡ record e { used = x.used; half = x.half }) (sym is) refl

module _ (log log' : LogState) (values values' : ValuesState) (pool pool' : Blocks) (moves : List Move) (entries : List Entry) (page : List ℕ) (old new : BoardState) (job' : JobState) where
  abbrev before : Phase → ReclaimParts
  before phase = space_in log values pool moves entries page phase

  abbrev after : ReclaimParts
  after = reclaim_parts log' values' pool' job'

  abbrev hands : Hands
  hands = hands_of values pool log.active log.epoch

  abbrev hands' : Hands
  hands' = hands_of values' pool' log'.active log'.epoch

  -- ---- the log

  -- of the active buffer only the entries differ, and of the epoch its commits
  record KeepsParts : Type 0 where
    active : log'.active ≡ record log.active { entries = log'.active.entries }
    epoch : log'.epoch ≡ record log.epoch { used = log'.epoch.used; half = log'.epoch.half }

  same_kept : log'.active ≡ log.active → log'.epoch ≡ log.epoch → KeepsParts
  same_kept active epoch = record { active = keeps_entries log.active log'.active log.active.entries active; epoch = keeps_used log.epoch log'.epoch log.epoch.used log.epoch.half epoch }

  goes_kept : (c : Course) (r : Reclaimed) → ReclaimGoesOn c (job_in log moves entries page (Copies c)) hands old job' hands' new r → KeepsParts
  goes_kept c r (inl on) = let parts = same_parts values values' pool pool' log.active log'.active log.epoch log'.epoch on.1 in same_kept parts.active parts.epoch
  goes_kept c Worked (inr t) = record {
    active = keeps_entries log.active log'.active _ (ap (λ (h : Hands). h.active) t.finishes.hands);
    epoch = keeps_used log.epoch log'.epoch (log.epoch.used + 1) true t.finishes.adds.begins.epoch_is;
  }
  goes_kept c NeedsFreeze (inr t) = let parts = same_parts values values' pool pool' log.active log'.active log.epoch log'.epoch t.finishes.1 in same_kept parts.active parts.epoch
  goes_kept c Ended (inr t) = same_kept (ap (λ (h : Hands). h.active) t.finishes.hands) (ap (λ (h : Hands). h.epoch) t.finishes.hands)

  kept_in : (phase : Phase) (r : Reclaimed) → StepsIn phase (job_in log moves entries page phase) hands old job' hands' new r → KeepsParts
  kept_in Idle r steps = same_kept steps.1 steps.2
  kept_in (Copies c) r steps = goes_kept c r steps
  kept_in (Commits victim) r g = record {
    active = keeps_entries log.active log'.active log.active.entries (ap (λ (h : Hands). h.active) g.hands);
    epoch = keeps_used log.epoch log'.epoch log.epoch.used false g.ends.epoch_is;
  }
  kept_in (GivesBack victim) r g = same_kept (ap (λ (h : Hands). h.active) g.hands) (ap (λ (h : Hands). h.epoch) g.hands)

  pub keeps_log : (phase : Phase) (r : Reclaimed) → log' ≡ record log { active = log'.active; epoch = log'.epoch }
      → StepsIn phase (job_in log moves entries page phase) hands old job' hands' new r → KeepsLog (before phase) after
  keeps_log phase r log_is steps = let kept = kept_in phase r steps in log_is ∙ (λ i. record log { active = kept.active i; epoch = kept.epoch i })

  -- ---- the board

  idle_sound : (r : Reclaimed) → StepsIn Idle (job_in log moves entries page Idle) hands old job' hands' new r → Sound old new
  idle_sound Worked steps = elim steps.0.choice [ inl taken ↦ sound_none old new taken.same | inr free ↦ sound_erase old new steps.0.output free.erase ]
  idle_sound NeedsFreeze steps = absurd steps.0
  idle_sound Ended steps = sound_none old new steps.0.same

  goes_sound : (c : Course) (r : Reclaimed) → ReclaimGoesOn c (job_in log moves entries page (Copies c)) hands old job' hands' new r → Sound old new
  goes_sound c r (inl on) = elim on.2 [
    | inl p ↦ sound_program old new (target log.shape c) page p.board
    | inr reads ↦ elim reads [ inl next ↦ sound_read old new next.board | inr begins ↦ sound_read old new begins.board ]
  ]
  goes_sound c Worked (inr t) = sound_program old new (next_page log.epoch) (next_bytes log.epoch (entries_left values.live.heads moves)) t.finishes.adds.begins.program
  goes_sound c NeedsFreeze (inr t) = sound_none old new t.finishes.2.rests.same
  goes_sound c Ended (inr t) = sound_none old new t.finishes.board

  pub sound_in : (phase : Phase) (r : Reclaimed) → StepsIn phase (job_in log moves entries page phase) hands old job' hands' new r → Sound old new
  sound_in Idle r steps = idle_sound r steps
  sound_in (Copies c) r steps = goes_sound c r steps
  sound_in (Commits victim) r g = sound_program old new (next_page (before_half log.epoch) + 1) (last_bytes log.epoch entries) g.ends.program
  sound_in (GivesBack victim) r g = sound_none old new g.board

  -- ---- a call failed

  pub failed_in : (phase : Phase) (e : Fault) → BreaksIn phase (job_in log moves entries page phase) hands old new e → Failed old new
  failed_in Idle e b = failed_erase old new b.1.block b.1.failed
  failed_in (Copies c) e (inl read) = failed_read old new read.page read.failed
  failed_in (Copies c) e (inr (inl copy)) = failed_program old new (target log.shape c) page copy.failed
  failed_in (Copies c) e (inr (inr commit)) = failed_program old new (next_page log.epoch) (next_bytes log.epoch (entries_left values.live.heads moves)) commit.adds.fails.failed
  failed_in (Commits victim) e b = failed_program old new (next_page (before_half log.epoch) + 1) (last_bytes log.epoch entries) b.1.failed
  failed_in (GivesBack victim) e b = absurd b

  module _ (ready : IsReady old log.shape) (ready' : IsReady new log.shape) (shared : IsShared pool.shape pool.states) where
    pub roots_in : (phase : Phase) (e : Fault) → Somewhere (before phase) old → BreaksIn phase (job_in log moves entries page phase) hands old new e → SameRoots log.shape old new
    roots_in Idle e s b = erase_roots log values pool moves entries page old new s.top s.found s.m ready shared s.may.stands b.1
    roots_in (Copies c) e s (inl read) =
        roots_low log.shape old new ready (ap (λ (b : BoardState). b.shape) read.failed.rest) (λ k low. ap (λ (b : BoardState). page_at b.pages k) read.failed.rest)
    roots_in (Copies c) e s (inr (inl copy)) = copy_roots log values pool moves entries page old new s.top s.found s.m ready c s.may.stands e copy
    roots_in (Copies c) e s (inr (inr commit)) = commit_roots log values pool moves entries page old new s.top s.found s.m ready c s.may.stands commit.adds.room.1
        (next_bytes log.epoch (entries_left values.live.heads moves)) commit.adds.fails.failed
    roots_in (Commits victim) e s b =
        program_low log.shape old new (next_page (before_half log.epoch) + 1) (last_bytes log.epoch entries) ready
        (second_high log values pool victim moves entries page old s.top s.found s.m ready s.may.stands) b.1.failed
    roots_in (GivesBack victim) e s b = absurd b

    reading_stops : {X : Type 0} → Reading ≡ Stopped → X
    reading_stops e = cc

    broken_copy : (c : Course) → (BreaksIn (Copies c) (job_in log moves entries page (Copies c)) hands old new Stopped) → ReclaimBroken (before (Copies c)) old new × Stops old new
    broken_copy c (inl read) = reading_stops (sym read.fault)
    broken_copy c (inr (inl copy)) = (
      λ top found m may. copy_breaks log values pool moves entries page old new top found m ready c may.stands Stopped copy,
      stops_program old new (target log.shape c) page copy.failed,
    )
    broken_copy c (inr (inr commit)) = (
      λ top found m may. commit_breaks log values pool c moves entries page old top found m ready may.stands commit.whole commit.dead new commit.adds,
      stops_program old new (next_page log.epoch) (next_bytes log.epoch (entries_left values.live.heads moves)) commit.adds.fails.failed,
    )

    pub broken_in : (phase : Phase) → BreaksIn phase (job_in log moves entries page phase) hands old new Stopped → ReclaimBroken (before phase) old new × Stops old new
    broken_in Idle b = (λ top found m may. erase_breaks log values pool moves entries page old new top found m ready shared may.stands b.1, stops_erase old new b.1.block b.1.failed)
    broken_in (Copies c) b = broken_copy c b
    broken_in (Commits victim) b = (
      λ top found m may. repeat_breaks log values pool victim moves entries page old top found m ready may.stands new b.1,
      stops_program old new (next_page (before_half log.epoch) + 1) (last_bytes log.epoch entries) b.1.failed,
    )
    broken_in (GivesBack victim) b = absurd b

    stopped_reads : {X : Type 0} → Stopped ≡ Reading → X
    stopped_reads e = cc

    unread_copy : (c : Course) → FailsToRead c old new Reading → log' ≡ log → values' ≡ values → pool' ≡ pool
        → job' ≡ job_in log moves entries job'.page (Copies c) → Unread (before (Copies c)) old after new
    unread_copy c read l v q j =
        let then = space_in log values pool moves entries job'.page (Copies c) in
        let same : after ≡ then = λ i. reclaim_parts (l i) (v i) (q i) (j i) in
        subst (λ (x : ReclaimParts). Unread (before (Copies c)) old x new) (sym same) (record {
          rest = refl;
          again = λ top found m may. read_again log values pool moves entries page old new top found m ready c job'.page may read.free (ap (λ (b : BoardState). b.pages) read.failed.rest);
          only = only_read old new read.page read.failed;
          read = read.failed.read;
          flash = read.failed.flash;
        })

    pub unread_in : (phase : Phase) → BreaksIn phase (job_in log moves entries page phase) hands old new Reading → log' ≡ log
        → values' ≡ values → pool' ≡ pool → job' ≡ job_in log moves entries job'.page phase → Unread (before phase) old after new
    unread_in Idle b l v q j = stopped_reads (sym b.0)
    unread_in (Copies c) (inl read) l v q j = unread_copy c read l v q j
    unread_in (Copies c) (inr (inl copy)) l v q j = stopped_reads (sym copy.fault)
    unread_in (Copies c) (inr (inr commit)) l v q j = stopped_reads (sym commit.fault)
    unread_in (Commits victim) b l v q j = stopped_reads (sym b.0)
    unread_in (GivesBack victim) b l v q j = absurd b
