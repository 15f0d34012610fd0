-- A command that ended, in the records of the drive's contract.
use Rattle.std.proofs.Common.{◌≡◌, ◌≢◌, ◌≤◌, inl, inr, ℕ, ap, ◌∙◌, sym, refl, arith, false, List, length, take, Some}
use Rattle.std.{proofs.lemmas.Bool.cases_eq, specs.Prelude.IsSome}
use Rattle.pk_base.specs.Shape.{charge}
use Rattle.pk_nvme.{specs.Seen.command_of, specs.declared.request.Request.Request}
use Rattle.pk_nand.{specs.BoardState.BoardState, specs.BoardState.shape_of, specs.Calls.last_count}
use Rattle.pk_model.{specs.Answer.early, specs.Spaces.limits_at}
use Rattle.pk_call.{specs.Answering.AnswersCommand, specs.Answering.CountsCalls, specs.Answering.SettlesBackground, specs.Answering.ShowsItself, specs.Answering.WaitsForNothing, specs.Exec.report_of}
use Rattle.pk_call.{specs.Running.LeavesDrive, specs.declared.types.Outcome.Outcome, specs.Sight.in_space_at}
use Rattle.pk_parts.{specs.Parts.Parts, specs.Parts.drive_limits, specs.Parts.IsParts, specs.Parts.sight_of, proofs.Staying.stays_same, proofs.Staying.stays_opens}
use Rattle.pk_background.proofs.Callings.{few_within, few_none}
use Rattle.pk_core.{specs.Agreeing.DriveOnFlashBetween, specs.Done.Executes, specs.Performing.Performs, proofs.Callings.few_told, proofs.Due.merges_next, proofs.Early.refused_done}
use Rattle.pk_core.{proofs.Noted.stores_all, proofs.Quieting.quietly_stores, proofs.Quieting.quietly_deletes, proofs.Settling.settles_there, proofs.Settling.rests_there, proofs.Steadying.steadies}
use Rattle.pk_core.{proofs.Statuses.early_refuses, proofs.Statuses.told_refused, proofs.Statuses.told_sound, proofs.Statuses.zero_runs, proofs.Staying.keeps_fresh, proofs.Staying.blocks_grow}

-- what is known of it
pub record HasEnded (d e : Parts) (old new : BoardState) (r : Request) (v : List ℕ) (o : Outcome) (into : List ℕ) : Type 0 where
  pub agreed : DriveOnFlashBetween d old.shape old.pages
  pub executes : Executes d e old new (command_of r v) o into o.reads
  pub performs : Performs d e old new r v o
  pub keeps : IsParts e
  pub counted : old.flash_faults ≤ last_count

-- what is answered that its kind decides
pub record AnswersBy (d e : Parts) (old new : BoardState) (r : Request) (v : List ℕ) (o : Outcome) (buffer into : List ℕ) : Type 0 where
  pub refused : IsSome (early (length (limits_at (shape_of old) old.pages)) (shape_of old) (command_of r v)) → (o.stopped ≡ false) × (new ≡ old) × (e ≡ d)
  pub fine : r.opcode ≡ 0xC2 → (o.status ≢ 0x88) × (new ≡ old)
  pub bytes : r.opcode ≡ 0xC2 → o.status ≡ 0 → take o.data_len into ≡ report_of (in_space_at (sight_of e).spaces r.namespace) (sight_of e).counts
  pub fits : o.data_len ≤ length into
  pub same : length into ≡ length buffer

module _ {d e : Parts} {old new : BoardState} {r : Request} {v : List ℕ} {o : Outcome} {into : List ℕ} (h : HasEnded d e old new r v o into) where
  served : o.status ≡ 0 → o.stopped ≡ false
  served zero = zero_runs o h.executes.does.stop_status zero

  pub leaves_drive : LeavesDrive (DriveOnFlashBetween e) (sight_of e) old new o.stopped
  leaves_drive = record { stops = h.executes.stops; agrees = h.executes.agrees; rest = h.executes.does.rest }

  pub answers_command : {buffer : List ℕ} → AnswersBy d e old new r v o buffer into → AnswersCommand old new (sight_of d) (sight_of e) r v o buffer into
  answers_command by = record {
    stands = h.executes.does.stands;
    stop_status = h.executes.does.stop_status;
    early = λ some. let is = by.refused some in (is.0, is.1, ap sight_of is.2);
    looks = h.performs.looks;
    report = by.fine;
    report_data = by.bytes;
    fits = by.fits;
    room = by.same;
  }

  pub counts_calls : CountsCalls old new r o
  counts_calls = record {
    reads = h.executes.does.reads_are;
    up = h.executes.does.up;
    unread = h.executes.does.unread;
    sound = h.executes.does.sound;
    stop = h.executes.does.stop;
    no_stop = h.executes.does.no_stop;
    flash_up = h.executes.does.flash_up h.counted;
    installs = h.executes.does.installs;
    calls = few_told d old new h.agreed.0 r.opcode r.size h.performs.calls;
  }

  pub settles_background : SettlesBackground old new (sight_of d) (sight_of e) r o
  settles_background = record {
    no_more = λ runs none. h.performs.no_more_work none runs;
    settles = λ is zero. settles_there d e old new r.size (h.executes.agrees (served zero)).0 h.keeps.shared h.executes.does.rest (h.performs.lessens is zero);
    rests = λ is zero. rests_there d e old new r.size (h.executes.agrees (served zero)).0 h.keeps.shared h.executes.does.rest (h.performs.lessens is zero) h.agreed.0;
    half = h.performs.half;
    finishes = h.performs.finishes;
  }

  pub shows_itself : ShowsItself old new (sight_of d) (sight_of e) r v o
  shows_itself = record {
    steady = λ runs. steadies e old new (sight_of d) (h.executes.agrees runs) h.executes.does.rest h.keeps;
    merge = λ runs. merges_next e new (h.executes.agrees runs) h.keeps;
    fresh = λ runs. keeps_fresh d e old new h.agreed.0 (h.executes.agrees runs).0 h.executes.does.rest (h.performs.fresh runs);
    blocks = λ runs. elim (cases_eq r.opcode 0x01) [
      | inl is ↦ blocks_grow d e r.opcode (charge d.log.shape r.size) is (h.performs.opens is runs).blocks
      | inr other ↦ inl (h.performs.no_more other runs)
    ];
    stores = λ is zero.
        let blocks = (h.performs.opens is (served zero)).blocks in
        stores_all d e old new (command_of r v) h.agreed.0 (h.executes.agrees (served zero)).0 (h.performs.noted is zero) blocks h.executes.does.rest;
    open_block = λ no_store no_tick runs. (h.performs.moves no_store no_tick runs).blocks.open_same;
  }

  pub waits_for_nothing : WaitsForNothing old new (sight_of d) r v o
  waits_for_nothing = record {
    quiet_store = λ is zero quiet room. quietly_stores d old new h.agreed.0 r v o (h.performs.quiet_store is) zero quiet room;
    quiet_delete = λ is zero quiet. quietly_deletes d old new h.agreed.0 r v o (h.performs.quiet_delete is) zero quiet;
  }

-- ---- a command that is refused by the checks that read it alone

performs_none : (d : Parts) (old : BoardState) (r : Request) (v : List ℕ) (o : Outcome) → o.status ≢ 0 → Performs d d old old r v o
performs_none d old r v o refused = record {
  half = λ _ _ whole. whole;
  finishes = λ _ zero. absurd (refused zero);
  fresh = λ _. (stays_same d d refl).fresh;
  opens = λ _ _. stays_opens d d (charge d.log.shape r.size) (stays_same d d refl);
  no_more = λ _ _. omega arith;
  moves = λ _ _ _. stays_same d d refl;
  noted = λ _ zero. absurd (refused zero);
  quiet_store = λ _ zero. absurd (refused zero);
  quiet_delete = λ _ zero. absurd (refused zero);
  calls = few_within 0 _ _ _ (omega arith) (few_none _);
  looks = λ _. (refl, refl);
  no_more_work = λ _ _. omega arith;
  lessens = λ _ zero. absurd (refused zero);
}

pub refused_ends : (d : Parts) (old : BoardState) (r : Request) (v : List ℕ) (o : Outcome) (into : List ℕ) (status : ℕ)
    → DriveOnFlashBetween d old.shape old.pages → d.stopped ≡ false → IsParts d → old.flash_faults ≤ last_count → old.reads ≤ last_count
    → early (length (drive_limits d)) d.log.shape (command_of r v) ≡ Some status → o ≡ record { status = status; result = 0; data_len = 0; reads = 0; stopped = false }
    → HasEnded d d old old r v o into
refused_ends d old r v o into status agreed runs keeps counted few is told = record {
  agreed = agreed;
  executes = record {
    stops = runs ∙ sym (ap (λ (x : Outcome). x.stopped) told);
    agrees = λ _. agreed;
    does = refused_done d old (command_of r v) status agreed.0 is o into few told;
  };
  performs = performs_none d old r v o (told_refused o status 0 0 0 false told (early_refuses (length (drive_limits d)) d.log.shape (command_of r v) status is).0);
  keeps = keeps;
  counted = counted;
}

-- its reply is its status alone, which is neither a success nor that of a read that failed
pub refused_answers : (d : Parts) (old : BoardState) (r : Request) (v : List ℕ) (o : Outcome) (into : List ℕ) (status : ℕ) → early (length (drive_limits d)) d.log.shape (command_of r v) ≡ Some status
    → o ≡ record { status = status; result = 0; data_len = 0; reads = 0; stopped = false } → AnswersBy d d old old r v o into into
refused_answers d old r v o into status is told =
    let bare : o.data_len ≡ 0 = ap (λ (x : Outcome). x.data_len) told in
    record {
      refused = λ _. (ap (λ (x : Outcome). x.stopped) told, refl, refl);
      fine = λ _. (told_sound o status 0 0 0 false told (early_refuses (length (drive_limits d)) d.log.shape (command_of r v) status is).1, refl);
      bytes = λ _ zero. absurd (told_refused o status 0 0 0 false told (early_refuses (length (drive_limits d)) d.log.shape (command_of r v) status is).0 zero);
      fits = omega (arith, bare);
      same = refl;
    }
