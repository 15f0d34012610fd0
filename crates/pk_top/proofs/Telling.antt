-- What the status of a run says.
use Rattle.std.proofs.Common.{◌≡◌, ◌⊎◌, ◌==◌, inl, inr, ℕ, Bool, true, false, List, Option, Some, None, IsSome, refl, sym, ◌∙◌, ap, subst, arith}
use Rattle.pk_base.{specs.Shape.Shape, specs.Page.Page, specs.Refusal.Refusal, specs.Refusal.not_formatted, specs.Refusal.damaged}
use Rattle.pk_nand.{specs.BoardState.BoardState, specs.Calls.Rose, specs.Calls.Loaded, specs.Calls.LoadFailed, specs.declared.types.LoadFault.LoadFault, specs.Effects.OnlyReading}
use Rattle.pk_nand.specs.declared.types.LoadFault.TheVariants.{Fault, BadImage, Memory}
use Rattle.pk_model.specs.Reading.{Refuses}
use Rattle.pk_serve.{specs.Ends.Blames, specs.declared.end.End.End}
use Rattle.pk_serve.specs.declared.end.End.TheVariants.{Done, Truncated, Input, Output, Flash, Worn}
use Rattle.pk_scan.{specs.Opening.NotOpened, specs.Opening.OnlyReads, specs.declared.errors.OpenError.OpenError}
use Rattle.pk_scan.specs.declared.errors.OpenError.TheVariants.{NotFormatted, Damaged, Fault as ReadFault, Memory as NoMemory}
use Rattle.pk_top.{specs.Ends.end_status, specs.Ends.open_status, specs.Serves.ServeRun, specs.Serves.RunServes, specs.Serves.behind_opening}
use Rattle.pk_top.specs.Loads.{load_status, HasReason, LoadRefused, NoImage, WordRun, no_memory, not_loaded, no_image, has_image}
use Rattle.pk_top.proofs.Opened.{none_missing}
use Rattle.pk_top.specs.Statuses.{GivesNothing, Untouched, FlashFailed, HasNoDrive, Tells}

-- ---- one status each

-- what holds if it does
abbrev pub When : Bool → Type 0 → Type 0
When true A = A
When false A = Unit {0}

-- what a status says
abbrev Means : BoardState → BoardState → ℕ → Type 0
Means old new n =
    When (n == 2) ⊥ × When (n == 4) (Rose old.in_faults new.in_faults) × When (n == 5) (Rose old.out_faults new.out_faults) × When (n == 6) (FlashFailed old new)
    × When (n == 7) ((new.flash_faults ≡ old.flash_faults) × GivesNothing old new) × When (n == 8) (HasNoDrive new × Untouched old new) × When (n == 9) (IsSome new.shape × Untouched old new)

tells_by : (old new : BoardState) (status n : ℕ) → status ≡ n → Means old new n → Tells old new status
tells_by old new status n is h =
    let at : (k : ℕ) → status ≡ k → Means old new k = λ k e. subst (Means old new) (sym is ∙ e) h in
    record {
      no_words = λ e. (at 2 e).0;
      input = λ e. (at 4 e).1;
      output = λ e. (at 5 e).2;
      flash = λ e. (at 6 e).3;
      memory = λ e. (at 7 e).4;
      no_drive = λ e. (at 8 e).5;
      made = λ e. (at 9 e).6;
    }

pub tells_good : (old new : BoardState) (status : ℕ) → (status ≡ 0) ⊎ ((status ≡ 3) ⊎ (status ≡ 10)) → Tells old new status
tells_good old new status (inl e) = tells_by old new status 0 e (tt, tt, tt, tt, tt, tt, tt)
tells_good old new status (inr (inl e)) = tells_by old new status 3 e (tt, tt, tt, tt, tt, tt, tt)
tells_good old new status (inr (inr e)) = tells_by old new status 10 e (tt, tt, tt, tt, tt, tt, tt)

tells_input : (old new : BoardState) → Rose old.in_faults new.in_faults → Tells old new 4
tells_input old new rose = tells_by old new 4 4 refl (tt, rose, tt, tt, tt, tt, tt)

pub tells_output : (old new : BoardState) → Rose old.out_faults new.out_faults → Tells old new 5
tells_output old new rose = tells_by old new 5 5 refl (tt, tt, rose, tt, tt, tt, tt)

pub tells_flash : (old new : BoardState) (status : ℕ) → status ≡ 6 → FlashFailed old new → Tells old new status
tells_flash old new status is failed = tells_by old new status 6 is (tt, tt, tt, failed, tt, tt, tt)

pub tells_memory : (old new : BoardState) (status : ℕ) → status ≡ 7 → new.flash_faults ≡ old.flash_faults → GivesNothing old new → Tells old new status
tells_memory old new status is sound gives = tells_by old new status 7 is (tt, tt, tt, tt, (sound, gives), tt, tt)

pub tells_no_drive : (old new : BoardState) (status : ℕ) → status ≡ 8 → HasNoDrive new → Untouched old new → Tells old new status
tells_no_drive old new status is none untouched = tells_by old new status 8 is (tt, tt, tt, tt, tt, (none, untouched), tt)

-- if nothing was done
pub gives_same : (old new : BoardState) → new ≡ old → GivesNothing old new
gives_same old new same = record { input = ap (λ (s : BoardState). s.input) same; posted = ap (λ (s : BoardState). s.posted) same }

pub untouched_same : (old new : BoardState) → new ≡ old → Untouched old new
untouched_same old new same = record {
  gives = gives_same old new same;
  trail = ap (λ (s : BoardState). s.trail) same;
  sound = ap (λ (s : BoardState). s.flash_faults) same;
  held = λ some. (ap (λ (s : BoardState). s.pages) same, ap (λ (s : BoardState). s.shape) same);
}

-- first one call, then another
pub Untouched-then : (a b c : BoardState) → Untouched a b → Untouched b c → Untouched a c
Untouched-then a b c p q = record {
  gives = record { input = q.gives.input ∙ p.gives.input; posted = q.gives.posted ∙ p.gives.posted };
  trail = q.trail ∙ p.trail;
  sound = q.sound ∙ p.sound;
  held = λ some.
      let one = p.held some in
      let two = q.held (subst IsSome (sym one.1) some) in (two.0 ∙ one.0, two.1 ∙ one.1);
}

-- only reads were made, and none failed
pub reads_leave : (loaded new : BoardState) → OnlyReads loaded new → Untouched loaded new
reads_leave loaded new (n, only) = record {
  gives = record { input = ap (λ (s : BoardState). s.input) only; posted = ap (λ (s : BoardState). s.posted) only };
  trail = ap (λ (s : BoardState). s.trail) only;
  sound = ap (λ (s : BoardState). s.flash_faults) only;
  held = λ some. (ap (λ (s : BoardState). s.pages) only, ap (λ (s : BoardState). s.shape) only);
}

-- ---- a load

pub load_gives : (old new : BoardState) (found : Option Shape) → Loaded old new found → GivesNothing old new
load_gives old new found l = record { input = ap (λ (s : BoardState). s.input) l.rest; posted = ap (λ (s : BoardState). s.posted) l.rest }

pub load_untouched : (old new : BoardState) (found : Option Shape) → Loaded old new found → Untouched old new
load_untouched old new found l = record { gives = load_gives old new found l; trail = ap (λ (s : BoardState). s.trail) l.rest; sound = ap (λ (s : BoardState). s.flash_faults) l.rest; held = l.held }

refused_gives : (old new : BoardState) → LoadFailed old new → GivesNothing old new
refused_gives old new l = record { input = ap (λ (s : BoardState). s.input) l.rest; posted = ap (λ (s : BoardState). s.posted) l.rest }

pub refused_untouched : (old new : BoardState) → new.flash_faults ≡ old.flash_faults → LoadFailed old new → Untouched old new
refused_untouched old new sound l = record { gives = refused_gives old new l; trail = ap (λ (s : BoardState). s.trail) l.rest; sound = sound; held = l.held }

-- a load that lacks memory
pub wants_sound : (old new : BoardState) (fault : LoadFault) → load_status fault ≡ 7 → HasReason old new fault → new.flash_faults ≡ old.flash_faults
wants_sound old new Memory wants reason = reason
wants_sound old new other wants reason = absurd (omega arith)

some_bad : (at : ℕ) (bad : Option ℕ) → bad ≡ Some at → IsSome bad
some_bad at bad e = let T : Option ℕ → Type 0 = IsSome in subst T (sym e) refl

tells_fault : (old new : BoardState) (status : ℕ) (fault : LoadFault) → status ≡ load_status fault → HasReason old new fault → LoadFailed old new → Tells old new status
tells_fault old new status Fault is reason failed = tells_flash old new status is (inr (reason, refused_gives old new failed))
tells_fault old new status (BadImage at) is reason failed = tells_no_drive old new status is (inr (inl (some_bad at new.bad reason.1))) (refused_untouched old new reason.0 failed)
tells_fault old new status Memory is reason failed = tells_memory old new status is reason (refused_gives old new failed)

pub tells_refused : (old new : BoardState) (status : ℕ) → LoadRefused old new status → Tells old new status
tells_refused old new status r = tells_fault old new status r.fault r.tells r.reason r.failed

-- ---- a drive that was not opened

module _ (shape : Shape) (old loaded new : BoardState) (found : Loaded old loaded (Some shape)) where
  reads_gives : OnlyReading loaded new → GivesNothing old new
  reads_gives only = record {
    input = ap (λ (s : BoardState). s.input) only ∙ ap (λ (s : BoardState). s.input) found.rest;
    posted = ap (λ (s : BoardState). s.posted) only ∙ ap (λ (s : BoardState). s.posted) found.rest;
  }

  pub reads_untouched : OnlyReads loaded new → Untouched old new
  reads_untouched reads = Untouched-then old loaded new (load_untouched old loaded (Some shape) found) (reads_leave loaded new reads)

  holds_none : (refusal : Refusal) → OnlyReading loaded new → Refuses shape loaded.pages refusal → HasNoDrive new
  holds_none refusal only refuses =
      let T : List Page → Type 0 = λ pages. Refuses shape pages refusal in
      inr (inr (shape, refusal, ap (λ (s : BoardState). s.shape) only ∙ found.shape_is, subst T (sym (ap (λ (s : BoardState). s.pages) only)) refuses))

  pub tells_not : (status : ℕ) (error : OpenError) → status ≡ open_status error → NotOpened shape loaded new error → OnlyReading loaded new → Tells old new status
  tells_not status NotFormatted is reason only = tells_no_drive old new status is (holds_none not_formatted only reason.0) (reads_untouched reason.1)
  tells_not status (Damaged page) is reason only = tells_no_drive old new status is (holds_none (damaged page) only reason.0) (reads_untouched reason.1)
  tells_not status ReadFault is reason only =
      let T : ℕ → Type 0 = λ n. Rose n new.flash_faults in
      tells_flash old new status is (inr (subst T (ap (λ (s : BoardState). s.flash_faults) found.rest) reason.0, reads_gives only))
  tells_not status NoMemory is reason only = tells_memory old new status is (reads_untouched reason).sound (reads_gives only)

  pub wants_untouched : (error : OpenError) → open_status error ≡ 7 → NotOpened shape loaded new error → Untouched old new
  wants_untouched NoMemory wants reason = reads_untouched reason
  wants_untouched error wants reason = absurd (omega arith)

  -- ---- a drive that was opened

  tells_end : (frames : ℕ) (end : End) → Blames (behind_opening shape frames loaded) new end → Tells old new (end_status end)
  tells_end frames Done blames = tells_good old new 0 (inl refl)
  tells_end frames Truncated blames = tells_good old new 3 (inr (inl refl))
  tells_end frames Input blames = let T : ℕ → Type 0 = λ n. Rose n new.in_faults in tells_input old new (subst T (ap (λ (s : BoardState). s.in_faults) found.rest) blames.0)
  tells_end frames Output blames = let T : ℕ → Type 0 = λ n. Rose n new.out_faults in tells_output old new (subst T (ap (λ (s : BoardState). s.out_faults) found.rest) blames)
  tells_end frames Flash blames = let T : ℕ → Type 0 = λ n. Rose n new.stop_faults in tells_flash old new 6 refl (inl (subst T (ap (λ (s : BoardState). s.stop_faults) found.rest) blames))
  tells_end frames Worn blames = tells_good old new 10 (inr (inr refl))

  tells_serves : (frames status : ℕ) → RunServes shape frames loaded new status → Tells old new status
  tells_serves frames status s = elim s.outcome [
    | inl n ↦ tells_not status n.error n.tells n.reason n.only_reads
    | inr e ↦ let T : ℕ → Type 0 = λ n. Tells old new n in subst T (sym e.1) (tells_end frames e.0 e.2.blames)
  ]

-- ---- the word

-- If no flash operation failed, on a board that holds its pages from the start: an image was found, or memory was missing, and nothing was done.
pub found_or_none : {Found : Type 0} (old new : BoardState) (status : ℕ) → WordRun (NoImage old new status) Found old new status → (shape : Shape) → old.shape ≡ Some shape
    → (Rose old.flash_faults new.flash_faults → ⊥) → Found ⊎ ((status ≡ 7) × Untouched old new)
found_or_none old new status (no_memory is same) shape has sound = inr (is, untouched_same old new same)
found_or_none {Found} old new status (not_loaded refused) shape has sound = by refused.fault refused.tells refused.reason
  where
    by : (fault : LoadFault) → status ≡ load_status fault → HasReason old new fault → Found ⊎ ((status ≡ 7) × Untouched old new)
    by Fault is reason = absurd (sound reason)
    by (BadImage at) is reason = absurd (reason.2 (subst IsSome (sym has) refl))
    by Memory is reason = inr (is, refused_untouched old new reason refused.failed)
found_or_none old new status (no_image missing) shape has sound = absurd (none_missing old new shape has missing.found)
found_or_none old new status (has_image found) shape has sound = inl found

pub tells_serve : (frames : ℕ) (old new : BoardState) (status : ℕ) → ServeRun frames old new status → Tells old new status
tells_serve frames old new status (no_memory is same) = tells_memory old new status is (ap (λ (s : BoardState). s.flash_faults) same) (gives_same old new same)
tells_serve frames old new status (not_loaded refused) = tells_refused old new status refused
tells_serve frames old new status (no_image missing) = tells_no_drive old new status missing.tells (inl missing.found.shape_is) (load_untouched old new None missing.found)
tells_serve frames old new status (has_image found) = tells_serves found.shape old found.loaded new found.found frames status found.serves
