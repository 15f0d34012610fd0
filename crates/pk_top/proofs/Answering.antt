-- If no call fails, a word is done.
use Rattle.std.proofs.Common.{◌≡◌, inl, inr, ℕ, ◌+◌, ◌<◌, ◌≤◌, List, Option, Some, IsSome, refl, sym, ◌∙◌, ap, subst, arith, true, nat_le}
use Rattle.std.proofs.lemmas.Bool.Decides.{nat_tests}
use Rattle.pk_base.{specs.Shape.Shape, specs.Page.Flash, specs.Map.Map}
use Rattle.pk_nand.{specs.BoardState.BoardState, specs.Calls.Rose, specs.Calls.Loaded, specs.Calls.longer}
use Rattle.pk_model.{specs.Spaces.terms_at, specs.Kept.AtMost, specs.Kept.rise, specs.Reading.Holds, specs.Run.faults, specs.Wear.roots}
use Rattle.pk_call.specs.Meter.{Meter, meter, MeteredAll}
use Rattle.pk_scan.{specs.Opening.NotOpened, specs.declared.errors.OpenError.OpenError}
use Rattle.pk_scan.specs.declared.errors.OpenError.TheVariants.{NotFormatted, Damaged, Fault as ReadFault, Memory as NoMemory}
use Rattle.pk_wordrun.{specs.Tasks.Task, specs.Tasks.generate, specs.Tasks.SaysTask, specs.Seen.IsAllowedTask, specs.declared.end.WordEnd.WordEnd}
use Rattle.pk_wordrun.specs.Told.{WordDone, most_roots}
use Rattle.pk_wordrun.specs.declared.end.WordEnd.TheVariants.{Done, Output, Flash as FlashFailed, Worn}
use Rattle.pk_top.{specs.Asks.word_status, specs.Asks.AskedTo, specs.Asks.Asks, specs.Asks.AsksAll, specs.Asks.AsksWhole, specs.Asks.AsksFound, specs.Asks.AskRun, specs.Ends.open_status}
use Rattle.pk_top.{specs.declared.asking.TheConstants.WORD_FRAMES, specs.Serves.behind_opening, proofs.Asked.same_meter}
use Rattle.pk_top.{proofs.Opened.found_shape, proofs.Opened.found_pages, proofs.Opened.same_roots, proofs.Opened.none_loaded}
use Rattle.pk_top.proofs.Telling.{Untouched-then, reads_leave, load_untouched, found_or_none}

-- ---- from the load on

-- the drive was not opened
not_opened : (task : Task) (shape : Shape) (loaded new : BoardState) (status : ℕ) (error : OpenError)
    → status ≡ open_status error → NotOpened shape loaded new error → AsksAll task shape loaded new status
not_opened task shape loaded new status NotFormatted is reason start holds far none sound = absurd (let never = reason.0 in cc)
not_opened task shape loaded new status (Damaged page) is reason start holds far none sound = absurd (let never = reason.0 in cc)
not_opened task shape loaded new status ReadFault is reason start holds far none sound = absurd (sound reason.0)
not_opened task shape loaded new status NoMemory is reason start holds far none sound = inr (is, reads_leave loaded new reason)

pub worn_never : (before behind more : ℕ) → nat_le 9223372036854775808 behind ≡ true → behind ≤ before + more → before < 4611686018427387904 → more < 4611686018427387904 → ⊥
worn_never before behind more worn used far few = grind (arith, nat_tests, worn, used, far, few)

module _ (task : Task) (few : most_roots task < 4611686018427387904) (shape : Shape) (loaded new : BoardState) where
  by_end : (status : ℕ) (end : WordEnd) → status ≡ word_status end → AskedTo task shape loaded new end → AsksAll task shape loaded new status
  by_end status Done is asked start holds far none sound =
      let held : Holds shape loaded.pages asked.start = asked.holds in
      let same : asked.start ≡ start = cc in
      let T : Map → Type 0 = λ s. WordDone task shape (terms_at shape loaded.pages WORD_FRAMES) s (behind_opening shape WORD_FRAMES loaded) new in
      inl (is, subst T same asked.ends)
  by_end status Output is asked start holds far none sound = absurd (none.output asked.ends)
  by_end status FlashFailed is asked start holds far none sound = absurd (none.stops asked.ends)
  by_end status Worn is asked start holds far none sound = absurd (worn_never (roots loaded) (roots new) (most_roots task) asked.ends.0 (asked.used refl) far few)

  pub asks_all : (status : ℕ) → Asks task shape loaded new status → AsksAll task shape loaded new status
  asks_all status asks = elim asks.outcome [
    | inl n ↦ not_opened task shape loaded new status n.error n.tells n.reason
    | inr e ↦ by_end status e.0 e.1 e.2
  ]

-- ---- a board that holds its pages from the start

module _ (task : Task) (few : most_roots task < 4611686018427387904) (old new : BoardState) (status : ℕ) where
  module _ (shape : Shape) (loaded : BoardState) (found : Loaded old loaded (Some shape)) (has : old.shape ≡ Some shape) where
    same_pages : loaded.pages ≡ old.pages
    same_pages = found_pages old loaded (Some shape) shape has found

    finished_loaded : (start : Map) → WordDone task shape (terms_at shape loaded.pages WORD_FRAMES) start (behind_opening shape WORD_FRAMES loaded) new
        → WordDone task shape (terms_at shape old.pages WORD_FRAMES) start (behind_opening shape WORD_FRAMES old) new
    finished_loaded start f =
        let R : ℕ → Type 0 = λ n. SaysTask task n new.read_faults shape (terms_at shape loaded.pages WORD_FRAMES) start f.answered.all f.text f.left in
        let F : ℕ → Type 0 = λ n. AtMost (rise n new.read_faults) (faults f.answered.all) in
        let M : Meter → Type 0 = λ t. MeteredAll t f.answered.all (meter new) in
        let same_faults : loaded.read_faults ≡ old.read_faults = ap (λ (s : BoardState). s.read_faults) found.rest in
        let D : Flash → Type 0 = λ p. WordDone task shape (terms_at shape p WORD_FRAMES) start (behind_opening shape WORD_FRAMES old) new in
        subst D same_pages (record {
          left = f.left;
          asked = f.asked;
          are = f.are;
          answered = record {
            all = f.answered.all;
            are = f.answered.are;
            ran = f.answered.ran;
            few = subst F same_faults f.answered.few;
            metered = subst M (same_meter shape old loaded found (subst IsSome (sym has) refl)) f.answered.metered;
          };
          text = f.text;
          says = subst R same_faults f.says;
          posted = f.posted ∙ ap (λ (o : Option (List ℕ)). longer o f.text) (ap (λ (s : BoardState). s.posted) found.rest);
          holds = f.holds;
          sound = record { output = f.sound.output ∙ ap (λ (s : BoardState). s.out_faults) found.rest; stop = f.sound.stop ∙ ap (λ (s : BoardState). s.stop_faults) found.rest };
          unworn = λ begins. ap (λ n. nat_le 9223372036854775808 n) (same_roots old loaded (Some shape) shape has found) ∙ f.unworn begins;
        })

    whole_loaded : AsksAll task shape loaded new status → AsksAll task shape old new status
    whole_loaded all start holds far none sound =
        let H : Flash → Type 0 = λ f. Holds shape f start in
        let F : ℕ → Type 0 = λ n. Rose n new.flash_faults → ⊥ in
        let W : ℕ → Type 0 = λ n. n < 4611686018427387904 in
        let far_loaded = subst W (same_roots old loaded (Some shape) shape has found) far in
        elim (all start (subst H (sym same_pages) holds) far_loaded (none_loaded old loaded new (Some shape) found none) (subst F (sym (ap (λ (s : BoardState). s.flash_faults) found.rest)) sound)) [
          | inl done ↦ inl (done.0, finished_loaded start done.1)
          | inr nothing ↦ inr (nothing.0, Untouched-then old loaded new (load_untouched old loaded (Some shape) found) nothing.1)
        ]

  whole_found : AsksFound task old new status → AsksWhole task old new status
  whole_found found shape has =
      let same = found_shape old found.loaded found.shape shape has found.found in
      let L : Shape → Type 0 = λ s. Loaded old found.loaded (Some s) in
      let A : Shape → Type 0 = λ s. AsksAll task s found.loaded new status in
      whole_loaded shape found.loaded (subst L same found.found) has (subst A same (asks_all task few found.shape found.loaded new status found.asks))

  pub whole_ask : AskRun task old new status → AsksWhole task old new status
  whole_ask run shape has start holds far none sound = elim (found_or_none old new status run shape has sound) [
    | inl found ↦ whole_found found shape has start holds far none sound
    | inr nothing ↦ inr nothing
  ]

-- no word uses up the roots
pub few_roots : (task : Task) → IsAllowedTask task → most_roots task < 4611686018427387904
few_roots (generate begin count) short = omega (arith, short)
few_roots task short = omega arith
