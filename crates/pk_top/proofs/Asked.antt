-- A run of a word that asks the drive, from the load on.
use Rattle.std.proofs.Common.{◌≡◌, inl, inr, ℕ, List, [], Some, None, IsSome, Ok, refl, sym, ◌∙◌, ap, subst}
use Rattle.pk_base.{specs.Entry.Entry, specs.Map.Map, specs.Page.Flash, specs.Page.IsFlash, specs.Shape.Shape}
use Rattle.pk_nand.{specs.BoardState.BoardState, specs.BoardState.shape_or_none, specs.Calls.Rose, specs.Calls.Loaded, specs.Calls.IsReady, specs.Counts.counted_by, specs.Effects.OnlyReading}
use Rattle.pk_nand.{specs.Resting.RestsFlash, proofs.Resting.Rests-start}
use Rattle.pk_model.{specs.Spaces.Terms, specs.Spaces.limits_at, specs.Spaces.terms_at, specs.Spaces.in_space, specs.Wear.root_number}
use Rattle.pk_model.specs.Reading.{reading, Holds}
use Rattle.pk_port.{specs.Steps.mount, proofs.Serving.mounted_terms}
use Rattle.pk_call.{specs.Sight.Sight, specs.Drive.HoldsMap, specs.Meter.Meter, specs.Meter.meter}
use Rattle.pk_scan.{specs.Opening.NotOpened, specs.Reads.opening_reads, specs.declared.errors.OpenError.OpenError}
use Rattle.pk_words.{specs.Lines.key_lines, specs.Says.wanted_keys}
use Rattle.pk_wordrun.{specs.Tasks.Task, specs.Tasks.answer, specs.Tasks.list, specs.Tasks.generate, specs.Tasks.KeptTask, specs.Told.Told, specs.Told.EndsBy, specs.Told.KeepsInput}
use Rattle.pk_wordrun.specs.declared.end.WordEnd.{WordEnd}
use Rattle.pk_wordrun.specs.declared.end.WordEnd.TheVariants.{Done, Output, Flash as FlashFailed, Worn}
use Rattle.pk_top.{specs.Loads.no_memory, specs.Loads.not_loaded, specs.Loads.no_image, specs.Loads.has_image, specs.declared.asking.TheConstants.WORD_FRAMES, specs.Ends.open_status}
use Rattle.pk_top.{specs.Asks.word_status, specs.Asks.KeepsTask, specs.Asks.Asks, specs.Asks.AskRun, specs.Serves.behind_opening, specs.Statuses.Tells}
use Rattle.pk_top.proofs.Opened.{Kept-none, Goes-reading, Goes-behind}
use Rattle.pk_top.proofs.Telling.{tells_good, tells_output, tells_flash, tells_memory, tells_no_drive, tells_refused, tells_not, gives_same, load_untouched}

-- ---- nothing was done

-- a flash that holds the map, before any byte was posted
pub silent : (task : Task) (from to : Meter) (shape : Shape) (terms : Terms) (start : Map) (flash : Flash) → Holds shape flash start → limits_at shape flash ≡ terms.limits
    → KeptTask task from to shape terms start flash []
silent (answer q) from to shape terms start flash holds within = (Kept-none shape terms start _ from.read_faults to.read_faults flash holds within, inl refl)
silent (list key) from to shape terms start flash holds within =
    let lines = key_lines (wanted_keys key (in_space 1 start)) in record { held = holds; same_limits = within; text = lines; says = (refl, inl refl); unposted = lines; front = refl }
silent (generate begin count) from to shape terms start flash holds within = (Kept-none shape terms start _ from.read_faults to.read_faults flash holds within, inl refl)

-- what a word keeps is a flash that holds a map
pub task_holds : (task : Task) (from to : Meter) (shape : Shape) (terms : Terms) (start : Map) (flash : Flash) (posted : List ℕ) → KeptTask task from to shape terms start flash posted
    → (m : Map) × Holds shape flash m
task_holds (answer q) from to shape terms start flash posted kept = (kept.0.map_left, kept.0.held)
task_holds (list key) from to shape terms start flash posted kept = (start, kept.held)
task_holds (generate begin count) from to shape terms start flash posted kept = (kept.0.map_left, kept.0.held)

-- and its limits are the same
pub task_limits : (task : Task) (from to : Meter) (shape : Shape) (terms : Terms) (start : Map) (flash : Flash) (posted : List ℕ) → KeptTask task from to shape terms start flash posted
    → limits_at shape flash ≡ terms.limits
task_limits (answer q) from to shape terms start flash posted kept = kept.0.same_limits
task_limits (list key) from to shape terms start flash posted kept = kept.same_limits
task_limits (generate begin count) from to shape terms start flash posted kept = kept.0.same_limits

-- reads do not touch the input
pub input_still : (a b : BoardState) → OnlyReading a b → KeepsInput a b
input_still a b only = record { input = ap (λ (s : BoardState). s.input) only; in_faults = ap (λ (s : BoardState). s.in_faults) only }

-- the counts after the reads of opening are the same before the load, if the board holds its pages from the start
pub same_meter : (shape : Shape) (old loaded : BoardState) → Loaded old loaded (Some shape) → IsSome old.shape
    → meter (behind_opening shape WORD_FRAMES loaded) ≡ meter (behind_opening shape WORD_FRAMES old)
same_meter shape old loaded found some =
    let held = found.held some in
    let reads : loaded.reads ≡ old.reads = ap (λ (s : BoardState). s.reads) found.rest in
    let faults : loaded.read_faults ≡ old.read_faults = ap (λ (s : BoardState). s.read_faults) found.rest in
    λ k. record {
      reads = counted_by (opening_reads shape (held.0 k) WORD_FRAMES) (reads k);
      read_faults = faults k;
      roots = root_number (shape_or_none (held.1 k)) (held.0 k);
    }

module _ (task : Task) (shape : Shape) (loaded new : BoardState) where
  -- the counts of the board after the reads of opening, and at the end
  abbrev from : Meter
  from = meter (behind_opening shape WORD_FRAMES loaded)

  abbrev KeptFrom : Flash → List ℕ → Type 0
  KeptFrom flash posted = (start : Map) → Holds shape loaded.pages start → KeptTask task from (meter new) shape (terms_at shape loaded.pages WORD_FRAMES) start flash posted

  keeps-none : OnlyReading loaded new → KeepsTask task shape loaded new
  keeps-none only = Goes-reading shape loaded new KeptFrom only
      (λ start holds. silent task from (meter new) shape (terms_at shape loaded.pages WORD_FRAMES) start loaded.pages holds refl)

  rests-reading : OnlyReading loaded new → RestsFlash loaded new
  rests-reading only = Rests-start loaded new (ap (λ (s : BoardState). s.shape) only)
      (ap (λ (s : BoardState). s.pages) only) (ap (λ (s : BoardState). s.trail) only) (ap (λ (s : BoardState). s.posted) only)

  -- the reads of opening leave the flash
  rests-opened : RestsFlash (behind_opening shape WORD_FRAMES loaded) new → RestsFlash loaded new
  rests-opened r = record {
    marks = r.marks;
    reached = record { trail = r.reached.trail; posted = r.reached.posted; same_shape = r.reached.same_shape; cuts = r.reached.cuts; stands = r.reached.stands };
  }

  -- the drive was not opened
  pub Asks-not : (status : ℕ) (error : OpenError) → status ≡ open_status error → NotOpened shape loaded new error → OnlyReading loaded new → Asks task shape loaded new status
  Asks-not status error tells reason only = record {
    kept = keeps-none only;
    input = input_still loaded new only;
    rests = λ _. rests-reading only;
    outcome = inl (record { error = error; tells = tells; reason = reason; only_reads = only });
  }

  -- it was
  module _ (drive : Sight) (start : Map) (stands : HoldsMap shape (terms_at shape loaded.pages WORD_FRAMES) (behind_opening shape WORD_FRAMES loaded) drive start) (none : drive.pending ≡ []) where
    start-held : Holds shape loaded.pages start
    start-held = let T : List Entry → Type 0 = λ p. reading shape loaded.pages p ≡ Ok start in subst T none stands.map_is

    -- a flash holds one map
    kept-from : (flash : Flash) (posted : List ℕ) → KeptTask task from (meter new) shape (terms_at shape loaded.pages WORD_FRAMES) start flash posted → KeptFrom flash posted
    kept-from flash posted kept m holds =
        let held : Holds shape loaded.pages start = start-held in
        let same : start ≡ m = cc in
        let T : Map → Type 0 = λ s. KeptTask task from (meter new) shape (terms_at shape loaded.pages WORD_FRAMES) s flash posted in
        subst T same kept

    told-by : (status : ℕ) (end : WordEnd) → status ≡ word_status end
        → Told task shape (terms_at shape loaded.pages WORD_FRAMES) start (behind_opening shape WORD_FRAMES loaded) new end → Asks task shape loaded new status
    told-by status end tells told = record {
      kept = Goes-behind shape WORD_FRAMES loaded new (KeptTask task from (meter new) shape (terms_at shape loaded.pages WORD_FRAMES) start) KeptFrom kept-from told.kept;
      input = record { input = told.input.input; in_faults = told.input.in_faults };
      rests = λ only. rests-opened (told.rests only);
      outcome = inr (end, tells, record { start = start; holds = start-held; ends = told.ends; used = told.used });
    }

  pub Asks-opened : (opened_board : BoardState) (drive : Sight) (status : ℕ) (end : WordEnd)
      → opened_board ≡ behind_opening shape WORD_FRAMES loaded → ((m : Map) × HoldsMap shape (terms_at shape opened_board.pages WORD_FRAMES) opened_board drive m) → drive.pending ≡ []
      → status ≡ word_status end → ((start : Map) → Holds shape opened_board.pages start → Told task shape (mount opened_board drive).terms start opened_board new end)
      → Asks task shape loaded new status
  Asks-opened opened_board drive status end is stands none tells told =
      let T : BoardState → Type 0 = λ b. (m : Map) × HoldsMap shape (terms_at shape b.pages WORD_FRAMES) b drive m in
      let S : BoardState → Type 0 = λ b. (start : Map) → Holds shape b.pages start → Told task shape (mount b drive).terms start b new end in
      let at : T (behind_opening shape WORD_FRAMES loaded) = subst T is stands in
      let F : Terms → Type 0 = λ terms. Told task shape terms at.0 (behind_opening shape WORD_FRAMES loaded) new end in
      told-by drive at.0 at.1 none status end tells (subst F (mounted_terms shape _ _ drive at.0 at.1) (subst S is told at.0 (start-held drive at.0 at.1 none)))

-- a drive of some frames is one of its own number of frames
pub own_frames : (shape shape' : Shape) (frames : ℕ) (b : BoardState) (d : Sight) → shape' ≡ shape → (m : Map) × HoldsMap shape (terms_at shape b.pages frames) b d m
    → (m : Map) × HoldsMap shape' (mount b d).terms b d m
own_frames shape shape' frames b d same stands =
    let T : Shape → Type 0 = λ s. (m : Map) × HoldsMap s (mount b d).terms b d m in
    let own : HoldsMap shape (mount b d).terms b d stands.0 =
    subst (λ (t : Terms). HoldsMap shape t b d stands.0) (sym (mounted_terms shape (terms_at shape b.pages frames) b d stands.0 stands.1)) stands.1 in
    subst T (sym same) (stands.0, own)

-- a board that was only read is as ready as before
pub ready_behind : (shape shape' : Shape) (a b : BoardState) → shape' ≡ shape → IsReady a shape → OnlyReading a b → IsReady b shape'
ready_behind shape shape' a b same ready only =
    let now : IsReady b shape = record {
      shape_is = ap (λ (s : BoardState). s.shape) only ∙ ready.shape_is;
      flash = subst (λ (f : Flash). IsFlash shape f) (sym (ap (λ (s : BoardState). s.pages) only)) ready.flash;
    } in
    subst (λ (s : Shape). IsReady b s) (sym same) now

-- ---- what the status says

module _ (shape : Shape) (old loaded new : BoardState) (found : Loaded old loaded (Some shape)) where
  tells_end : (task : Task) (start : Map) (end : WordEnd)
      → EndsBy task shape (terms_at shape loaded.pages WORD_FRAMES) start (behind_opening shape WORD_FRAMES loaded) new end → Tells old new (word_status end)
  tells_end task start Done ends = tells_good old new 0 (inl refl)
  tells_end task start Output ends = let T : ℕ → Type 0 = λ n. Rose n new.out_faults in tells_output old new (subst T (ap (λ (s : BoardState). s.out_faults) found.rest) ends)
  tells_end task start FlashFailed ends = let T : ℕ → Type 0 = λ n. Rose n new.stop_faults in tells_flash old new 6 refl (inl (subst T (ap (λ (s : BoardState). s.stop_faults) found.rest) ends))
  tells_end task start Worn ends = tells_good old new 10 (inr (inr refl))

  tells_asks : (task : Task) (status : ℕ) → Asks task shape loaded new status → Tells old new status
  tells_asks task status s = elim s.outcome [
    | inl n ↦ tells_not shape old loaded new found status n.error n.tells n.reason n.only_reads
    | inr e ↦ let T : ℕ → Type 0 = λ n. Tells old new n in subst T (sym e.1) (tells_end task e.2.start e.0 e.2.ends)
  ]

pub tells_ask : (task : Task) (old new : BoardState) (status : ℕ) → AskRun task old new status → Tells old new status
tells_ask task old new status (no_memory is same) = tells_memory old new status is (ap (λ (s : BoardState). s.flash_faults) same) (gives_same old new same)
tells_ask task old new status (not_loaded refused) = tells_refused old new status refused
tells_ask task old new status (no_image missing) = tells_no_drive old new status missing.tells (inl missing.found.shape_is) (load_untouched old new None missing.found)
tells_ask task old new status (has_image found) = tells_asks found.shape old found.loaded new found.found task status found.asks
