-- The commands in one namespace of a script that was served without read errors.
use Rattle.std.proofs.Common.{◌≡◌, ℕ, ◌+◌, ◌==◌, if◌then◌else◌, List, [], ◌∷◌, true, false, Option, Some, refl, sym, ap, subst, ◌∙◌, arith}
use Rattle.pk_base.{specs.Shape.Shape, specs.Page.Flash, specs.Map.Map}
use Rattle.pk_nvme.specs.Command.{Command}
use Rattle.pk_nand.{specs.BoardState.BoardState, specs.Calls.Rose, specs.Calls.longer}
use Rattle.pk_model.{specs.Reading.Holds, specs.Run.Run, specs.Run.RunWithin, specs.Run.Exchange, specs.Run.records, specs.Run.faults, specs.Script.script}
use Rattle.pk_model.specs.Spaces.{Terms, terms_at}
use Rattle.pk_law_isolation.specs.Isolation.{map_alone, terms_alone, command_alone, commands_of_space, exchanges_in}
use Rattle.pk_law_isolation.{proofs.Isolating.isolated, proofs.Fixing.fixed}
use Rattle.pk_serve.{specs.Run.Served, specs.Run.ServedBy, specs.declared.end.End.End, proofs.Completing.none_counted}
use Rattle.pk_serve.specs.declared.end.End.TheVariants.{Done}
use Rattle.pk_scan.specs.declared.errors.OpenError.{OpenError}
use Rattle.pk_scan.specs.declared.errors.OpenError.TheVariants.{NotFormatted}
use Rattle.pk_top.{specs.Ends.end_status, specs.Ends.open_status, specs.Isolates.AnsweredApart, specs.Isolates.IsolatesAll, specs.Isolates.IsolatesWhole}
use Rattle.pk_top.{proofs.Opened.found_shape, proofs.Opened.found_pages, proofs.Images.never_done}
use Rattle.pk_top.specs.Loads.{no_memory, not_loaded, no_image, has_image}
use Rattle.pk_top.specs.Serves.{behind_opening, ServesFound, ServeRun}

-- ---- runs

run_of : (shape : Shape) (terms : Terms) (m : Map) (xs : List Exchange) (m' : Map) → RunWithin shape terms m xs m' → Run shape terms m xs m'
run_of shape terms m [] m' e = e
run_of shape terms m (x ∷ xs) m' (next, step, rest) = (next, step.0, run_of shape terms next xs m' rest)

none_of : (a b : ℕ) → a + b ≡ 0 → (a ≡ 0) × (b ≡ 0)
none_of a b sum = (omega arith, omega arith)

none_both : (a b : ℕ) → a ≡ 0 → b ≡ 0 → a + b ≡ 0
none_both a b first rest = omega arith

faults_in : (space : ℕ) (xs : List Exchange) → faults xs ≡ 0 → faults (exchanges_in space xs) ≡ 0
faults_in space [] none = refl
faults_in space (x ∷ xs) none =
    let parts = none_of _ (faults xs) none in
    elim (x.command.namespace == space) as (λ b. faults (if b then record x { command = command_alone x.command } ∷ exchanges_in space xs else exchanges_in space xs) ≡ 0) [
      | true ↦ none_both _ (faults (exchanges_in space xs)) parts.0 (faults_in space xs parts.1)
      | false ↦ faults_in space xs parts.1
    ]

-- ---- a script that was served

module _ (shape : Shape) (frames : ℕ) (loaded new : BoardState) (start : Map) where
  abbrev terms : Terms
  terms = terms_at shape loaded.pages frames

  apart : (cs : List Command) → Served shape terms start (behind_opening shape frames loaded) new cs → (Rose loaded.read_faults new.read_faults → ⊥) → AnsweredApart shape terms start loaded new cs
  apart cs s none_rose =
      let none : faults s.served ≡ 0 = none_counted loaded.read_faults new.read_faults (faults s.served) none_rose s.few_faults in
      let run = run_of shape terms start s.served s.left s.ran in
      record {
        served = s.served;
        are = s.are;
        posted = s.posted;
        left = s.left;
        runs = λ space some most. (isolated shape terms space start s.left s.served some most run).0;
        same = λ space some most xs end ran cmds sound.
            let own = isolated shape terms space start s.left s.served some most run in
            (fixed shape (terms_alone terms space) (map_alone space start) (map_alone space s.left) end (exchanges_in space s.served) xs own.0 ran
            (own.1 ∙ ap (commands_of_space space) s.are ∙ sym cmds) (faults_in space s.served none) sound).0;
      }

  pub isolates_end : (status : ℕ) (end : End) → status ≡ end_status end → Holds shape loaded.pages start
      → ((input : List ℕ) → loaded.input ≡ Some input → ServedBy shape terms start (behind_opening shape frames loaded) new input end) → IsolatesAll shape frames loaded new status
  isolates_end status Done tells held served done none_rose m holds input is =
      let same : start ≡ m = cc in
      let T : Map → Type 0 = λ s. AnsweredApart shape terms s loaded new (script input).0 in
      subst T same (apart (script input).0 (served input is).1 none_rose)
  isolates_end status end tells held served done none_rose m holds input is = absurd (omega (arith, tells, done))

-- a drive that was not opened served no script
pub isolates_not : (shape : Shape) (frames : ℕ) (loaded new : BoardState) (status : ℕ) (error : OpenError) → status ≡ open_status error → IsolatesAll shape frames loaded new status
isolates_not shape frames loaded new status NotFormatted tells done = absurd (omega (arith, tells, done))
isolates_not shape frames loaded new status error tells done = absurd (omega (arith, tells, done))

-- ---- a board that holds its pages from the start

module _ (frames : ℕ) (old new : BoardState) (status : ℕ) where
  isolated_found : ServesFound frames old new status → IsolatesWhole frames old new status
  isolated_found found shape has done none_rose start holds input is =
      let pages = found_pages old found.loaded (Some found.shape) shape has found.found in
      let same = found_shape old found.loaded found.shape shape has found.found in
      let A : Shape → Type 0 = λ s. IsolatesAll s frames found.loaded new status in
      let all : IsolatesAll shape frames found.loaded new status = subst A same found.serves.isolated in
      let H : Flash → Type 0 = λ f. Holds shape f start in
      let R : ℕ → Type 0 = λ n. Rose n new.read_faults → ⊥ in
      let w = all done (subst R (sym (ap (λ (s : BoardState). s.read_faults) found.found.rest)) none_rose) start (subst H (sym pages) holds) input
      (ap (λ (s : BoardState). s.input) found.found.rest ∙ is) in
      let T : Flash → Type 0 = λ f. AnsweredApart shape (terms_at shape f frames) start old new (script input).0 in
      subst T pages (record {
        served = w.served;
        are = w.are;
        posted = w.posted ∙ ap (λ (o : Option (List ℕ)). longer o (records 0 w.served)) (ap (λ (s : BoardState). s.posted) found.found.rest);
        left = w.left;
        runs = w.runs;
        same = w.same;
      })

  pub isolated_whole : ServeRun frames old new status → IsolatesWhole frames old new status
  isolated_whole (no_memory is same) shape has done = absurd (omega (arith, is, done))
  isolated_whole (not_loaded refused) shape has done = absurd (never_done refused.fault (sym refused.tells ∙ done))
  isolated_whole (no_image missing) shape has done = absurd (let tells = missing.tells in omega (arith, tells, done))
  isolated_whole (has_image found) shape has done = isolated_found found shape has done
