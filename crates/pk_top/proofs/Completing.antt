-- If no call fails, a whole script is served.
use Rattle.std.proofs.Common.{◌≡◌, inl, inr, ℕ, List, Option, Some, sym, ◌∙◌, ap, subst, ◌<◌}
use Rattle.pk_base.{specs.Shape.Shape, specs.Page.Flash, specs.Map.Map}
use Rattle.pk_nvme.specs.Command.{Command}
use Rattle.pk_nand.{specs.BoardState.BoardState, specs.Calls.Rose, specs.Calls.Loaded, specs.Calls.longer}
use Rattle.pk_model.{specs.Spaces.terms_at, specs.Reading.Holds, specs.Run.records, specs.Script.script}
use Rattle.pk_scan.{specs.Opening.NotOpened, specs.declared.errors.OpenError.OpenError}
use Rattle.pk_scan.specs.declared.errors.OpenError.TheVariants.{NotFormatted, Damaged, Fault as ReadFault, Memory as NoMemory}
use Rattle.pk_serve.specs.Complete.{IsServable, Complete}
use Rattle.pk_top.specs.Ends.{open_status}
use Rattle.pk_top.{specs.Serves.ServeRun, specs.Serves.ServesFound, specs.Serves.ServesAll, specs.Serves.ServesWhole, specs.Serves.behind_opening}
use Rattle.pk_top.{proofs.Opened.found_shape, proofs.Opened.found_pages, proofs.Opened.same_roots, proofs.Opened.none_loaded}
use Rattle.pk_top.proofs.Telling.{Untouched-then, reads_leave, load_untouched, found_or_none}

-- ---- a drive that was not opened

pub all_not : (shape : Shape) (frames : ℕ) (loaded new : BoardState) (status : ℕ) (error : OpenError)
    → status ≡ open_status error → NotOpened shape loaded new error → ServesAll shape frames loaded new status
all_not shape frames loaded new status NotFormatted is reason start holds input told ok sound = absurd (let none = reason.0 in cc)
all_not shape frames loaded new status (Damaged page) is reason start holds input told ok sound = absurd (let none = reason.0 in cc)
all_not shape frames loaded new status ReadFault is reason start holds input told ok sound = absurd (sound reason.0)
all_not shape frames loaded new status NoMemory is reason start holds input told ok sound = inr (is, reads_leave loaded new reason)

-- ---- a drive that was opened

module _ (shape : Shape) (frames : ℕ) (loaded new : BoardState) (cs : List Command) where
  pub servable_behind : (rest : List ℕ) → IsServable loaded new cs rest → IsServable (behind_opening shape frames loaded) new cs rest
  servable_behind rest ok = record {
    whole = ok.whole;
    few = ok.few;
    far_from_worn = ok.far_from_worn;
    few_ticks = ok.few_ticks;
    none_rose = record { reads = ok.none_rose.reads; stops = ok.none_rose.stops; input = ok.none_rose.input; output = ok.none_rose.output };
  }

  pub complete_before : (start m : Map) → start ≡ m → Complete shape (terms_at shape loaded.pages frames) start (behind_opening shape frames loaded) new cs
      → Complete shape (terms_at shape loaded.pages frames) m loaded new cs
  complete_before start m same c =
      let T : Map → Type 0 = λ s. Complete shape (terms_at shape loaded.pages frames) s loaded new cs in
      subst T same (record { served = c.served; are = c.are; ran = c.ran; posted = c.posted; holds = c.holds })

-- ---- a board that holds its pages from the start

module _ (frames : ℕ) (old new : BoardState) (status : ℕ) where
  module _ (shape : Shape) (loaded : BoardState) (found : Loaded old loaded (Some shape)) (has : old.shape ≡ Some shape) where
    same_pages : loaded.pages ≡ old.pages
    same_pages = found_pages old loaded (Some shape) shape has found

    servable_loaded : (cs : List Command) (rest : List ℕ) → IsServable old new cs rest → IsServable loaded new cs rest
    servable_loaded cs rest ok =
        record {
          whole = ok.whole;
          few = ok.few;
          far_from_worn = subst (λ (n : ℕ). n < 4611686018427387904) (same_roots old loaded (Some shape) shape has found) ok.far_from_worn;
          few_ticks = ok.few_ticks;
          none_rose = none_loaded old loaded new (Some shape) found ok.none_rose;
        }

    complete_loaded : (start : Map) (cs : List Command) → Complete shape (terms_at shape loaded.pages frames) start loaded new cs → Complete shape (terms_at shape old.pages frames) start old new cs
    complete_loaded start cs c =
        let T : Flash → Type 0 = λ f. Complete shape (terms_at shape f frames) start old new cs in
        subst T same_pages (record {
          served = c.served;
          are = c.are;
          ran = c.ran;
          posted = c.posted ∙ ap (λ (o : Option (List ℕ)). longer o (records 0 c.served)) (ap (λ (s : BoardState). s.posted) found.rest);
          holds = c.holds;
        })

    whole_loaded : ServesAll shape frames loaded new status → ServesAll shape frames old new status
    whole_loaded all start holds input told ok sound =
        let H : Flash → Type 0 = λ f. Holds shape f start in
        let F : ℕ → Type 0 = λ n. Rose n new.flash_faults → ⊥ in
        elim (all start (subst H (sym same_pages) holds) input (ap (λ (s : BoardState). s.input) found.rest ∙ told) (servable_loaded (script input).0 (script input).1 ok)
        (subst F (sym (ap (λ (s : BoardState). s.flash_faults) found.rest)) sound)) [
          | inl done ↦ inl (done.0, complete_loaded start (script input).0 done.1)
          | inr none ↦ inr (none.0, Untouched-then old loaded new (load_untouched old loaded (Some shape) found) none.1)
        ]

  whole_found : ServesFound frames old new status → ServesWhole frames old new status
  whole_found found shape has =
      let same = found_shape old found.loaded found.shape shape has found.found in
      let L : Shape → Type 0 = λ s. Loaded old found.loaded (Some s) in
      let A : Shape → Type 0 = λ s. ServesAll s frames found.loaded new status in
      whole_loaded shape found.loaded (subst L same found.found) has (subst A same found.serves.complete)

  pub whole_serve : ServeRun frames old new status → ServesWhole frames old new status
  whole_serve run shape has start holds input told ok sound = elim (found_or_none old new status run shape has sound) [
    | inl found ↦ whole_found found shape has start holds input told ok sound
    | inr none ↦ inr none
  ]
