-- A session from its load on: what is kept of it.
use Rattle.std.proofs.Common.{◌≡◌, inl, inr, ℕ, List, [], Ok, refl, ◌∙◌, ap, subst}
use Rattle.pk_base.{specs.Shape.Shape, specs.Page.Flash, specs.Map.Map, specs.Entry.Entry}
use Rattle.pk_nvme.specs.Command.{Command}
use Rattle.pk_nand.{specs.BoardState.BoardState, specs.Effects.OnlyReading}
use Rattle.pk_model.{specs.Spaces.terms_at, specs.Kept.rise, specs.Reading.reading, specs.Reading.Holds, specs.Script.script, specs.Growth.Goes}
use Rattle.pk_call.{specs.Sight.Sight, specs.Drive.HoldsMap}
use Rattle.pk_serve.{specs.Ends.Blames, specs.Run.KeepsScript as KeepsScriptOf, specs.Run.KeepsSome as KeepsSomeOf, specs.Run.Answers, specs.Run.Causes, specs.Complete.RunCompletes}
use Rattle.pk_serve.{specs.Script.SaysOfScript, specs.Serving.KeptAt, specs.declared.end.End.End}
use Rattle.pk_scan.{specs.Opening.NotOpened, specs.declared.errors.OpenError.OpenError}
use Rattle.pk_top.{specs.Ends.end_status, specs.Ends.open_status, specs.Serves.KeptFrom, specs.Serves.RunServes, specs.Serves.ServesAll, specs.Serves.behind_opening}
use Rattle.pk_top.{proofs.Opened.Kept-none, proofs.Opened.Goes-reading, proofs.Opened.Goes-behind, proofs.Completing.all_not, proofs.Completing.servable_behind, proofs.Completing.complete_before}
use Rattle.pk_top.{proofs.Isolating.isolates_end, proofs.Isolating.isolates_not}

-- ---- a drive that was not opened

-- nothing was served
kept-none : (shape : Shape) (frames : ℕ) (loaded new : BoardState) (cs : List Command) → KeptFrom shape frames loaded new cs loaded.pages []
kept-none shape frames loaded new cs start holds = Kept-none shape (terms_at shape loaded.pages frames) start cs loaded.read_faults new.read_faults loaded.pages holds refl

goes-none : (shape : Shape) (frames : ℕ) (loaded new : BoardState) (cs : List Command) → OnlyReading loaded new → Goes shape loaded new (KeptFrom shape frames loaded new cs)
goes-none shape frames loaded new cs only = Goes-reading shape loaded new (KeptFrom shape frames loaded new cs) only (kept-none shape frames loaded new cs)

pub RunServes-not : (shape : Shape) (frames : ℕ) (loaded new : BoardState) (status : ℕ) (error : OpenError) → status ≡ open_status error → NotOpened shape loaded new error → OnlyReading loaded new
    → RunServes shape frames loaded new status
RunServes-not shape frames loaded new status error tells reason only = record {
  kept = λ input told. goes-none shape frames loaded new (script input).0 only;
  kept_untold = ([], goes-none shape frames loaded new [] only);
  complete = all_not shape frames loaded new status error tells reason;
  isolated = isolates_not shape frames loaded new status error tells;
  outcome = inl (record { error = error; tells = tells; reason = reason; only_reads = only });
}

-- ---- a drive that was opened

-- what was done from this state of the board on, to the end
abbrev Ran : BoardState → BoardState → Sight → End → Type 0
Ran b new drive end =
    Blames b new end × SaysOfScript b new end × KeepsScriptOf b new drive × KeepsSomeOf b new drive × Answers b new drive end × Causes b new drive end × RunCompletes b new drive end

module _ (shape : Shape) (frames : ℕ) (loaded new : BoardState) (drive : Sight) (start : Map)
    (stands : HoldsMap shape (terms_at shape loaded.pages frames) (behind_opening shape frames loaded) drive start) (none : drive.pending ≡ []) where
  start-held : Holds shape loaded.pages start
  start-held = let T : List Entry → Type 0 = λ p. reading shape loaded.pages p ≡ Ok start in subst T none stands.map_is

  -- a flash holds one map
  kept-from : (cs : List Command) (flash : Flash) (posted : List ℕ)
      → KeptAt shape (terms_at shape loaded.pages frames) start cs (rise loaded.read_faults new.read_faults) flash posted → KeptFrom shape frames loaded new cs flash posted
  kept-from cs flash posted kept m holds =
      let held : Holds shape loaded.pages start = start-held in
      let same : start ≡ m = cc in
      let T : Map → Type 0 = λ s. KeptAt shape (terms_at shape loaded.pages frames) s cs (rise loaded.read_faults new.read_faults) flash posted in
      subst T same kept

  goes-from : (cs : List Command) → Goes shape (behind_opening shape frames loaded) new (KeptAt shape (terms_at shape loaded.pages frames) start cs (rise loaded.read_faults new.read_faults))
      → Goes shape loaded new (KeptFrom shape frames loaded new cs)
  goes-from cs goes = Goes-behind shape frames loaded new (KeptAt shape (terms_at shape loaded.pages frames) start cs (rise loaded.read_faults new.read_faults))
      (KeptFrom shape frames loaded new cs) (kept-from cs) goes

  all-opened : (status : ℕ) (end : End) → status ≡ end_status end → RunCompletes (behind_opening shape frames loaded) new drive end → ServesAll shape frames loaded new status
  all-opened status end tells complete m holds input told ok sound =
      let held : Holds shape loaded.pages start = start-held in
      let same : start ≡ m = cc in
      let done = complete shape (terms_at shape loaded.pages frames) start stands none input told (servable_behind shape frames loaded new (script input).0 (script input).1 ok) in
      inl (tells ∙ ap end_status done.0, complete_before shape frames loaded new (script input).0 start m same done.1)

  serves-to : (status : ℕ) (end : End) → status ≡ end_status end → Ran (behind_opening shape frames loaded) new drive end → RunServes shape frames loaded new status
  serves-to status end tells (blames, says, kept, kept_untold, served, causes, complete) =
      let some = kept_untold shape (terms_at shape loaded.pages frames) start stands none in
      record {
        kept = λ input told. goes-from (script input).0 (kept shape (terms_at shape loaded.pages frames) start stands none input told);
        kept_untold = (some.0, goes-from some.0 some.1);
        complete = all-opened status end tells complete;
        isolated = isolates_end shape frames loaded new start status end tells start-held (served shape (terms_at shape loaded.pages frames) start stands none);
        outcome = inr (
          end,
          tells,
          record {
            start = start;
            holds = start-held;
            blames = blames;
            says = says;
            served = served shape (terms_at shape loaded.pages frames) start stands none;
            served_some = causes shape (terms_at shape loaded.pages frames) start stands none;
          },
        );
      }

pub RunServes-opened : (shape : Shape) (frames : ℕ) (loaded opened_board new : BoardState) (drive : Sight) (status : ℕ) (end : End)
    → opened_board ≡ behind_opening shape frames loaded → ((m : Map) × HoldsMap shape (terms_at shape opened_board.pages frames) opened_board drive m) → drive.pending ≡ [] → status ≡ end_status end
    → Ran opened_board new drive end → RunServes shape frames loaded new status
RunServes-opened shape frames loaded opened_board new drive status end is stands none tells ran =
    let T : BoardState → Type 0 = λ b. (m : Map) × HoldsMap shape (terms_at shape b.pages frames) b drive m in
    let R : BoardState → Type 0 = λ b. Ran b new drive end in
    let at : T (behind_opening shape frames loaded) = subst T is stands in
    serves-to shape frames loaded new drive at.0 at.1 none status end tells (subst R is ran)
