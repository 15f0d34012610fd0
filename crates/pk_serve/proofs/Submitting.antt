-- One command on a drive with nothing pending.
use Rattle.std.proofs.Common.{◌≡◌, inl, inr, ℕ, List, [], ◌++◌, refl, ◌∙◌, ap, Ok}
use Rattle.pk_base.{specs.Shape.Shape, specs.Page.Flash, specs.Mark.all_posted, specs.Map.Map}
use Rattle.pk_nvme.{specs.Command.Command, specs.Reply.Reply}
use Rattle.pk_nand.specs.BoardState.{BoardState}
use Rattle.pk_model.{specs.Answer.map_after, specs.Run.Step, specs.Reading.Holds, specs.Growth.Reaches, specs.Crashes.CrashFinds, specs.Crashes.commit, specs.Crashes.command}
use Rattle.pk_model.{proofs.Growing.at_end, proofs.Growing.Reaches-then, proofs.Growing.Goes-then, specs.Crashes.change, specs.Spaces.Terms}
use Rattle.pk_call.{specs.Sight.Sight, specs.Drive.HoldsMap, specs.Call.KeepsMap, specs.Call.CallReaches, specs.Call.CallGoes, specs.Exec.ExecStands}
use Rattle.pk_serve.{specs.Port.HoldsEither, specs.Port.StepCut, specs.Port.Submits, specs.Port.SubmitStops}
use Rattle.pk_serve.{proofs.Limiting.limits_on, proofs.Limiting.limits_held, proofs.Weakening.reaches_as, proofs.Weakening.goes_as}

module _ (a b : BoardState) (d : Sight) (c : Command) (shape : Shape) (terms : Terms) (m : Map) (s : HoldsMap shape terms a d m) (none : d.pending ≡ []) where
  held : Holds shape a.pages m
  held = rw none at s.map_is

  -- cuts of the command
  exec_step : (f : Flash) (q : List ℕ) → CrashFinds shape (command (limits_on a) c) a.pages m f q → StepCut shape terms.limits m c f q
  exec_step f q (quiet, inl same) = (quiet, inl (same ∙ held))
  exec_step f q (quiet, inr (inl all)) = (quiet, inl all)
  exec_step f q (quiet, inr (inr next)) = (quiet, inr (next ∙ ap (λ (limits : List ℕ). Ok (map_after shape limits m c)) (limits_held shape terms a d m s)))

  -- cuts of a command that was answered
  answered_step : (left : Map) (f : Flash) (q : List ℕ) → CrashFinds shape (change left) a.pages m f q → HoldsEither shape m left f q
  answered_step left f q cut = (cut.0, elim cut.1 [ inl same ↦ inl (same ∙ held) | inr more ↦ elim more [ inl all ↦ inl all | inr next ↦ inr next ] ])

  -- cuts of the commit after it
  commit_step : (left : Map) → HoldsEither shape m left b.pages [] → (f : Flash) (q : List ℕ) → CrashFinds shape commit b.pages left f q → HoldsEither shape m left f q
  commit_step left (_, inl x) f q (quiet, inl same) = (quiet, inl (same ∙ x))
  commit_step left (_, inr x) f q (quiet, inl same) = (quiet, inr (same ∙ x))
  commit_step left here f q (quiet, inr all) = (quiet, inr all)

-- the map that a reply says is the one before the command or the one after it
pub either_step : (shape : Shape) (terms : Terms) (m : Map) (c : Command) (r : Reply) (left : Map) → Step shape terms m c r left
    → (f : Flash) (q : List ℕ) → HoldsEither shape m left f q → StepCut shape terms.limits m c f q
either_step shape terms m c r left step f q (quiet, inl before) = (quiet, inl before)
either_step shape terms m c r left (inl x) f q (quiet, inr now) = (quiet, inr (now ∙ ap (λ y. Ok y) x.leaves))
either_step shape terms m c r left (inr x) f q (quiet, inr now) = (quiet, inl (now ∙ ap (λ y. Ok y) x.leaves))

pub stops_exec : (a b : BoardState) (d : Sight) (c : Command) → CallGoes a b d (command (limits_on a) c) → SubmitStops a b d c
stops_exec a b d c went shape terms m s none = goes_as shape a b (exec_step a b d c shape terms m s none) (went shape terms m s)

module _ (a b f : BoardState) (d e : Sight) (c : Command) (r : Reply) (reads : ℕ) (stands : ExecStands a b d e c r reads) where
  module _ (shape : Shape) (terms : Terms) (m : Map) (s : HoldsMap shape terms a d m) (none : d.pending ≡ []) where
    abbrev left : Map
    left = (stands shape terms m s).left

    first : Reaches shape a b (HoldsEither shape m left)
    first = reaches_as shape a b (answered_step a b d c shape terms m s none left) (stands shape terms m s).reached

    quiet : all_posted first.0 ≡ []
    quiet = (at_end first.0 a b (HoldsEither shape m left) first.1).0

    second : (g : Flash) (q : List ℕ) → CrashFinds shape commit b.pages left g q → HoldsEither shape m left g (all_posted first.0 ++ q)
    second g q h =
        let here : HoldsEither shape m left b.pages [] = (refl, (at_end first.0 a b (HoldsEither shape m left) first.1).1) in
        let now = commit_step a b d c shape terms m s none left here g q h in (ap (λ t. t ++ q) quiet ∙ now.0, now.1)

  pub submits_both : (h : Sight) → CallReaches b f e commit → KeepsMap b f e h → h.pending ≡ [] → Submits a f d h c r reads
  submits_both h more after done shape terms m s none =
      let x = stands shape terms m s in
      let w = more shape terms x.left x.stands in
      let y = after shape terms x.left x.stands in
      let g = first shape terms m s none in
      record {
        left = x.left;
        stepped = x.stepped;
        bounded = x.bounded;
        held_bounded = x.held_bounded;
        stands = y;
        holds = rw done at y.map_is;
        reached = Reaches-then shape g.0 a b (HoldsEither shape m x.left) s.shape_is g.1 g.2 f (CrashFinds shape commit b.pages x.left) (second shape terms m s none) w;
      }

  pub stops_commit : CallGoes b f e commit → SubmitStops a f d c
  stops_commit more shape terms m s none =
      let x = stands shape terms m s in
      let w = more shape terms x.left x.stands in
      let g = first shape terms m s none in
      goes_as shape a f (either_step shape terms m c r x.left x.stepped)
      (Goes-then shape g.0 a b (HoldsEither shape m x.left) s.shape_is g.1 g.2 f (CrashFinds shape commit b.pages x.left) (second shape terms m s none) w)
