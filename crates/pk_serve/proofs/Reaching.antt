-- What a crash within a command that did not stop the drive finds.
use Rattle.std.proofs.Common.{◌≡◌, ◌⊎◌, inl, inr, ℕ, List, sym, ◌∙◌, ap, Ok}
use Rattle.pk_base.{specs.Shape.Shape, specs.Page.Flash, specs.Map.Map}
use Rattle.pk_nvme.{specs.Command.Command, specs.Reply.Reply}
use Rattle.pk_nand.specs.BoardState.{BoardState}
use Rattle.pk_model.{specs.Answer.map_after, specs.Run.Step, specs.Spaces.Terms, specs.Crashes.CrashFinds, specs.Crashes.change, specs.Crashes.command}
use Rattle.pk_call.{specs.Sight.Sight, specs.Drive.HoldsMap, specs.Call.CallReaches, specs.Exec.ExecStands}
use Rattle.pk_serve.{proofs.Limiting.limits_on, proofs.Limiting.limits_held, proofs.Weakening.reaches_as}

module _ (a b : BoardState) (d e : Sight) (c : Command) (r : Reply) (reads : ℕ) (stands : ExecStands a b d e c r reads) where
  module _ (shape : Shape) (terms : Terms) (m : Map) (s : HoldsMap shape terms a d m) where
    -- the map is unchanged, or it is the one after the command
    left_is : (left : Map) → Step shape terms m c r left → (left ≡ m) ⊎ (left ≡ map_after shape (limits_on a) m c)
    left_is left (inl x) = inr (x.leaves ∙ ap (λ (limits : List ℕ). map_after shape limits m c) (sym (limits_held shape terms a d m s)))
    left_is left (inr x) = inl x.leaves

    command_cut : (left : Map) → (left ≡ m) ⊎ (left ≡ map_after shape (limits_on a) m c)
        → (f : Flash) (q : List ℕ) → CrashFinds shape (change left) a.pages m f q → CrashFinds shape (command (limits_on a) c) a.pages m f q
    command_cut left from f q (quiet, inl same) = (quiet, inl same)
    command_cut left from f q (quiet, inr (inl all)) = (quiet, inr (inl all))
    command_cut left (inl kept) f q (quiet, inr (inr next)) = (quiet, inr (inl (next ∙ ap (λ x. Ok x) kept)))
    command_cut left (inr done) f q (quiet, inr (inr next)) = (quiet, inr (inr (next ∙ ap (λ x. Ok x) done)))

  -- the map before the command, or the one after it
  pub reaches_stands : CallReaches a b d (command (limits_on a) c)
  reaches_stands shape terms m s =
      let x = stands shape terms m s in
      reaches_as shape a b (command_cut shape terms m s x.left (left_is shape terms m s x.left x.stepped)) x.reached
