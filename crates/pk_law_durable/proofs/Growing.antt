-- The trail of a board grows during a run of the program.
use Rattle.std.proofs.Common.{◌≡◌, ◌∙◌, List, [], Option, Some, None, IsSome, refl, sym, ap, ℕ}
use Rattle.pk_base.{specs.Mark.Mark}
use Rattle.pk_nand.{specs.BoardState.BoardState, specs.Calls.longer, specs.Resting.RestsFlash, proofs.Reaching.longer-nil}
use Rattle.pk_wordrun.specs.Tasks.{Task}
use Rattle.pk_top.{specs.Loads.no_memory, specs.Loads.not_loaded, specs.Loads.no_image, specs.Loads.has_image, specs.Serves.ServeRun, specs.Asks.AskRun}
use Rattle.pk_top.{specs.Runs.RunsOver, specs.Resting.Rests}
use Rattle.pk_top.specs.Words.{Word, make, serve, ask, assemble, show, word_of}

-- by some marks, and the shape is the same
abbrev pub Grew : BoardState → BoardState → Type 0
Grew old new = (marks : List Mark) × (new.trail ≡ longer old.trail marks) × (new.shape ≡ old.shape)

same_trail : (old new : BoardState) → new.trail ≡ old.trail → new.shape ≡ old.shape → Grew old new
same_trail old new same same_shape = ([], same ∙ sym (longer-nil old.trail), same_shape)

same_board : (old new : BoardState) → new ≡ old → Grew old new
same_board old new same = same_trail old new (ap (λ (b : BoardState). b.trail) same) (ap (λ (b : BoardState). b.shape) same)

rested : (old new : BoardState) → RestsFlash old new → Grew old new
rested old new r = (r.marks, r.reached.trail, r.reached.same_shape)

-- from a board with the same trail and shape
since : (old loaded new : BoardState) → loaded.trail ≡ old.trail → loaded.shape ≡ old.shape → (marks : List Mark) → new.trail ≡ longer loaded.trail marks → new.shape ≡ loaded.shape
    → Grew old new
since old loaded new same shape marks grew same_shape = (marks, grew ∙ ap (λ (t : Option (List Mark)). longer t marks) same, same_shape ∙ shape)

serve_grew : (frames : ℕ) (old new : BoardState) (status : ℕ) → IsSome old.shape → ServeRun frames old new status → Grew old new
serve_grew frames old new status some run = elim run [
  | no_memory tells same ↦ same_board old new same
  | not_loaded refused ↦ same_trail old new (ap (λ (b : BoardState). b.trail) refused.failed.rest) (refused.failed.held some).1
  | no_image missing ↦ same_trail old new (ap (λ (b : BoardState). b.trail) missing.found.rest) (missing.found.held some).1
  | has_image found ↦
      let kept = found.serves.kept_untold.1 in
      since old found.loaded new (ap (λ (b : BoardState). b.trail) found.found.rest) (found.found.held some).1 kept.0 kept.1.trail kept.1.same_shape
]

ask_grew : (task : Task) (old new : BoardState) (status : ℕ) → IsSome old.shape → AskRun task old new status → Grew old new
ask_grew task old new status some run = elim run [
  | no_memory tells same ↦ same_board old new same
  | not_loaded refused ↦ same_trail old new (ap (λ (b : BoardState). b.trail) refused.failed.rest) (refused.failed.held some).1
  | no_image missing ↦ same_trail old new (ap (λ (b : BoardState). b.trail) missing.found.rest) (missing.found.held some).1
  | has_image found ↦
      let kept = found.asks.kept in
      since old found.loaded new (ap (λ (b : BoardState). b.trail) found.found.rest) (found.found.held some).1 kept.0 kept.1.trail kept.1.same_shape
]

module _ (asked : List (List ℕ)) (old new : BoardState) (status : ℕ) (runs : RunsOver asked old new status) (some : IsSome old.shape) where
  by_word : (word : Option Word) → word_of asked ≡ word → Rests word old new → Grew old new
  by_word None is rests = rested old new rests
  by_word (Some (make shape limits)) is rests = rested old new (rests some)
  by_word (Some (serve frames)) is rests = serve_grew frames old new status some (runs.serves frames is)
  by_word (Some (ask task)) is rests = ask_grew task old new status some (runs.asks task is)
  by_word (Some assemble) is rests = rested old new rests
  by_word (Some show) is rests = rested old new rests

  -- whatever the words
  pub run_grew : Grew old new
  run_grew = by_word (word_of asked) refl runs.rests
