-- Which runs do not change the flash.
use Rattle.std.proofs.Common.{◌≡◌, inl, inr, ℕ, List, Option, Some, None, IsSome, sym, ◌∙◌, ap, true, false}
use Rattle.pk_base.specs.Shape.{Shape}
use Rattle.pk_nand.{specs.BoardState.BoardState, specs.Calls.Loaded, specs.Calls.LoadFailed, specs.Resting.RestsFlash, proofs.Resting.Rests-same, proofs.Resting.Rests-start, proofs.Resting.Rests-then}
use Rattle.pk_text.specs.Written.{Written}
use Rattle.pk_wordrun.specs.Tasks.{Task, only_asks}
use Rattle.pk_top.{specs.Loads.no_memory, specs.Loads.not_loaded, specs.Loads.no_image, specs.Loads.has_image, specs.Asks.AskRun, specs.Makes.MakeRun, specs.TextRuns.TextRun}
use Rattle.pk_top.{specs.Resting.RestsIn, specs.Resting.Rests, specs.Words.Word, specs.Words.make, specs.Words.serve, specs.Words.ask}

-- nothing was done
pub rests-same_word : (word : Word) (old new : BoardState) → new ≡ old → RestsIn word old new
rests-same_word (make shape limits) old new same = λ some. Rests-same old new same
rests-same_word (serve frames) old new same = tt
rests-same_word (ask task) old new same = λ only some. Rests-same old new same
rests-same_word word old new same = Rests-same old new same

pub rests-same : (word : Option Word) (old new : BoardState) → new ≡ old → Rests word old new
rests-same None old new same = Rests-same old new same
rests-same (Some word) old new same = rests-same_word word old new same

-- a text was turned
pub rests-text : (turn : List ℕ → Written) (old new : BoardState) (status : ℕ) → TextRun turn old new status → RestsFlash old new
rests-text turn old new status (inl none) = Rests-same old new none.1
rests-text turn old new status (inr turned) = turned.2.touched.rests

-- a load was made of a board that holds its pages
pub rests-loaded : (old new : BoardState) (found : Option Shape) → IsSome old.shape → Loaded old new found → RestsFlash old new
rests-loaded old new found some l =
    let held = l.held some in
    Rests-start old new held.1 held.0 (ap (λ s. s.trail) l.rest) (ap (λ s. s.posted) l.rest)

pub rests-refused : (old new : BoardState) → IsSome old.shape → LoadFailed old new → RestsFlash old new
rests-refused old new some l =
    let held = l.held some in
    Rests-start old new held.1 held.0 (ap (λ s. s.trail) l.rest) (ap (λ s. s.posted) l.rest)

-- a word only asked
pub rests-ask : (task : Task) (old new : BoardState) (status : ℕ) → AskRun task old new status → only_asks task ≡ true → IsSome old.shape → RestsFlash old new
rests-ask task old new status (no_memory is same) only some = Rests-same old new same
rests-ask task old new status (not_loaded refused) only some = rests-refused old new some refused.failed
rests-ask task old new status (no_image missing) only some = rests-loaded old new None some missing.found
rests-ask task old new status (has_image run) only some =
    Rests-then old run.loaded new (run.found.held some).0 (rests-loaded old run.loaded (Some run.shape) some run.found) (run.asks.rests only)

-- an image is there
pub rests-make : (shape : Shape) (limits : List ℕ) (old new : BoardState) (status : ℕ) → MakeRun shape limits old new status → IsSome old.shape → RestsFlash old new
rests-make shape limits old new status (no_memory is same) some = Rests-same old new same
rests-make shape limits old new status (not_loaded refused) some = rests-refused old new some refused.failed
rests-make shape limits old new status (has_image there) some = rests-loaded old new (Some there.shape) some there.found
rests-make shape limits old new status (no_image run) some =
    let none : old.shape ≡ None = sym (run.none.held some).1 ∙ run.none.shape_is in
    absurd (let never : false ≡ true = rw none at some in cc)
