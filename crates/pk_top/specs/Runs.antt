-- What the program promises of a run, between the states of a board before and after it.
use Rattle.std.specs.Prelude.{◌≡◌, ◌≢◌, ◌⊎◌, ℕ, List, Option, Some, None}
use Rattle.pk_base.specs.Shape.{Shape}
use Rattle.pk_nand.specs.BoardState.{BoardState}
use Rattle.pk_text.{specs.Assembled.assembled, specs.Records.shown}
use Rattle.pk_wordrun.specs.Tasks.{Task}
use Rattle.pk_top.{specs.declared.status.TheConstants.Status.DONE, specs.declared.status.TheConstants.Status.WORDS, specs.declared.status.TheConstants.Status.MEMORY, specs.Isolates.IsolatesWhole}
use Rattle.pk_top.{specs.Words.Word, specs.Words.make, specs.Words.serve, specs.Words.ask, specs.Words.assemble, specs.Words.show, specs.Words.word_of, specs.Statuses.Tells, specs.Statuses.Untouched}
use Rattle.pk_top.{specs.Makes.MakeRun, specs.Makes.IsMade, specs.Serves.ServeRun, specs.Serves.ServesWhole, specs.Asks.AskRun, specs.Asks.AsksWhole, specs.TextRuns.TextRun, specs.Resting.Rests}

-- A run of these words took the board from the one state to the other, and ended with this status.
pub record RunsOver (asked : List (List ℕ)) (old new : BoardState) (status : ℕ) : Type 0 where
  -- the words, the status and its cause
  pub words : status ≡ WORDS.0 → (word_of asked ≡ None) × (new ≡ old)
  pub no_words : word_of asked ≡ None → (new ≡ old) × ((status ≡ WORDS.0) ⊎ (status ≡ MEMORY.0))
  pub tells : (status ≡ WORDS.0) ⊎ Tells old new status
  pub memory : ((shape : Shape) (limits : List ℕ) → word_of asked ≢ Some (make shape limits)) → status ≡ MEMORY.0 → Untouched old new
  -- the words that touch the flash
  pub makes : (shape : Shape) (limits : List ℕ) → word_of asked ≡ Some (make shape limits) → MakeRun shape limits old new status
  pub made : (shape : Shape) (limits : List ℕ) → word_of asked ≡ Some (make shape limits) → status ≡ DONE.0 → IsMade shape limits new
  pub serves : (frames : ℕ) → word_of asked ≡ Some (serve frames) → ServeRun frames old new status
  pub serves_whole : (frames : ℕ) → word_of asked ≡ Some (serve frames) → ServesWhole frames old new status
  pub asks : (task : Task) → word_of asked ≡ Some (ask task) → AskRun task old new status
  pub asks_whole : (task : Task) → word_of asked ≡ Some (ask task) → AsksWhole task old new status
  -- each namespace is answered as a drive answers that has it alone
  pub isolated : (frames : ℕ) → word_of asked ≡ Some (serve frames) → IsolatesWhole frames old new status
  -- the words that touch no flash, and what any word leaves of it
  pub assembles : word_of asked ≡ Some assemble → TextRun assembled old new status
  pub shows : word_of asked ≡ Some show → TextRun shown old new status
  pub rests : Rests (word_of asked) old new
