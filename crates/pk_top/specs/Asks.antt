-- A run of a word that asks the drive: a session of one word.
use Rattle.std.specs.Prelude.{◌≡◌, ◌⊎◌, ℕ, ◌+◌, ◌<◌, ◌≤◌, List, Some, true}
use Rattle.pk_base.{specs.Shape.Shape, specs.Page.Flash, specs.Map.Map}
use Rattle.pk_nand.{specs.BoardState.BoardState, specs.Calls.Rose, specs.Calls.Loaded, specs.Resting.RestsFlash}
use Rattle.pk_model.{specs.Spaces.terms_at, specs.Growth.Goes, specs.Reading.Holds, specs.Wear.roots}
use Rattle.pk_call.specs.Meter.{meter}
use Rattle.pk_serve.specs.Complete.{NoneRose, far_below}
use Rattle.pk_wordrun.{specs.Tasks.Task, specs.Tasks.only_asks, specs.Tasks.KeptTask, specs.Told.EndsBy, specs.Told.WordDone, specs.Told.KeepsInput, specs.Told.most_roots}
use Rattle.pk_wordrun.specs.declared.end.WordEnd.{WordEnd}
use Rattle.pk_wordrun.specs.declared.end.WordEnd.TheVariants.{Done, Output, Flash as FlashFailed, Worn}
use Rattle.pk_top.specs.declared.status.TheConstants.Status.{DONE, OUTPUT, FLASH, MEMORY, WORN}
use Rattle.pk_top.{specs.declared.asking.TheConstants.WORD_FRAMES, specs.Loads.NoImage, specs.Loads.WordRun, specs.Serves.NotServed, specs.Serves.behind_opening, specs.Statuses.Untouched}

abbrev pub word_status : WordEnd → ℕ
word_status Done = DONE.0
word_status Output = OUTPUT.0
word_status FlashFailed = FLASH.0
word_status Worn = WORN.0

-- The headline: whatever map the flash held at first, every cut holds the map after a prefix of the word's commands; if a byte was posted, the map
-- after all of them, and what was posted begins the text that is said of both maps. From each state of the trail to the next the tree grows.
abbrev pub KeepsTask : Task → Shape → BoardState → BoardState → Type 0
KeepsTask task shape loaded new =
    Goes shape loaded new (λ flash posted. (start : Map) → Holds shape loaded.pages start
    → KeptTask task (meter (behind_opening shape WORD_FRAMES loaded)) (meter new) shape (terms_at shape loaded.pages WORD_FRAMES) start flash posted)

-- The drive was opened, and this is the end of the word.
pub record AskedTo (task : Task) (shape : Shape) (loaded new : BoardState) (end : WordEnd) : Type 0 where
  pub start : Map
  pub holds : Holds shape loaded.pages start
  pub ends : EndsBy task shape (terms_at shape loaded.pages WORD_FRAMES) start (behind_opening shape WORD_FRAMES loaded) new end
  pub used : end ≡ Worn → roots new ≤ roots loaded + most_roots task

-- What was done on an image of this shape, from its load on. A word that only asks leaves each page, and none of these words reads the input.
pub record Asks (task : Task) (shape : Shape) (loaded new : BoardState) (status : ℕ) : Type 0 where
  pub kept : KeepsTask task shape loaded new
  pub input : KeepsInput loaded new
  pub rests : only_asks task ≡ true → RestsFlash loaded new
  pub outcome : NotServed shape loaded new status ⊎ ((end : WordEnd) × (status ≡ word_status end) × AskedTo task shape loaded new end)

-- an image of this shape was found
pub record AsksFound (task : Task) (old new : BoardState) (status : ℕ) : Type 0 where
  pub shape : Shape
  pub loaded : BoardState
  pub found : Loaded old loaded (Some shape)
  pub asks : Asks task shape loaded new status

-- It needs an image, and asks its drive.
abbrev pub AskRun : Task → BoardState → BoardState → ℕ → Type 0
AskRun task old new status = WordRun (NoImage old new status) (AsksFound task old new status) old new status

-- ---- completeness

-- On a drive that is far from worn, if no call fails: the word is done, and its text says that no read failed; or memory was missing, and nothing
-- was done.
abbrev pub AsksAll : Task → Shape → BoardState → BoardState → ℕ → Type 0
AsksAll task shape loaded new status =
    (start : Map) → Holds shape loaded.pages start → roots loaded < far_below → NoneRose loaded new → (Rose loaded.flash_faults new.flash_faults → ⊥)
    → ((status ≡ DONE.0) × WordDone task shape (terms_at shape loaded.pages WORD_FRAMES) start (behind_opening shape WORD_FRAMES loaded) new) ⊎ ((status ≡ MEMORY.0) × Untouched loaded new)

-- the same of a board that holds its pages from the start
abbrev pub AsksWhole : Task → BoardState → BoardState → ℕ → Type 0
AsksWhole task old new status = (shape : Shape) → old.shape ≡ Some shape → AsksAll task shape old new status
