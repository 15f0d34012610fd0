-- An image and its log as they are open: the pages that a crash keeps, and those of the board.
use Rattle.std.specs.Prelude.{◌≡◌, ◌⊎◌, ℕ, Bool, true, false, ◌+◌, ◌<◌, ◌≤◌, List, [], ◌++◌, length, take, get_or}
use Rattle.sqlite_disk.specs.declared.Disk.{Ghosts}
use Rattle.sqlite_disk.specs.Disk.{Only}
use Rattle.pk_image.specs.declared.head.TheConstants.{HEADER_BYTES}
use Rattle.pk_image.{specs.Header.header_bytes, specs.Header.file_size, specs.Image.page_in_file, specs.Image.flash_in_file}
use Rattle.pk_base.{specs.Shape.Shape, specs.Shape.page_count, specs.Page.Flash, specs.Page.page_at, specs.Mark.Mark, specs.Mark.after_all}
use Rattle.pk_redo.specs.declared.batch.TheConstants.{BATCH_HEAD}
use Rattle.pk_redo.specs.declared.step.TheConstants.{STEP_BYTES}
use Rattle.pk_redo.specs.declared.redo_log.LogState.TheVariants.{Ready, Ended}
use Rattle.pk_redo.specs.declared.redo_log.RedoLog.{RedoLog}
use Rattle.pk_redo.specs.Log.{LogHolds, AtEachCrash}
use Rattle.pk_redo.specs.declared.replay.Replay.{Replay}
use Rattle.pk_redo.specs.Steps.{AreSteps, Sets, step_marks}
use Rattle.pk_redo.specs.Image.{AllSameBut, LogSays, LogStands, ReadAs, BatchesSay, BelongTo, ZerosAfterExtents, flash_after}

-- the steps that were read of a log
abbrev pub replay_marks : Shape → Replay → List Mark
replay_marks shape replay = step_marks shape replay.bytes.items replay.steps.items

-- ---- what both files hold

-- Whatever a crash leaves of them, the log has these steps, which are done to this image; and the image has other bytes at most in pages
-- that they set.
pub record FilesSay {D : Type 0} (g : Ghosts D) (redo : RedoLog D g) (base : List ℕ) (marks : List Mark) : Type 0 where
  pub stands : LogStands g redo.log redo.shape base marks
  pub ready : redo.state ≡ Ready → LogSays g redo.log redo.shape base marks redo.end redo.room
  pub within : AllSameBut g redo.image redo.shape marks base
  pub header : take HEADER_BYTES base ≡ header_bytes redo.shape

-- the batch in memory has these steps
abbrev pub BatchSays : {D : Type 0} → {g : Ghosts D} → RedoLog D g → List Mark → Type 0
BatchSays redo marks = AreSteps redo.shape redo.batch.bytes.items BATCH_HEAD marks redo.batch.filled

-- whether the image may lack a page
abbrev pub is_lacking : {D : Type 0} → {g : Ghosts D} → RedoLog D g → ℕ → Bool
is_lacking redo k = get_or redo.lacks.items k false

-- Whatever a crash leaves of both files is read as the pages `kept`; and with the batch in memory the pages are `now`.
pub record KeepsPages {D : Type 0} (g : Ghosts D) (redo : RedoLog D g) (kept now : Flash) : Type 0 where
  pub base : List ℕ
  pub marks : List Mark
  pub later : List Mark
  pub files : FilesSay g redo base marks
  pub batch : BatchSays redo later
  pub is_kept : flash_after redo.shape marks base ≡ kept
  pub is_now : after_all redo.shape later kept ≡ now
  pub lacking : (k : ℕ) → is_lacking redo k ≡ true → Sets redo.shape (marks ++ later) k
  pub others : (k : ℕ) → k < page_count redo.shape → is_lacking redo k ≡ false → page_in_file redo.shape (g.seen redo.image) k ≡ page_at now k
  pub zeros : ZerosAfterExtents redo.shape redo.extents.items (g.seen redo.image)

-- whatever a crash leaves of both files, it is read as one of these two
abbrev pub EitherRead : {D : Type 0} → (g : Ghosts D) → RedoLog D g → Flash → Flash → Type 0
EitherRead g redo kept now = (l i : List ℕ) → g.may_leave redo.log l → g.may_leave redo.image i → ReadAs redo.shape l i kept ⊎ ReadAs redo.shape l i now

-- after a call, whatever it answered: the same pages are kept as before it, or all of them, or nothing more is written
abbrev pub StillKeeps : {D : Type 0} → (g : Ghosts D) → RedoLog D g → Flash → Flash → Type 0
StillKeeps g redo kept now = KeepsPages g redo kept now ⊎ (KeepsPages g redo now now ⊎ ((redo.state ≡ Ended) × EitherRead g redo kept now))

-- both files, the image alone: a crash leaves a log without a batch, and an image that has these pages
pub record ImageAlone {D : Type 0} (g : Ghosts D) (redo : RedoLog D g) (flash : Flash) : Type 0 where
  pub no_batch : AtEachCrash g redo.log (λ l. LogHolds l [])
  pub one_image : Only (g.seen redo.image) (g.may_leave redo.image)
  pub pages : flash_in_file redo.shape (g.seen redo.image) ≡ flash

-- ---- opening

-- The steps that were read of a log are those that a reader of both files does, and the pages are these after them.
pub record ReplayedTo (shape : Shape) (log image : List ℕ) (replay : Replay) (kept : Flash) : Type 0 where
  pub batches : List (List ℕ)
  pub stands : LogHolds log batches
  pub says : BatchesSay shape batches (replay_marks shape replay)
  pub belongs : BelongTo shape batches (replay_marks shape replay) image
  pub header : take HEADER_BYTES image ≡ header_bytes shape
  pub fits : file_size shape ≤ length image
  pub gives : flash_after shape (replay_marks shape replay) image ≡ kept

-- ---- room

-- there is room in the batch and in the log for a step whose front has this length
pub record HasRoomForStep {D : Type 0} {g : Ghosts D} (redo : RedoLog D g) (len : ℕ) : Type 0 where
  pub ready : redo.state ≡ Ready
  pub in_batch : redo.batch.filled + (STEP_BYTES + len) ≤ length redo.batch.bytes.items
  pub in_log : redo.end + redo.batch.filled + (STEP_BYTES + len) < redo.room
