-- An image beside its log, and what both files hold together.
use Rattle.std.specs.Prelude.{◌≡◌, ℕ, ◌+◌, ◌<◌, ◌≤◌, List, [], ◌∷◌, ◌++◌, length, take, slice_index}
use Rattle.sqlite_disk.specs.declared.Disk.{Ghosts}
use Rattle.pk_image.specs.declared.head.TheConstants.{HEADER_BYTES}
use Rattle.pk_image.{specs.Header.file_size, specs.Image.state_place, specs.Image.page_place, specs.Image.page_in_file, specs.Image.state_byte, specs.Image.flash_in_file}
use Rattle.pk_base.{specs.Shape.Shape, specs.Shape.page_count, specs.Page.Flash, specs.Mark.Mark, specs.Mark.after_all, specs.Mark.all_posted}
use Rattle.pk_nand.specs.Cut.{Cut}
use Rattle.pk_redo.specs.Log.{LogHolds, AtEachCrash, AllReady, AllStand}
use Rattle.pk_redo.specs.Steps.{BodiesSay, Sets}
use Rattle.pk_redo.specs.Record.{RecordFits}

-- ---- an image

-- A file that differs from another at most in pages that the steps set: they may hold anything there.
pub record SameButSet (shape : Shape) (marks : List Mark) (base file : List ℕ) : Type 0 where
  pub fits : file_size shape ≤ length base
  pub same_size : length file ≡ length base
  pub header : (i : ℕ) → i < HEADER_BYTES → slice_index file i ≡ slice_index base i
  pub states : (k : ℕ) → k < page_count shape → ¬ Sets shape marks k → slice_index file (state_place k) ≡ slice_index base (state_place k)
  pub bytes : (k i : ℕ) → k < page_count shape → ¬ Sets shape marks k → i < shape.page_bytes
      → slice_index file (page_place shape k + i) ≡ slice_index base (page_place shape k + i)

abbrev pub AllSameBut : {D : Type 0} → Ghosts D → D → Shape → List Mark → List ℕ → Type 0
AllSameBut g image shape marks base = AtEachCrash g image (λ c. SameButSet shape marks base c)

-- Each extent says of a page how many bytes at its place may differ from zero: zeros follow them.
abbrev pub ZerosAfterExtents : Shape → List ℕ → List ℕ → Type 0
ZerosAfterExtents shape extents file =
    (k i : ℕ) → k < page_count shape → slice_index extents k ≤ i → i < shape.page_bytes → slice_index file (page_place shape k + i) ≡ 0

-- the state of a page of an image
abbrev pub state_of_page : Shape → List ℕ → ℕ → ℕ
state_of_page shape image k = state_byte (page_in_file shape image k)

-- ---- what the batches of a log say to an image

-- the first batch is the record, and the others are steps
abbrev pub BatchesSay : Shape → List (List ℕ) → List Mark → Type 0
BatchesSay shape [] marks = marks ≡ []
BatchesSay shape (first ∷ later) marks = BodiesSay shape later marks

-- the record is of this image, but for pages that the steps set
abbrev pub BelongTo : Shape → List (List ℕ) → List Mark → List ℕ → Type 0
BelongTo shape [] marks image = Unit {0}
BelongTo shape (first ∷ later) marks image = RecordFits shape first (take HEADER_BYTES image) (state_of_page shape image) marks

-- A reader of the log and the image finds these pages, and that the log is of this image.
pub record ReadAs (shape : Shape) (log image : List ℕ) (flash : Flash) : Type 0 where
  pub batches : List (List ℕ)
  pub stands : LogHolds log batches
  pub marks : List Mark
  pub says : BatchesSay shape batches marks
  pub belongs : BelongTo shape batches marks image
  pub gives : after_all shape marks (flash_in_file shape image) ≡ flash

-- the pages after steps on those of an image
abbrev pub flash_after : Shape → List Mark → List ℕ → Flash
flash_after shape marks base = after_all shape marks (flash_in_file shape base)

-- ---- both files

-- Whatever a crash leaves of the log, it has the record of an image and these steps, which end at a place, and is ready for more up to
-- another.
pub record LogSays {D : Type 0} (g : Ghosts D) (log : D) (shape : Shape) (base : List ℕ) (marks : List Mark) (end room : ℕ) : Type 0 where
  pub first : List ℕ
  pub later : List (List ℕ)
  pub ready : AllReady g log (first ∷ later) end room
  pub says : BodiesSay shape later marks
  pub of_base : BelongTo shape (first ∷ later) [] base

-- Whatever a crash leaves of the log, it has the record of an image and these steps, or no step and no record.
pub record LogStands {D : Type 0} (g : Ghosts D) (log : D) (shape : Shape) (base : List ℕ) (marks : List Mark) : Type 0 where
  pub batches : List (List ℕ)
  pub stands : AllStand g log batches
  pub says : BatchesSay shape batches marks
  pub of_base : BelongTo shape batches marks base

-- whatever a crash leaves of both files, they are read as these pages
abbrev pub BothRead : {D : Type 0} → Ghosts D → D → D → Shape → Flash → Type 0
BothRead g log image shape flash = (l i : List ℕ) → g.may_leave log l → g.may_leave image i → ReadAs shape l i flash

-- ---- laws

-- Replaying steps gives the same whatever the pages hold that they set.
abbrev pub ReplayIsAbsolute : Type 0
ReplayIsAbsolute =
    (shape : Shape) (log base image : List ℕ) (batches : List (List ℕ)) (marks : List Mark) → LogHolds log batches → BatchesSay shape batches marks → BelongTo shape batches marks base
    → SameButSet shape marks base image → ReadAs shape log image (flash_after shape marks base)

-- The pages after the first marks of a trail are a cut of it, with no mark interrupted.
abbrev pub EachPrefixIsACut : Type 0
EachPrefixIsACut = (shape : Shape) (start : Flash) (done later : List Mark) → Cut shape start (done ++ later) (after_all shape done start) (all_posted done)
