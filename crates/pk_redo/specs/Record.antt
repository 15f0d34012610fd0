-- The record with which a log begins: the image that it belongs to, by its header and the states of its pages.
use Rattle.std.specs.Prelude.{◌≡◌, ℕ, ◌+◌, ◌/◌, ◌%◌, ◌^◌, ◌<◌, List, [], ◌∷◌, length, take, slice_index}
use Rattle.pk_image.specs.declared.head.TheConstants.{HEADER_BYTES}
use Rattle.pk_image.{specs.Image.page_by, specs.Image.state_byte}
use Rattle.pk_base.{specs.Shape.Shape, specs.Shape.page_count, specs.Mark.Mark}
use Rattle.pk_redo.specs.Steps.{Sets}

-- the bytes of a record: the header of the image, and two bits for the state of each page
abbrev pub record_size : Shape → ℕ
record_size shape = HEADER_BYTES + page_count shape / 4

-- the state of a page in a table from a place on: four in a byte, that of the first page in the lowest bits
unfoldable pub state_in : List ℕ → ℕ → ℕ → ℕ
state_in bytes at k = slice_index bytes (at + k / 4) / 4 ^ (k % 4) % 4

-- the state that a byte says: one that no state has counts as that of a Torn page
abbrev pub said : ℕ → ℕ
said byte = state_byte (page_by byte [])

-- The record is of an image with this header and pages of these states, but for pages that steps set: there the image may have any.
pub record RecordFits (shape : Shape) (bytes header : List ℕ) (states : ℕ → ℕ) (marks : List Mark) : Type 0 where
  pub size : length bytes ≡ record_size shape
  pub same_header : take HEADER_BYTES bytes ≡ header
  pub same_states : (k : ℕ) → k < page_count shape → ¬ Sets shape marks k → state_in bytes HEADER_BYTES k ≡ states k

-- The first batch, if there is one, is a record of an image with this header and these state bytes, but for pages that steps set.
abbrev pub RecordedAs : Shape → List (List ℕ) → List ℕ → List ℕ → List Mark → Type 0
RecordedAs shape [] header states marks = Unit {0}
RecordedAs shape (first ∷ later) header states marks = RecordFits shape first header (λ k. said (slice_index states k)) marks
