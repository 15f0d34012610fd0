-- An image file: a header, a state byte for each page, and the pages.
use Rattle.std.specs.Prelude.{◌≡◌, ℕ, zero, suc, ◌+◌, ◌*◌, ◌<◌, List, [], ◌∷◌, length, take, drop, slice_index, ◌==◌, nat_le, if◌then◌else◌, Option, Some, None}
use Rattle.pk_image.{specs.declared.head.TheConstants.HEADER_BYTES, specs.declared.tag.TheConstants.ERASED, specs.declared.tag.TheConstants.WHOLE, specs.declared.tag.TheConstants.TORN}
use Rattle.pk_image.{specs.declared.tag.PageTag.PageTag, specs.declared.tag.PageTag.TheVariants.Erased, specs.declared.tag.PageTag.TheVariants.Whole, specs.declared.tag.PageTag.TheVariants.Torn}
use Rattle.pk_image.specs.Header.{named_shape, header_fault, IsHeader}
use Rattle.pk_base.{specs.Fields.AreBytes, specs.FieldFaults.first_fault, specs.Shape.Shape, specs.Shape.page_count}
use Rattle.pk_base.specs.Page.{Page, Flash, erased, whole, torn, page_at}

-- ---- places

-- the state bytes follow the header, one for each page
abbrev pub state_place : ℕ → ℕ
state_place page = HEADER_BYTES + page

-- the pages follow the state bytes
abbrev pub page_place : Shape → ℕ → ℕ
page_place shape page = HEADER_BYTES + page_count shape + page * shape.page_bytes

-- ---- what a file is the image of

abbrev pub byte_of : PageTag → ℕ
byte_of Erased = ERASED
byte_of Whole = WHOLE
byte_of Torn = TORN

-- the state byte of a page
abbrev pub state_byte : Page → ℕ
state_byte erased = ERASED
state_byte (whole bytes) = WHOLE
state_byte torn = TORN

-- These bytes are at the place of a page: its own if it is whole, otherwise any.
abbrev pub StandsFor : Page → List ℕ → Type 0
StandsFor erased bytes = Unit {0}
StandsFor (whole own) bytes = own ≡ bytes
StandsFor torn bytes = Unit {0}

-- the file is an image of these pages of this shape
pub record IsImage (shape : Shape) (flash : Flash) (file : List ℕ) : Type 0 where
  pub header : IsHeader shape (take HEADER_BYTES file) (length file)
  pub count : length flash ≡ page_count shape
  pub states : (k : ℕ) → k < page_count shape → slice_index file (state_place k) ≡ state_byte (page_at flash k)
  pub pages : (k : ℕ) → k < page_count shape → StandsFor (page_at flash k) (take shape.page_bytes (drop (page_place shape k) file))

-- ---- reading a file

-- the page of this state byte and these bytes
abbrev pub page_by : ℕ → List ℕ → Page
page_by byte bytes = if byte == ERASED then erased else if byte == WHOLE then whole bytes else torn

-- the page of this number in a file
abbrev pub page_in_file : Shape → List ℕ → ℕ → Page
page_in_file shape file k = page_by (slice_index file (state_place k)) (take shape.page_bytes (drop (page_place shape k) file))

-- n pages of a file from this one on
abbrev pub pages_in_file : Shape → List ℕ → ℕ → ℕ → Flash
pages_in_file shape file k zero = []
pages_in_file shape file k (suc n) = page_in_file shape file k ∷ pages_in_file shape file (k + 1) n

-- all pages of a file
abbrev pub flash_in_file : Shape → List ℕ → Flash
flash_in_file shape file = pages_in_file shape file 0 (page_count shape)

-- ---- the first wrong field

-- the first of these state bytes that is none, if they begin at a place
abbrev pub bad_state : ℕ → List ℕ → Option ℕ
bad_state at [] = None
bad_state at (byte ∷ bytes) = if nat_le byte TORN then bad_state (at + 1) bytes else Some at

-- the first byte at which a file is no image: one of the header, then a state byte
unfoldable pub image_fault : List ℕ → Option ℕ
image_fault file =
    let header : List ℕ = take HEADER_BYTES file in
    first_fault (header_fault header (length file) ∷ bad_state HEADER_BYTES (take (page_count (named_shape header)) (drop HEADER_BYTES file)) ∷ [])

-- ---- laws

-- a file without a wrong byte is an image of the pages that are read of it
abbrev pub WhatIsReadIsAnImage : Type 0
WhatIsReadIsAnImage =
    (file : List ℕ) → AreBytes file → image_fault file ≡ None → IsImage (named_shape (take HEADER_BYTES file)) (flash_in_file (named_shape (take HEADER_BYTES file)) file) file

-- an image has no wrong byte, and is read as its shape and its pages
pub record IsRead (shape : Shape) (flash : Flash) (file : List ℕ) : Type 0 where
  pub good : image_fault file ≡ None
  pub of_shape : named_shape (take HEADER_BYTES file) ≡ shape
  pub of_pages : flash_in_file shape file ≡ flash

abbrev pub EveryImageIsRead : Type 0
EveryImageIsRead = (shape : Shape) (flash : Flash) (file : List ℕ) → IsImage shape flash file → IsRead shape flash file
