-- The header of an image file: its bytes, and the first field that is wrong.
use Rattle.std.specs.Prelude.{◌≡◌, ℕ, ◌+◌, ◌*◌, List, [], ◌∷◌, Bool, ◌==◌, ◌&&◌, nat_le, if◌then◌else◌, is_ok, Option, Some}
use Rattle.pk_image.{specs.declared.head.TheConstants.HEADER_BYTES, specs.declared.head.ImageError.ImageError, specs.declared.head.ImageError.TheVariants.Bad}
use Rattle.pk_base.{specs.Fields.u32, specs.Fields.u32_at, specs.Fields.spelled, specs.Fields.zeros, specs.FieldFaults.unlike, specs.FieldFaults.unless, specs.FieldFaults.first_fault}
use Rattle.pk_base.specs.Shape.{Shape, IsShape, page_count, checked}

-- PINKIMG1
abbrev pub image_magic : List ℕ
image_magic = 80 ∷ 73 ∷ 78 ∷ 75 ∷ 73 ∷ 77 ∷ 71 ∷ 49 ∷ []

-- the bytes of a file of this shape: the header, and for each page a state byte and its bytes
abbrev pub file_size : Shape → ℕ
file_size shape = HEADER_BYTES + page_count shape * (shape.page_bytes + 1)

-- the bytes of the header of this shape
unfoldable pub header_bytes : Shape → List ℕ
header_bytes shape = spelled (image_magic ∷ u32 shape.page_bytes ∷ u32 shape.block_pages ∷ u32 shape.blocks ∷ zeros 12 ∷ [])

-- the numbers that a header names, whether or not they are a shape's
abbrev pub named_shape : List ℕ → Shape
named_shape bytes = record { page_bytes = u32_at bytes 8; block_pages = u32_at bytes 12; blocks = u32_at bytes 16 }

-- the numbers are those of a shape
abbrev pub is_shape : Shape → Bool
is_shape shape = is_ok (checked shape)

-- a file of n bytes has this shape
abbrev pub has_size : Shape → ℕ → Bool
has_size shape size = is_shape shape && (size == file_size shape)

-- this is the header of a shape, in a file of its length
pub record IsHeader (shape : Shape) (bytes : List ℕ) (size : ℕ) : Type 0 where
  pub of_shape : IsShape shape
  pub spelling : bytes ≡ header_bytes shape
  pub file : size ≡ file_size shape

-- the fields of a header in order, each with its place; then the length of the file
abbrev pub header_checks : List ℕ → ℕ → List (Option ℕ)
header_checks bytes size =
    unlike 0 image_magic bytes ∷ unless 8 (is_shape (named_shape bytes)) ∷ unlike 20 (zeros 12) bytes ∷ unless HEADER_BYTES (has_size (named_shape bytes) size) ∷ []

-- The first wrong field of a file's header. A file that is shorter than a header is wrong at its length.
unfoldable pub header_fault : List ℕ → ℕ → Option ℕ
header_fault bytes size = if nat_le HEADER_BYTES size then first_fault (header_checks bytes size) else Some size

-- the place that a refusal names
abbrev pub refusal_place : ImageError → ℕ
refusal_place (Bad at) = at
