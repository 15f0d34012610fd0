-- Which state bytes of an image file a disk writes together.
use Rattle.std.specs.Prelude.{◌≡◌, ℕ, ◌+◌, ◌/◌, ◌<◌}
use Rattle.pk_image.specs.Image.{state_place}

-- bytes that a disk writes all or not at all
abbrev pub sector_bytes : ℕ
sector_bytes = 512

-- the state bytes of these many pages are in one sector
abbrev pub InOneSector : ℕ → ℕ → Type 0
InOneSector first count = (i : ℕ) → i < count → state_place (first + i) / sector_bytes ≡ state_place first / sector_bytes
