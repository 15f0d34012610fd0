-- Bytes of a file: parts, numbers, and how many are zero.
use Rattle.std.specs.Prelude.{◌≡◌, ℕ, zero, suc, ◌+◌, ◌<◌, ◌≤◌, ◌==◌, if◌then◌else◌, List, length, slice_index, take, drop}
use Rattle.pk_base.specs.Fields.{u32_at}

-- n bytes from a place on
unfoldable pub bytes_at : List ℕ → ℕ → ℕ → List ℕ
bytes_at file at n = take n (drop at file)

-- four bytes as a number, the lowest first
unfoldable pub number_in : List ℕ → ℕ → ℕ
number_in bytes at = u32_at bytes at

-- how many of n bytes from a place on are 0
unfoldable pub zeros_in : List ℕ → ℕ → ℕ → ℕ
zeros_in bytes at zero = 0
zeros_in bytes at (suc n) = zeros_in bytes at n + (if slice_index bytes (at + n) == 0 then 1 else 0)

-- the file has these places, and zeros there
pub record HasZeros (file : List ℕ) (from to : ℕ) : Type 0 where
  pub within : to ≤ length file
  pub each : (i : ℕ) → from ≤ i → i < to → slice_index file i ≡ 0
