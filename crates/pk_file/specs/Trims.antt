-- Bytes that are kept without the zeros at their end.
use Rattle.std.specs.Prelude.{◌≡◌, ◌<◌, ◌≤◌, ◌++◌, ℕ, List, length, replicate, slice_index}
use Rattle.pk_file.specs.declared.trimmed.Trimmed.{Trimmed}

-- the bytes that are kept, and the zeros after them
abbrev pub bytes_in : Trimmed → List ℕ
bytes_in kept = kept.front.items ++ replicate kept.zeros 0

-- only zeros follow from this place on
abbrev pub ZerosFrom : ℕ → List ℕ → Type 0
ZerosFrom from bytes = (k : ℕ) → from ≤ k → k < length bytes → slice_index bytes k ≡ 0
