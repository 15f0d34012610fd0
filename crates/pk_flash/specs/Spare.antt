-- Buffers that are taken before they are needed.
use Rattle.std.{specs.Prelude.◌≡◌, specs.Prelude.◌≤◌, specs.Prelude.ℕ, specs.Prelude.List, specs.Prelude.[], specs.Prelude.Vec, specs.Prelude.vec_len, specs.Prelude.vec_capacity, specs.List.All}
use Rattle.std.specs.declared.alloc.Global.{Global}

-- an empty buffer with room for n bytes
abbrev pub IsSpare : ℕ → Vec ℕ Global → Type 0
IsSpare room buffer = (buffer.items ≡ []) × (vec_len buffer ≡ 0) × (room ≤ vec_capacity buffer)

abbrev pub AreSpare : ℕ → List (Vec ℕ Global) → Type 0
AreSpare room buffers = All (IsSpare room) buffers
