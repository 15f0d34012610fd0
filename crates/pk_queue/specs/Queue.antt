-- Records that wait for a commit.
use Rattle.std.specs.Prelude.{ℕ, List, [], ◌∷◌, ◌++◌}

-- the heads that are held, in order, and how many there may be
pub record Queue : Type 0 where
  pub heads : List (List ℕ)
  pub room : ℕ

-- their bytes
abbrev pub bytes_of : List (List ℕ) → List ℕ
bytes_of [] = []
bytes_of (head ∷ heads) = head ++ bytes_of heads
