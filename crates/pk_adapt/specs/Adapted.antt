-- The levels that have room in the frames that the pinned ones don't need.
use Rattle.std.specs.Prelude.{ℕ, zero, suc, ◌+◌, ◌-◌, ◌≤◌, List, [], ◌∷◌, drop, nat_le, if◌then◌else◌}
use Rattle.pk_base.specs.Shape.{Shape, need, pinned}

-- the frames that the pinned levels don't need
abbrev pub spare_frames : Shape → ℕ → ℕ
spare_frames shape frames = frames - need shape (pinned shape frames)

-- the pages of the first n of some levels, of which each has this number of pages
abbrev pub pages_of_first : ℕ → List ℕ → ℕ
pages_of_first zero pages = 0
pages_of_first (suc n) [] = 0
pages_of_first (suc n) (p ∷ pages) = p + pages_of_first n pages

-- the last level, from this one on, up to which the pages of the levels after it fit together
abbrev pub last_fitting : ℕ → ℕ → List ℕ → ℕ
last_fitting level room [] = level
last_fitting level room (p ∷ pages) = if nat_le p room then last_fitting (suc level) (room - p) pages else level

-- The greatest level, at least the last pinned one, up to which the pages of the levels after the pinned ones fit together into the spare frames.
-- The list has the number of pages of each of the four levels.
abbrev pub adapted : Shape → ℕ → List ℕ → ℕ
adapted shape frames pages = last_fitting (pinned shape frames) (spare_frames shape frames) (drop (pinned shape frames) pages)

-- the pages of the levels after the pinned ones, up to this one
abbrev pub pages_up_to : Shape → ℕ → List ℕ → ℕ → ℕ
pages_up_to shape frames pages level = pages_of_first (level - pinned shape frames) (drop (pinned shape frames) pages)

-- It is the greatest such level.
pub record IsAdapted (shape : Shape) (frames : ℕ) (pages : List ℕ) (level : ℕ) : Type 0 where
  pub least : pinned shape frames ≤ level
  pub most : level ≤ 4
  pub fits : pages_up_to shape frames pages level ≤ spare_frames shape frames
  pub greatest : (other : ℕ) → other ≤ 4 → pages_up_to shape frames pages other ≤ spare_frames shape frames → other ≤ level
