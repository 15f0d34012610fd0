-- What contracts see of an arena of frames, and of the leases of all who have some.
use Rattle.std.specs.Prelude.{◌≡◌, ℕ, zero, suc, Bool, true, false, not, List, [], ◌∷◌, take, drop, slice_get, slice_set, slice_index_or, count_by, Option, Some, None, ◌==◌, if◌then◌else◌}

-- the bytes of a frame, which frames are leased, and what each contains
pub record Frames : Type 0 where
  pub page_bytes : ℕ
  pub used : List Bool
  pub frames : List (List ℕ)

-- a list cut into n pieces of p elements
abbrev pub chunks : ℕ → ℕ → List ℕ → List (List ℕ)
chunks p zero xs = []
chunks p (suc n) xs = take p xs ∷ chunks p n (drop p xs)

-- the frames that nobody has
abbrev pub free_frames : Frames → ℕ
free_frames a = count_by not a.used

-- and those that somebody has
abbrev pub leased_frames : Frames → ℕ
leased_frames a = count_by (λ b. b) a.used

-- somebody has frame i
abbrev pub IsLeased : Frames → ℕ → Type 0
IsLeased a i = slice_get a.used i ≡ Some true

-- the bytes in frame i
abbrev pub frame_of : Frames → ℕ → List ℕ
frame_of a i = slice_index_or a.frames i []

-- frame i is taken
abbrev pub leased : Frames → ℕ → Frames
leased a i = record a { used = slice_set a.used i true }

-- frame i is freed
abbrev pub given : Frames → ℕ → Frames
given a i = record a { used = slice_set a.used i false }

-- frame i is written
abbrev pub filled : Frames → ℕ → List ℕ → Frames
filled a i bytes = record a { frames = slice_set a.frames i bytes }

-- if a frame is needed, a free one was leased and filled with these bytes; otherwise nothing was done
abbrev pub KeepsPage : Bool → Frames → Frames → List ℕ → Option ℕ → Type 0
KeepsPage wanted old new bytes None = (wanted ≡ false) × (new ≡ old)
KeepsPage wanted old new bytes (Some lease) =
    (wanted ≡ true) × (slice_get old.used lease ≡ Some false) × (new ≡ filled (leased old lease) lease bytes) × IsLeased new lease × (frame_of new lease ≡ bytes)

-- how often frame i occurs among leases
abbrev pub times : ℕ → List ℕ → ℕ
times i [] = 0
times i (l ∷ ls) = if l == i then suc (times i ls) else times i ls

-- these are all the leases of the arena: a leased frame is among them once, and a free one never
abbrev pub AreLeases : Frames → List ℕ → Type 0
AreLeases a ls = (i : ℕ) → times i ls ≡ (if slice_index_or a.used i false then 1 else 0)
