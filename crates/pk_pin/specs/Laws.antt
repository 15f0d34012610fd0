-- What calls leave of the leases of all who have some: the statements.
use Rattle.std.specs.Prelude.{◌≡◌, ℕ, ◌+◌, false, List, [], ◌∷◌, ◌++◌, length, replicate, slice_get, Some}
use Rattle.pk_pin.specs.Frames.{Frames, AreLeases, free_frames, leased_frames, leased, given, filled}

-- nobody has a frame of an arena whose frames are all free
abbrev pub NoneLeased : Type 0
NoneLeased = (page frames : ℕ) (bytes : List (List ℕ)) → AreLeases (record { page_bytes = page; used = replicate frames false; frames = bytes }) []

-- if a free frame is taken, it is one lease more
abbrev pub LeaseTaken : Type 0
LeaseTaken = (a : Frames) (ls : List ℕ) (l : ℕ) → AreLeases a ls → slice_get a.used l ≡ Some false → AreLeases (leased a l) (l ∷ ls)

-- if a frame is freed, its lease is gone and all others are unchanged
abbrev pub LeaseGiven : Type 0
LeaseGiven = (a : Frames) (before behind : List ℕ) (l : ℕ) → AreLeases a (before ++ l ∷ behind) → AreLeases (given a l) (before ++ behind)

-- if a frame is filled, the leases are unchanged
abbrev pub LeasesFilled : Type 0
LeasesFilled = (a : Frames) (ls : List ℕ) (l : ℕ) (bytes : List ℕ) → AreLeases a ls → AreLeases (filled a l bytes) ls

-- there are as many leases as frames that are leased
abbrev pub LeasesCounted : Type 0
LeasesCounted = (a : Frames) (ls : List ℕ) → AreLeases a ls → length ls ≡ leased_frames a

-- free and leased frames together are all frames
abbrev pub FreeAndLeased : Type 0
FreeAndLeased = (a : Frames) → free_frames a + leased_frames a ≡ length a.used
