-- Leases whose frames are freed, and what that leaves of other runs.
use Rattle.std.specs.Prelude.{◌≡◌, ℕ, List, [], ◌∷◌, ◌++◌, slice_get, Some}
use Rattle.pk_base.{specs.Entry.Entry, specs.Page.Flash}
use Rattle.pk_pin.specs.Frames.{Frames, AreLeases, IsLeased, given, times}
use Rattle.pk_run.specs.Kept.{Kept, RunOnFlash}

-- these frames are freed, the last first
abbrev pub given_all : Frames → List ℕ → Frames
given_all arena [] = arena
given_all arena (l ∷ ls) = given (given_all arena ls) l

-- each of these frames is leased, and none occurs twice
pub record AreLeased (arena : Frames) (leases : List ℕ) : Type 0 where
  pub leased : (i l : ℕ) → slice_get leases i ≡ Some l → IsLeased arena l
  pub different : (i j l : ℕ) → slice_get leases i ≡ Some l → slice_get leases j ≡ Some l → i ≡ j

-- the run has none of these frames
abbrev pub HasNoneOf : List ℕ → Kept → Type 0
HasNoneOf leases r = (i l : ℕ) → slice_get leases i ≡ Some l → times l r.leases ≡ 0

-- a run that has none of these frames is as before
abbrev pub LeavesOthers : List ℕ → Frames → Frames → Type 0
LeavesOthers leases before after = (other : Kept) (flash : Flash) (es : List Entry) → HasNoneOf leases other → RunOnFlash other flash before es → RunOnFlash other flash after es

-- all leases of the arena but these are its leases still
abbrev pub LeavesOtherLeases : List ℕ → Frames → Frames → Type 0
LeavesOtherLeases leases before after = (front behind : List ℕ) → AreLeases before (front ++ (leases ++ behind)) → AreLeases after (front ++ behind)

-- ---- the laws

-- A run's leases among all those of the arena are leased, and different.
abbrev pub LeasesAreLeased : Type 0
LeasesAreLeased = (arena : Frames) (before leases behind : List ℕ) → AreLeases arena (before ++ (leases ++ behind)) → AreLeased arena leases

-- and nobody else has one of them
abbrev pub LeasesAreApart : Type 0
LeasesAreApart = (arena : Frames) (leases others : List ℕ) → AreLeases arena (leases ++ others) → (i l : ℕ) → slice_get leases i ≡ Some l → times l others ≡ 0

-- a run whose frames were freed is as before
abbrev pub StandsBare : Type 0
StandsBare = (r : Kept) (flash : Flash) (before after : Frames) (es : List Entry) → RunOnFlash r flash before es → RunOnFlash (record r { leases = [] }) flash after es
