-- A table of homes: for each home the number of the entry that has it, or that several do.
use Rattle.std.specs.Prelude.{◌≡◌, ◌≢◌, ℕ, suc, ◌*◌, ◌/◌, ◌^◌, ◌<◌, ◌≤◌, ◌⊎◌, List, get_or, length}
use Rattle.pk_homes.specs.declared.table.TheConstants.{SHARED, HALF}

-- the home of a hash in a table of this many homes
unfoldable pub home_of : ℕ → ℕ → ℕ
home_of hash homes = hash / HALF * homes / HALF

-- a home has the number of an entry, counted from 1, or is shared
abbrev pub IsAtHome : List ℕ → ℕ → ℕ → Type 0
IsAtHome table home i = (get_or table home 0 ≡ suc i) ⊎ (SHARED ≤ get_or table home 0)

-- each of n entries with these hashes is noted at its home
pub record HasHomes (hashes : ℕ → ℕ) (n : ℕ) (table : List ℕ) : Type 0 where
  pub noted : (i : ℕ) → i < n → IsAtHome table (home_of (hashes i) (length table)) i

-- the entry with this number was noted at a home, and no other home has changed
pub record IsAdded (old new : List ℕ) (home number : ℕ) : Type 0 where
  pub size : length new ≡ length old
  pub here : ((get_or old home 0 ≡ 0) × (get_or new home 0 ≡ suc number)) ⊎ (SHARED ≤ get_or new home 0)
  pub others : (j : ℕ) → j ≢ home → get_or new j 0 ≡ get_or old j 0
