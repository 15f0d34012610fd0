-- The live pages and the keys of each namespace.
use Rattle.std.specs.Prelude.{◌≡◌, ℕ, zero, suc, ◌+◌, ◌-◌, ◌≤◌, ◌<◌, List, replicate, slice_index, slice_set}
use Rattle.pk_base.specs.declared.sizes.TheConstants.{MOST_SPACES}

-- of namespaces 1, 2 and so on
pub record Use : Type 0 where
  pub live : List ℕ
  pub keys : List ℕ

-- before the first Store
abbrev pub nothing_used : Use
nothing_used = record { live = replicate MOST_SPACES 0; keys = replicate MOST_SPACES 0 }

abbrev pub IsSpace : ℕ → Type 0
IsSpace space = (1 ≤ space) × (space ≤ MOST_SPACES)

abbrev pub space_live : Use → ℕ → ℕ
space_live u space = slice_index u.live (space - 1)

abbrev pub space_keys : Use → ℕ → ℕ
space_keys u space = slice_index u.keys (space - 1)

-- how many values these pages are: one, or none if there are none
abbrev pub value_count : ℕ → ℕ
value_count zero = 0
value_count (suc charge) = 1

-- a value of `old` pages may go
abbrev pub CanLeave : Use → ℕ → ℕ → Type 0
CanLeave u space old = (old ≤ space_live u space) × (value_count old ≤ space_keys u space)

-- after a value of `old` pages went and one of `new` pages came
abbrev pub used_after : Use → ℕ → ℕ → ℕ → Use
used_after u space old new = record {
  live = slice_set u.live (space - 1) (space_live u space - old + new);
  keys = slice_set u.keys (space - 1) (space_keys u space - value_count old + value_count new);
}
