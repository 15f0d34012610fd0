-- Namespaces of a drive: their limits of live pages, and the part of a map that each of them is.
use Rattle.std.specs.Prelude.{ℕ, ◌-◌, ◌≤◌, List, [], ◌∷◌, Bool, ◌&&◌, ◌==◌, nat_le, slice_index, filter}
use Rattle.std.{specs.FinMap.entries, specs.FinMap.from_sorted, specs.List.AllByRecursion}
use Rattle.pk_base.{specs.Key.space_of, specs.Map.Map, specs.Page.Flash, specs.Page.page_at, specs.Shape.Shape}
use Rattle.pk_rootfmt.specs.Newest.{newest_root, limits_if}

-- What a drive has: frames, and the limits of its namespaces 1, 2 and so on.
pub record Terms : Type 0 where
  pub frames : ℕ
  pub limits : List ℕ

-- those of a drive with one namespace
abbrev pub one_space : ℕ → ℕ → Terms
one_space frames most = record { frames = frames; limits = most ∷ [] }

-- the limit of a namespace
abbrev pub limit_of : List ℕ → ℕ → ℕ
limit_of limits space = slice_index limits (space - 1)

-- one of n namespaces
abbrev pub is_space : ℕ → ℕ → Bool
is_space spaces space = nat_le 1 space && nat_le space spaces

-- the keys of a namespace with their values
unfoldable pub in_space : ℕ → Map → Map
in_space space m = from_sorted (filter (λ e. space_of e.0 == space) (entries m))

-- each key is of one of n namespaces
abbrev pub AreInSpaces : ℕ → Map → Type 0
AreInSpaces spaces m = AllByRecursion (λ e. (1 ≤ space_of e.0) × (space_of e.0 ≤ spaces)) (entries m)

-- the limits on a flash: those of its newest root
unfoldable pub limits_at : Shape → Flash → List ℕ
limits_at shape flash = limits_if shape (newest_root shape (page_at flash))

-- the frames of a drive, and the limits on its flash
abbrev pub terms_at : Shape → Flash → ℕ → Terms
terms_at shape flash frames = record { frames = frames; limits = limits_at shape flash }
