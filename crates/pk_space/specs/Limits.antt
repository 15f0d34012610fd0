-- Live limits of namespaces, and the first rule that other numbers break.
use Rattle.std.specs.Prelude.{◌≡◌, ℕ, ◌+◌, ◌*◌, ◌≤◌, List, [], ◌∷◌, take, length, sum, bytes_eq, Bool, true, false, ◌||◌, not, ◌&&◌, ◌==◌, nat_le, nat_lt, if◌then◌else◌, Result, Ok, Err}
use Rattle.std.specs.List.{list_any}
use Rattle.pk_base.{specs.Shape.Shape, specs.Shape.meta_blocks, specs.Shape.limit, specs.declared.sizes.TheConstants.MOST_SPACES}
use Rattle.pk_space.{specs.declared.limits.LimitsError.LimitsError, specs.declared.limits.TheConstants.LIMITS_LIST_FROM}
use Rattle.pk_space.specs.declared.limits.LimitsError.TheVariants.{Count, Zero, TooMuch, NoRoom}

-- the limits of namespaces 1, 2 and so on, in pages
pub record Limits : Type 0 where
  pub shape : Shape
  pub each : List ℕ

-- at least one, and no more than a drive may have
abbrev pub are_few : List ℕ → Bool
are_few limits = nat_le 1 (length limits) && nat_le (length limits) MOST_SPACES

abbrev pub has_zero : List ℕ → Bool
has_zero limits = list_any (λ l. l == 0) limits

-- together more than the limit of the shape
abbrev pub are_too_much : Shape → List ℕ → Bool
are_too_much shape limits = nat_lt (limit shape) (sum limits)

-- a root page has no room for limits
abbrev pub has_no_room : Shape → Bool
has_no_room shape = nat_lt shape.page_bytes (LIMITS_LIST_FROM + 2 * (meta_blocks shape + 4))

-- the limits, or the first rule that they break
unfoldable pub limits_checked : Shape → List ℕ → Result (List ℕ) LimitsError
limits_checked shape limits =
    if not (are_few limits) then Err Count
    else if has_zero limits then Err Zero
    else if are_too_much shape limits then Err TooMuch
    else if has_no_room shape then Err NoRoom
    else Ok limits

-- limits of a drive: not too many, none of them zero, and together no more than the limit of the shape; a root page has room for
-- them, or they are the one limit of the shape, which `make` writes to no root page
pub record AcceptsLimits (shape : Shape) (limits : List ℕ) : Type 0 where
  pub some : 1 ≤ length limits
  pub most : length limits ≤ MOST_SPACES
  pub no_zero : has_zero limits ≡ false
  pub within : sum limits ≤ limit shape
  pub room : (not (has_no_room shape) || bytes_eq limits (limit shape ∷ [])) ≡ true

-- the first `count` of these numbers are limits of a drive
pub record AreLimits (shape : Shape) (count : ℕ) (each : List ℕ) : Type 0 where
  pub room : length each ≡ MOST_SPACES
  pub accepts : AcceptsLimits shape (take count each)
  pub fits : count ≤ MOST_SPACES
