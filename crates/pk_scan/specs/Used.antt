-- The limits of the namespaces of a drive, and what is used of each by values.
use Rattle.std.specs.Prelude.{◌≡◌, ℕ, ◌+◌, List, [], ◌∷◌, length, ◌==◌, if◌then◌else◌}
use Rattle.pk_base.{specs.declared.sizes.TheConstants.MOST_SPACES, specs.Key.Key, specs.Key.space_of, specs.Shape.Shape, specs.Entry.Place}
use Rattle.pk_space.specs.Uses.{Use, IsSpace, space_live, space_keys}
use Rattle.pk_rootfmt.specs.Held.{Held}
use Rattle.pk_model.{specs.RootLimits.root_limits, specs.Values.pages_of_space}

-- the limits of a drive with this root
abbrev pub held_limits : Held → List ℕ
held_limits root = root_limits root.shape root.root

-- how many values a namespace has
abbrev pub keys_of_space : ℕ → List (Key × Place) → ℕ
keys_of_space space [] = 0
keys_of_space space (e ∷ es) = (if space_of e.0 == space then 1 else 0) + keys_of_space space es

-- each namespace has the live pages and the keys of these values
pub record IsUseOf (shape : Shape) (u : Use) (es : List (Key × Place)) : Type 0 where
  pub live_room : length u.live ≡ MOST_SPACES
  pub keys_room : length u.keys ≡ MOST_SPACES
  pub live : (space : ℕ) → IsSpace space → space_live u space ≡ pages_of_space shape space es
  pub keys : (space : ℕ) → IsSpace space → space_keys u space ≡ keys_of_space space es
