-- The namespaces of a drive with a root.
use Rattle.std.specs.Prelude.{ℕ, List, length}
use Rattle.pk_base.specs.Shape.{Shape}
use Rattle.pk_rootfmt.specs.Root.{Root, limits_of}

-- the limit of each namespace, in pages
unfoldable pub root_limits : Shape → Root → List ℕ
root_limits shape root = limits_of shape root.limits

-- how many there are
abbrev pub root_spaces : Shape → Root → ℕ
root_spaces shape root = length (root_limits shape root)
