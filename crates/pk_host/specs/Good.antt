-- What commands are passed, and which maps they keep.
use Rattle.std.specs.Prelude.{◌≡◌, ◌≤◌, ℕ, length}
use Rattle.pk_base.{specs.Fields.AreBytes, specs.Key.bytes_of, specs.Shape.Shape, specs.Shape.limit, specs.Map.Map, specs.Map.IsMap, specs.Map.live, specs.declared.sizes.TheConstants.KEY_BYTES}
use Rattle.pk_nvme.{specs.Command.Command, specs.Command.IsWhole, specs.Command.key, specs.declared.limits.TheConstants.NAMESPACE}
use Rattle.pk_model.{specs.Machine.Machine, specs.Spaces.in_space}

-- a machine of this shape with this map
abbrev pub holding : Shape → Map → Machine
holding shape m = record { shape = shape; map = m }

-- the bytes of a command's key and value are bytes, and the value is whole
pub record IsHanded (c : Command) : Type 0 where
  pub place_size : length c.key_bytes ≡ KEY_BYTES
  pub key_bytes : AreBytes (bytes_of (key c))
  pub value_bytes : AreBytes c.value
  pub whole : IsWhole c

-- a map of this shape, of the namespace in which commands are passed alone, within this limit of live pages
pub record IsGoodMap (shape : Shape) (most : ℕ) (m : Map) : Type 0 where
  pub sized : IsMap shape m
  pub alone : in_space NAMESPACE m ≡ m
  pub few : live shape m ≤ most

-- a machine with one, within the limit of its shape
abbrev pub IsGood : Machine → Type 0
IsGood m = IsGoodMap m.shape (limit m.shape) m.map
