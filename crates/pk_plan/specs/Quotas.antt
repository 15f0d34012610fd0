-- How many blocks each owner may have, and what every plan keeps.
use Rattle.std.specs.Prelude.{◌≡◌, ℕ, ◌+◌, ◌*◌, ◌≤◌}
use Rattle.pk_base.specs.declared.sizes.TheConstants.{EPOCH_BLOCKS, ROOT_BLOCKS}
use Rattle.pk_base.specs.Shape.{Shape, IsShape, meta_blocks, data_blocks, need, most_calls}
use Rattle.pk_plan.{specs.declared.owner.Owner.Owner, specs.declared.owner.Owner.TheVariants.Journal, specs.declared.owner.Owner.TheVariants.Meta, specs.declared.owner.Owner.TheVariants.Values}

-- most blocks of an owner: two epochs, the runs with a merge's output, and the data blocks
abbrev pub quota_of : Shape → Owner → ℕ
quota_of shape Journal = 2 * EPOCH_BLOCKS
quota_of shape Meta = meta_blocks shape
quota_of shape Values = data_blocks shape

-- The shape is one, and the owners share out all blocks but the root blocks.
pub record IsPlan (shape : Shape) : Type 0 where
  pub is_shape : IsShape shape
  pub shared : quota_of shape Journal + quota_of shape Meta + quota_of shape Values + ROOT_BLOCKS ≡ shape.blocks
  pub data_least : 3 ≤ quota_of shape Values
  pub two_levels : need shape 2 ≡ 36
  pub frames_rise : (need shape 1 ≤ need shape 2) × (need shape 2 ≤ need shape 3) × (need shape 3 ≤ need shape 4)
  pub frames_most : need shape 4 ≤ 2000084
  pub calls_most : most_calls shape ≤ 8001760
