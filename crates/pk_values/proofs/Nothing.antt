-- At first there is no value.
use Rattle.std.proofs.Common.{◌≡◌, inl, inr, ℕ, true, false, [], replicate, refl, ◌∙◌, length-set}
use Rattle.std.{proofs.Math.ListN.set, proofs.lemmas.List.length-replicate}
use Rattle.pk_base.specs.Shape.{Shape}
use Rattle.pk_plan.specs.declared.owner.Owner.TheVariants.{Values as for_values}
use Rattle.pk_pool.{specs.declared.state.BlockState.TheVariants.Root, specs.declared.state.BlockState.TheVariants.Free, specs.declared.state.BlockState.TheVariants.Owned, specs.Blocks.unused}
use Rattle.pk_pool.proofs.States.{none_ready_unused, none_leaves_unused, set_one, nowhere_replicate}
use Rattle.pk_live.proofs.Nothing.{Lives-none}
use Rattle.pk_values.{specs.Placed.HoldsValues, specs.Laws.StartsWithNone}

none_owned : (shape : Shape) (b : ℕ) → HoldsValues (unused shape) b → ⊥
none_owned shape b held = elim (set_one (set (replicate shape.blocks Free) 0 Root) 1 b Root (Owned for_values) held) [
  | inl root ↦ cc
  | inr one ↦ elim (set_one (replicate shape.blocks Free) 0 b Root (Owned for_values) one) [
    | inl root ↦ cc
    | inr free ↦ (let clash : Free ≡ Owned for_values = nowhere_replicate shape.blocks b Free (Owned for_values) free in cc)
  ]
]

pub starts_with_none : StartsWithNone
starts_with_none shape flash is_shape = record {
  is_shape = is_shape;
  shape_is = refl;
  size = length-set (set (replicate shape.blocks Free) 0 Root) 1 Root ∙ length-set (replicate shape.blocks Free) 0 Root ∙ length-replicate shape.blocks Free;
  fits = record { erased = λ b ready. absurd (none_ready_unused shape b ready) };
  lives = Lives-none shape [] is_shape;
  written = λ k is. absurd is;
  closed_owned = λ b is. let clash : false ≡ true = nowhere_replicate shape.blocks b false true is in cc;
  owned_closed = λ b held. absurd (none_owned shape b held);
  none_leaves = none_leaves_unused shape;
}
