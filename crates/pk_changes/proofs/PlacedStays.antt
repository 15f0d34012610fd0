-- What of a drive is unchanged when a value is placed.
use Rattle.std.proofs.Common.{◌≡◌, inl, inr, ℕ, ◌+◌, ◌-◌, ◌≤◌, refl, sym, ap, subst, ◌∙◌, arith, true, List, length, Option, Some, None}
use Rattle.std.specs.Prelude.{MatchOption}
use Rattle.pk_base.{specs.Shape.Shape, specs.Shape.IsShape, specs.Shape.charge, specs.Shape.data_blocks, specs.Page.Flash, specs.Key.Key, specs.Map.Map, proofs.Logic.some_same}
use Rattle.pk_plan.specs.declared.owner.Owner.TheVariants.{Values}
use Rattle.pk_nand.specs.BoardState.{BoardState}
use Rattle.pk_pool.{specs.Blocks.Blocks, specs.Blocks.IsSpare, specs.Blocks.used_by, proofs.Sharing.used_adopted}
use Rattle.pk_values.{specs.State.ValuesState, specs.State.more_used, specs.State.with_written, specs.Placed.HoldsValues, specs.Placed.IsOpenIn}
use Rattle.pk_live.specs.declared.open_block.OpenBlock.{OpenBlock}
use Rattle.pk_gc.{specs.declared.course.Phase.Phase, specs.Standing.held_blocks, specs.Stepping.runs_in}
use Rattle.pk_gc.specs.declared.course.Phase.TheVariants.{Idle, Copies, Commits, GivesBack}
use Rattle.pk_parts.{specs.Parts.Parts, specs.Parts.outputs_of, specs.Parts.block_if_open, specs.Moves.StandsFor, specs.Staying.StaysOrOpens}
use Rattle.pk_changes.specs.Placing.{PlacesValue}

-- ---- a value is placed

written_block : (values : ValuesState) (count : ℕ) → block_if_open (with_written values count).open_block ≡ block_if_open values.open_block
written_block values count = by values.open_block
  where
    by : (o : Option OpenBlock) → block_if_open (more_used o count) ≡ block_if_open o
    by None = refl
    by (Some o) = refl

spare_or_values : (p : Blocks) (b : ℕ) → IsSpare p b → HoldsValues p b → ⊥
spare_or_values p b (inl free) held = cc
spare_or_values p b (inr ready) held = cc

not_the_open : (shape : Shape) (pool : Blocks) (flash : Flash) (o : Option OpenBlock) (b : ℕ)
    → MatchOption o (Unit {0}) (λ x. IsOpenIn shape pool flash x) → IsSpare pool b → ◌≡◌ {A = Option ℕ} (Some b) (block_if_open o) → ⊥
not_the_open shape pool flash None b is spare e = cc
not_the_open shape pool flash (Some o) b is spare e = spare_or_values pool b spare (subst (HoldsValues pool) (some_same o.block b (sym e)) is.owned)

some_data : (shape : Shape) → IsShape shape → 1 ≤ data_blocks shape
unfolding data_blocks
some_data shape is = let fits = is.data_fits in omega (arith, fits)

-- what a reclaim holds is in use
held_few : (p : Phase) (used all : ℕ) → (runs_in p ≡ true → used ≡ all) → 1 ≤ all → length (held_blocks p) ≤ used
held_few Idle used all full some = omega arith
held_few (Copies c) used all full some = let same = full refl in omega (arith, same, some)
held_few (Commits victim) used all full some = let same = full refl in omega (arith, same, some)
held_few (GivesBack victim) used all full some = let same = full refl in omega (arith, same, some)

pub place_stays : (d : Parts) (key : Key) (value : List ℕ) (old : BoardState) (page : ℕ) (values : ValuesState) (q : Blocks) (new : BoardState)
    → PlacesValue d.log.shape key value d.values d.pool old page values q new
    → (m : Map) × StandsFor d d.log.shape old.pages m → StaysOrOpens d (record d { values = values; pool = q }) (charge d.log.shape (length value))
place_stays d key value old page values q new is stands = record {
  fresh = record { stays = λ e. e; begun = inl refl };
  blocks = elim is.reserved.taken [
    | inl next ↦ inl (record {
      used = ap (λ (p : Blocks). used_by Values p.states - length (outputs_of d)) next.same_pool;
      open_same = counted ∙ ap (λ (s : ValuesState). block_if_open s.open_block) next.kept;
    })
    | inr opens ↦ inr (inl (record {
      no_room = opens.no_room;
      used =
          let more : used_by Values q.states ≡ used_by Values d.pool.states + 1 = ap (λ (p : Blocks). used_by Values p.states) opens.taken
          ∙ used_adopted d.pool.shape d.pool.states opens.block Values opens.spare in
          let few = held_few d.reclaim.phase (used_by Values d.pool.states) (data_blocks d.log.shape) stands.1.with.reclaim.full (some_data d.log.shape stands.1.with.placed.is_shape) in
          omega (arith, more, few);
      other = λ e. not_the_open d.log.shape d.pool old.pages d.values.open_block opens.block stands.1.with.placed.open_is opens.spare
          (sym (counted ∙ ap (λ (s : ValuesState). block_if_open s.open_block) opens.opens) ∙ e);
    }))
  ];
}
  where
    counted : block_if_open values.open_block ≡ block_if_open is.values.open_block
    counted = ap (λ (s : ValuesState). block_if_open s.open_block) is.counted ∙ written_block is.values (charge d.log.shape (length value))
