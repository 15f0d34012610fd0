use Rattle.std.proofs.Common.{Bool, sym, ap, ◌∙◌, [], ◌∷◌, if◌then◌else◌, slice_index}
use Rattle.std.specs.Prelude.{slice_get}
use Rattle.pk_plan.specs.declared.owner.Owner.TheVariants.{Journal}
use Rattle.pk_pool.{specs.declared.state.BlockState.TheVariants.Leaving, specs.Blocks.Blocks, specs.Blocks.with_state, specs.Blocks.left_by}
use Rattle.pk_pool.proofs.States.{get-set_other}
use Rattle.pk_compact.proofs.blocks.retire_epoch.Goals as goal

pub leave-requires-2 : goal.leave-requires-2
leave-requires-2 g c = (
  Journal,
  ap (λ (p : Blocks). slice_get p.states (slice_index c.args.blocks 1)) (c.leave.ensures.left Journal c.requires.first)
      ∙ get-set_other c.args.pool.now.states (slice_index c.args.blocks 0) (slice_index c.args.blocks 1) (Leaving Journal) c.requires.different ∙ c.requires.second,
)

pub returns-clause-left : goal.returns-clause-left
returns-clause-left g c =
    let first = slice_index c.args.blocks 0 in
    let second = slice_index c.args.blocks 1 in
    let middle = c.leave.ensures.left Journal c.requires.first in
    let still = ap (λ (p : Blocks). slice_get p.states second) middle ∙ get-set_other c.args.pool.now.states first second (Leaving Journal) c.requires.different ∙ c.requires.second in
    c.leave-2.ensures.left Journal still
    ∙ ap (λ (p : Blocks). with_state p second (Leaving Journal)) middle
    ∙ sym (ap (λ (h : Bool). left_by Journal c.args.pool.now (if h then [] else first ∷ second ∷ [])) c.if-has_entries.false)

pub returns-clause-counted : goal.returns-clause-counted
returns-clause-counted g c o = c.leave-2.ensures.counted o ∙ c.leave.ensures.counted o
