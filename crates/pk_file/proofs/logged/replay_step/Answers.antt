use Rattle.std.proofs.Common.{◌∙◌, ◌<◌, ℕ, refl, sym, ap, arith, Some}
use Rattle.std.proofs.lemmas.List.{length-map}
use Rattle.pk_base.{specs.Shape.Shape, specs.Page.Flash, specs.Mark.after}
use Rattle.pk_redo.{specs.Steps.step_mark, specs.declared.step.Step.Step}
use Rattle.pk_file.{specs.Slots.pages_of, specs.Slots.slot_page, proofs.Rows.erase_done}
use Rattle.pk_file.proofs.logged.replay_step.Goals as goal

pub returns-else-block-blocks-clause-pages : goal.returns-else-block-blocks-clause-pages
returns-else-block-blocks-clause-pages c =
    let shape : Shape = c.args.shape.now in
    let count : ℕ = c.block_pages-count.result in
    let before : Flash = pages_of c.args.slots.now.items in
    let exists : c.in-Erase.block < shape.blocks = omega (arith, c.if-block-blocks.false, c.blocks-in-Erase.ensures.value) in
    erase_done (Some shape) shape refl c.block_pages-count.ensures.shape c.in-Erase.block count count before (pages_of c.clear_slots.new.slots.items)
    c.block_pages-count.ensures.value (omega arith) (omega arith) exists (length-map c.args.slots.now.items slot_page ∙ c.requires.count) c.clear_slots.ensures.pages
    ∙ ap (λ (step : Step). after shape (step_mark shape c.args.log.now step) before) (sym c.in-Erase.is)

pub returns-else-block-blocks-clause-fit : goal.returns-else-block-blocks-clause-fit
returns-else-block-blocks-clause-fit c = c.clear_slots.ensures.fit c.args.shape.now c.requires.fit
