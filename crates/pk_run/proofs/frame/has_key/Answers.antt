use Rattle.std.proofs.Common.{◌≡◌, arith, ap, ◌∙◌, None}
use Rattle.pk_base.{specs.EntryChecks.entry_fault, proofs.EntryLemmas.entry_size}
use Rattle.pk_meta.proofs.FindLemmas.{cell_room, cell_good}
use Rattle.pk_run.proofs.frame.has_key.Goals as goal

pub cell_of-requires : goal.cell_of-requires
cell_of-requires c = omega (arith, cell_room c.args.shape.now c.args.page.now c.known.ensures c.requires.decodes)

pub compare_cell-requires : goal.compare_cell-requires
compare_cell-requires c =
    let good : entry_fault c.args.shape.now c.cell_of.result.now ≡ None =
    ap (entry_fault c.args.shape.now) c.cell_of.ensures.value ∙ cell_good c.args.shape.now c.args.page.now c.known.ensures c.requires.decodes c.args.i c.requires.within in
    let h = entry_size c.args.shape.now c.cell_of.result.now good in
    omega (arith, c.cell_of.ensures.len)
