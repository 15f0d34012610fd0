use Rattle.std.proofs.Common.{◌+◌, ◌*◌, arith, sym, ap, subst, ◌∙◌, ℕ, List, length, Some}
use Rattle.pk_base.specs.EntryBytes.{entry_at, cell_at}
use Rattle.pk_meta.{specs.Cells.IsCell, proofs.FindLemmas.cell_room, proofs.FindLemmas.cell_good, proofs.FindLemmas.cell_entry, proofs.CellLemmas.passed_cell, proofs.CellLemmas.cell_small}
use Rattle.pk_meta.proofs.cells.cell.Goals as goal

pub cell_of-requires : goal.cell_of-requires
cell_of-requires c = omega (arith, cell_room c.args.shape.now c.args.page.now c.known.ensures c.requires.decodes)

pub returns-clause-entry : goal.returns-clause-entry
returns-clause-entry c level index entries is =
    cell_entry c.args.shape.now c.args.page.now c.known.ensures level index entries is c.args.i c.requires.within
    ∙ ap (λ (x : List ℕ). Some (entry_at x)) (sym c.cell_of.ensures.value)

pub returns-clause-cell : goal.returns-clause-cell
returns-clause-cell c =
    let page : List ℕ = c.args.page.now in
    let at : ℕ = 32 + 32 * c.args.i in
    let sized = ap length (sym c.cell_of.ensures.value) ∙ c.cell_of.ensures.len in
    subst IsCell (sym c.cell_of.ensures.value)
    (passed_cell c.args.shape.now (cell_at at page) (cell_small at page (λ i. omega (arith, c.type_inv.page i))) sized
    (cell_good c.args.shape.now page c.known.ensures c.requires.decodes c.args.i c.requires.within))
