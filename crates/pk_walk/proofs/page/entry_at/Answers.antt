use Rattle.std.proofs.Common.{◌≡◌, arith, sym, ap, ◌∙◌, Some, None}
use Rattle.pk_base.{specs.EntryBytes.entry_at, specs.EntryChecks.entry_fault, proofs.EntryLemmas.entry_space, specs.Entry.Entry, specs.Seen.entry as seen}
use Rattle.pk_meta.proofs.FindLemmas.{cell_room, cell_good, cell_entry}
use Rattle.pk_walk.proofs.page.entry_at.Goals as goal

pub cell_of-cell-requires : goal.cell_of-cell-requires
cell_of-cell-requires c = omega (arith, cell_room c.args.shape.now c.args.page.now c.known.ensures c.requires.decodes)

pub whole_put-requires-clause-space : goal.whole_put-requires-clause-space
whole_put-requires-clause-space c =
    let good : entry_fault c.args.shape.now c.cell_of-cell.result.now ≡ None =
    ap (entry_fault c.args.shape.now) c.cell_of-cell.ensures.value ∙ cell_good c.args.shape.now c.args.page.now c.known.ensures c.requires.decodes c.args.i c.requires.within in
    entry_space c.args.shape.now c.cell_of-cell.result.now good

pub returns-then-cell-eq-PUT_KIND : goal.returns-then-cell-eq-PUT_KIND
returns-then-cell-eq-PUT_KIND c level index entries is =
    let e : seen c.whole_put.result ≡ _ = c.whole_put.ensures ∙ ap entry_at c.cell_of-cell.ensures.value in
    cell_entry c.args.shape.now c.args.page.now c.known.ensures level index entries is c.args.i c.requires.within ∙ ap (λ (x : Entry). Some x) (sym e)
