use Rattle.std.proofs.Common.{arith, sym, ap, ◌∙◌}
use Rattle.std.{specs.Ordering.ordering_reverse, specs.Cmp.Lexicographic.nat_list_cmp_total}
use Rattle.pk_base.{specs.Key.key_cmp, specs.EntryBytes.cell_key, proofs.EntryLemmas.key_of_at}
use Rattle.pk_meta.proofs.CellLemmas.{cell_len, cell_size}
use Rattle.pk_meta.proofs.cells.compare_with_cell.Goals as goal

pub compare_cell-requires : goal.compare_cell-requires
compare_cell-requires c = let h = cell_size c.args.cell.now c.requires in let l = cell_len c.args.cell.now c.requires in omega (arith, h, l)

pub returns : goal.returns
returns c =
    let cell = c.args.cell.now in
    let key = c.args.key.now in
    c.reverse.ensures ∙ ap ordering_reverse c.compare_cell.ensures ∙ sym (nat_list_cmp_total.antisymm key (cell_key cell)) ∙ ap (key_cmp key) (sym (key_of_at cell))
