use Rattle.std.proofs.Common.{◌∙◌, ap, arith}
use Rattle.pk_remap.{specs.Table.SpareTable, specs.Table.table_page, proofs.TableLemmas.table_parts, proofs.TableLemmas.page_again}
use Rattle.pk_remap.proofs.table.encode.Goals as goal

pub returns-clause-again : goal.returns-clause-again
returns-clause-again c is =
    let table : SpareTable = record { number = c.args.number; serves = c.args.serves.now } in
    ap (table_page c.args.shape.now c.args.spares) c.put_table.ensures.bytes
    ∙ page_again c.args.shape.now c.put_table.ensures.shape c.args.spares c.requires.few table (table_parts c.args.shape.now c.args.spares table is)

pub returns-clause-page : goal.returns-clause-page
returns-clause-page c = (c.put_table.ensures.len ∙ c.requires.sized, λ i. omega (arith, c.type_inv.into i))
