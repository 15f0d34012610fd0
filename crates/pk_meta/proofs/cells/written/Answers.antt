use Rattle.std.proofs.Common.{ap, ◌∙◌}
use Rattle.pk_base.{specs.Seen.entry as seen, specs.EntryBytes.entry_at}
use Rattle.pk_meta.proofs.CellLemmas.{read_cell}
use Rattle.pk_meta.proofs.cells.written.Goals as goal

pub returns-clause-entry : goal.returns-clause-entry
returns-clause-entry c = ap entry_at c.write.ensures ∙ c.is_read.ensures.read

pub returns-clause-cell : goal.returns-clause-cell
returns-clause-cell c = read_cell (seen c.args.entry.now) c.write.new.into c.is_read.ensures.key c.write.ensures c.is_read.ensures.read
