use Rattle.std.proofs.Common.{refl, sym, ◌∙◌}
use Rattle.pk_remap.{proofs.Remapping.sure_is, proofs.Bounding.calls_none, proofs.Bounding.calls_search}
use Rattle.pk_remap.proofs.remap.Remap.find_table.Goals as goal

pub search_table-requires-clause-opened : goal.search_table-requires-clause-opened
search_table-requires-clause-opened g c = c.requires

pub search_table-requires-clause-unsure : goal.search_table-requires-clause-unsure
search_table-requires-clause-unsure g c = sym c.is_sure.ensures ∙ c.if-is_sure.false

pub returns-then-is_sure-clause-found : goal.returns-then-is_sure-clause-found
returns-then-is_sure-clause-found g c = record {
  sure = sure_is c.args.self.now.image (sym c.is_sure.ensures ∙ c.if-is_sure.true);
  same = record { shape = refl; spares = refl; taken = refl };
  reads = refl;
  no_fault = (refl, refl, refl, refl);
}

pub returns-then-is_sure-clause-calls : goal.returns-then-is_sure-clause-calls
returns-then-is_sure-clause-calls g c = calls_none _ (g.N.Nand.state c.args.self.now.inner) (g.N.Nand.state c.args.self.now.inner) refl

pub returns-else-is_sure-clause-calls : goal.returns-else-is_sure-clause-calls
returns-else-is_sure-clause-calls g c =
    let self = c.args.self.now in
    calls_search self.image self.work.shape (g.N.Nand.state self.inner) (g.N.Nand.state c.search_table.new.self.inner) (sym c.is_sure.ensures ∙ c.if-is_sure.false)
    c.search_table.ensures.calls
