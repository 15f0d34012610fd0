use Rattle.std.proofs.Common.{◌<◌, inl, sym, ap, subst, arith}
use Rattle.pk_base.{specs.Shape.Shape, specs.Shape.page_count, specs.Page.Flash, specs.Page.IsPage, specs.Mark.program}
use Rattle.pk_nand.{specs.BoardState.BoardState, specs.Operations.InOrder}
use Rattle.pk_remap.{specs.Serving.outer_of, specs.Remapped.is_open, specs.Remapped.is_sure}
use Rattle.pk_remap.proofs.Remapping.{rests, outer_same, made, made_not_found}
use Rattle.pk_remap.proofs.Bounding.{moved_found, calls_more}
use Rattle.pk_remap.proofs.remap.Remap.program_page.Goals as goal

pub program_found-requires : goal.program_found-requires
program_found-requires g c =
    let self = c.args.self.now in
    let there = c.find_table.new.self in
    let mid : BoardState = g.N.Nand.state there.inner in
    let found = c.in-Ok.ensures.found in
    let same = outer_same self.work (g.N.Nand.state self.inner) (self.holds.opened c.requires.opened) self.holds.taken (program c.args.page c.args.bytes.now)
    there.image there.work mid found (rests there.image there.work mid there.holds (ap is_sure found.sure)) in
    let P : Shape → Type 0 = λ s. c.args.page < page_count s in
    let Q : Shape → Type 0 = λ s. IsPage s c.args.bytes.now in
    let S : Shape → Type 0 = λ s. InOrder s (outer_of there.work mid.pages) c.args.page in
    let T : Flash → Type 0 = λ f. InOrder self.work.shape f c.args.page in
    record {
      sure = found.sure;
      inside = subst P (sym found.same.shape) c.requires.inside;
      full = subst Q (sym found.same.shape) c.requires.full;
      order = subst S (sym found.same.shape) (subst T (sym same) c.requires.order);
    }

pub returns-in-Ok-clause-made : goal.returns-in-Ok-clause-made
returns-in-Ok-clause-made g c =
    let self = c.args.self.now in
    let there = c.find_table.new.self in
    let mid : BoardState = g.N.Nand.state there.inner in
    let found = c.in-Ok.ensures.found in
    made self.work (g.N.Nand.state self.inner) (self.holds.opened c.requires.opened) self.holds.taken (program c.args.page c.args.bytes.now) there.image there.work mid found
    (rests there.image there.work mid there.holds (ap is_sure found.sure))
    c.program_found.result c.program_found.new.self.work (g.N.Nand.state c.program_found.new.self.inner) c.program_found.ensures.outcome c.program_found.ensures.taken

pub returns-in-Err-clause-made : goal.returns-in-Err-clause-made
returns-in-Err-clause-made g c =
    let self = c.args.self.now in
    let there = c.find_table.new.self in
    made_not_found self.work (g.N.Nand.state self.inner) (self.holds.opened c.requires.opened) self.holds.taken (program c.args.page c.args.bytes.now) _
    there.image there.work (g.N.Nand.state there.inner) c.in-Err.ensures.found

pub returns-in-Err-clause-opened : goal.returns-in-Err-clause-opened
returns-in-Err-clause-opened g c = ap is_open c.in-Err.ensures.found.unsure

pub returns-in-Ok-clause-calls : goal.returns-in-Ok-clause-calls
returns-in-Ok-clause-calls g c =
    let self = c.args.self.now in
    let there = c.find_table.new.self in
    moved_found _ 2 self.work (g.N.Nand.state self.inner) there.image there.work (g.N.Nand.state there.inner) (g.N.Nand.state c.program_found.new.self.inner)
    c.in-Ok.ensures.found c.find_table.ensures.calls c.program_found.ensures.calls

pub returns-in-Err-clause-calls : goal.returns-in-Err-clause-calls
returns-in-Err-clause-calls g c =
    inl (calls_more _ _ (g.N.Nand.state c.args.self.now.inner) (g.N.Nand.state c.find_table.new.self.inner) (omega arith) c.find_table.ensures.calls)
