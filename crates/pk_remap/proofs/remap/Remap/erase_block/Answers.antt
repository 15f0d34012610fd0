use Rattle.std.proofs.Common.{◌<◌, inl, sym, ap, subst, arith}
use Rattle.pk_base.{specs.Shape.Shape, specs.Mark.erase}
use Rattle.pk_nand.specs.BoardState.{BoardState}
use Rattle.pk_remap.{specs.Remapped.is_open, specs.Remapped.is_sure, proofs.Remapping.rests, proofs.Remapping.made, proofs.Remapping.made_not_found}
use Rattle.pk_remap.proofs.Bounding.{moved_found, calls_more}
use Rattle.pk_remap.proofs.remap.Remap.erase_block.Goals as goal

pub erase_found-requires : goal.erase_found-requires
erase_found-requires g c =
    let found = c.in-Ok.ensures.found in
    let P : Shape → Type 0 = λ s. c.args.block < s.blocks in
    record { sure = found.sure; inside = subst P (sym found.same.shape) c.requires.inside }

pub returns-in-Ok-clause-made : goal.returns-in-Ok-clause-made
returns-in-Ok-clause-made g c =
    let self = c.args.self.now in
    let there = c.find_table.new.self in
    let mid : BoardState = g.N.Nand.state there.inner in
    let found = c.in-Ok.ensures.found in
    made self.work (g.N.Nand.state self.inner) (self.holds.opened c.requires.opened) self.holds.taken (erase c.args.block) there.image there.work mid found
    (rests there.image there.work mid there.holds (ap is_sure found.sure))
    c.erase_found.result c.erase_found.new.self.work (g.N.Nand.state c.erase_found.new.self.inner) c.erase_found.ensures.outcome c.erase_found.ensures.taken

pub returns-in-Err-clause-made : goal.returns-in-Err-clause-made
returns-in-Err-clause-made g c =
    let self = c.args.self.now in
    let there = c.find_table.new.self in
    made_not_found self.work (g.N.Nand.state self.inner) (self.holds.opened c.requires.opened) self.holds.taken (erase c.args.block) _
    there.image there.work (g.N.Nand.state there.inner) c.in-Err.ensures.found

pub returns-in-Err-clause-opened : goal.returns-in-Err-clause-opened
returns-in-Err-clause-opened g c = ap is_open c.in-Err.ensures.found.unsure

pub returns-in-Ok-clause-calls : goal.returns-in-Ok-clause-calls
returns-in-Ok-clause-calls g c =
    let self = c.args.self.now in
    let there = c.find_table.new.self in
    moved_found _ 1 self.work (g.N.Nand.state self.inner) there.image there.work (g.N.Nand.state there.inner) (g.N.Nand.state c.erase_found.new.self.inner)
    c.in-Ok.ensures.found c.find_table.ensures.calls c.erase_found.ensures.calls

pub returns-in-Err-clause-calls : goal.returns-in-Err-clause-calls
returns-in-Err-clause-calls g c =
    inl (calls_more _ _ (g.N.Nand.state c.args.self.now.inner) (g.N.Nand.state c.find_table.new.self.inner) (omega arith) c.find_table.ensures.calls)
