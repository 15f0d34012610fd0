use Rattle.std.proofs.Common.{◌∙◌, sym, refl, length, arith, ap}
use Rattle.pk_parts.{proofs.Staying.stays_opens, proofs.Staying.stays_same, specs.Parts.Parts}
use Rattle.pk_core.proofs.Stored.{its_drive, found_can, found_stores, found_unread, found_numbers, between_same}
use Rattle.pk_core.proofs.Callings.{spends_reads, spends_breaks}
use Rattle.pk_base.specs.Shape.{charge}
use Rattle.pk_changes.proofs.StoreCalls.{spends_found}
use Rattle.pk_core.proofs.storing.put_found.Goals as goal

pub look-requires-clause-agrees : goal.look-requires-clause-agrees
look-requires-clause-agrees g c = its_drive c.args.parts.now (g.B.Nand.state c.args.board.now) c.args.key c.args.value.now c.requires.can.0

pub put-requires-clause-can : goal.put-requires-clause-can
put-requires-clause-can g c = (
  found_can c.args.parts.now (g.B.Nand.state c.args.board.now).pages c.args.key c.args.value.now c.in-Ok.old c.requires.whole c.in-Ok.ensures.looks c.look.new.self
      (g.B.Nand.state c.args.board.now) (g.B.Nand.state c.look.new.board) c.look.ensures.same refl c.look.ensures.pages c.look.ensures.ready c.requires.can.0,
  c.requires.can.1 ∙ ap (λ (d : Parts). charge d.log.shape (length c.args.value.now)) (sym c.look.ensures.same),
)

pub put-requires-clause-room : goal.put-requires-clause-room
put-requires-clause-room g c = rw c.look.ensures.same c.requires.room

pub put-requires-clause-number : goal.put-requires-clause-number
put-requires-clause-number g c = found_numbers c.args.parts.now c.look.new.self (g.B.Nand.state c.args.board.now)
    (g.B.Nand.state c.look.new.board) c.look.ensures.same c.in-Ok.ensures.reads c.requires.number

pub returns-in-Ok : goal.returns-in-Ok
returns-in-Ok g c = record {
  step = found_stores c.put.result c.args.parts.now c.look.new.self c.put.new.parts (g.B.Nand.state c.args.board.now) (g.B.Nand.state c.look.new.board) (g.B.Nand.state c.put.new.board)
      c.args.key c.args.value.now c.in-Ok.old c.requires.can.0.ready c.requires.whole c.look.ensures.same c.in-Ok.ensures.looks c.in-Ok.ensures.reads c.put.ensures.step;
  leaves = rw c.look.ensures.same at c.put.ensures.leaves;
  spends = spends_found _ _ _ _ _ (ap (λ (d : Parts). d.log.shape) c.look.ensures.same) (length c.args.value.now) (spends_reads _ _ _ _ 0 (omega arith) c.in-Ok.ensures.reads) c.put.ensures.spends;
}

pub returns-in-Err : goal.returns-in-Err
returns-in-Err g c = record {
  step = found_unread c.args.parts.now c.look.new.self (g.B.Nand.state c.args.board.now) (g.B.Nand.state c.look.new.board) _ c.args.key c.args.value.now
      c.look.ensures.same c.read_count.ensures.faults c.in-Err.ensures.failing c.look.ensures.ready c.requires.whole;
  leaves = record {
    stays = between_same c.args.parts.now c.look.new.self c.look.ensures.same c.requires.can.0.few;
    opens = stays_opens _ _ _ (stays_same _ _ c.look.ensures.same);
    noted = tt;
    stops = tt;
  };
  spends = spends_breaks _ _ _ _ _ (omega arith) c.in-Err.ensures.failing;
}
