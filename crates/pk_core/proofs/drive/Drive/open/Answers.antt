use Rattle.std.proofs.Common.{ap, ◌∙◌, rules}
use Rattle.pk_nand.specs.BoardState.{BoardState}
use Rattle.pk_core.{proofs.Steadying.between_steady, proofs.Opening.agrees_behind, proofs.Opening.stands_behind, proofs.Opening.blocks_behind, proofs.Opening.closed_behind}
use Rattle.pk_parts.proofs.Halves.{is_whole}
use Rattle.pk_core.proofs.drive.Drive.open.Goals as goal

pub returns-in-Ok-over : goal.returns-in-Ok-over
returns-in-Ok-over g c =
    let o = c.in-Ok-over.ensures c.args.shape _ c.args.frames c.requires.ready.flash c.in-Ok.ensures.opened in
    let new = g.B.Nand.state c.scan.new.board in
    let agrees = agrees_behind c.args.shape c.args.frames _ (g.B.Nand.state c.args.board.now) new c.in-Ok-over.parts c.known.ensures c.requires.ready c.in-Ok.ensures.reads o in
    record {
      agrees = agrees;
      stands = stands_behind c.args.shape c.args.frames _ (g.B.Nand.state c.args.board.now) new c.in-Ok-over.parts c.known.ensures c.requires.ready c.in-Ok.ensures.reads o;
      steady = between_steady _ _ c.args.shape _ agrees (ap (λ (b : BoardState). b.shape) c.in-Ok.ensures.reads ∙ c.requires.ready.shape_is) c.known-in-Ok-over.ensures;
      blocks = blocks_behind c.args.shape c.args.frames _ (g.B.Nand.state c.args.board.now) new c.in-Ok-over.parts c.known.ensures c.requires.ready c.in-Ok.ensures.reads o;
      runs = o.runs;
      none = o.none_pending;
      fresh = o.takes_none;
      closed = o.none_open;
      whole = is_whole c.in-Ok-over.parts o.whole;
      closed_levels = closed_behind c.args.shape c.args.frames _ (g.B.Nand.state c.args.board.now) new c.in-Ok-over.parts c.known.ensures c.requires.ready c.in-Ok.ensures.reads o
          c.known-in-Ok-over.ensures;
      reads = search rules;
      err = search rules;
      rest = search rules;
    }

-- memory was missing after all reads
pub returns-in-Err-over-clause-err : goal.returns-in-Err-over-clause-err
returns-in-Err-over-clause-err g c = (_, c.in-Ok.ensures.reads)
