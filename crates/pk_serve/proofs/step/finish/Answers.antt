use Rattle.std.proofs.Common.{ap}
use Rattle.pk_queue.specs.Queue.{bytes_of}
use Rattle.pk_serve.{proofs.Finishing.keeps_held, proofs.Finishing.breaks_held, proofs.Finishing.posts_all, proofs.Finishing.breaks_head, proofs.Finishing.breaks_data, proofs.Blaming.quiet-then}
use Rattle.pk_serve.proofs.Parting.{running-still, faulted-then}
use Rattle.pk_serve.proofs.step.finish.Goals as goal

pub returns-then-waits-clause-keeps : goal.returns-then-waits-clause-keeps
returns-then-waits-clause-keeps g c =
    keeps_held _ _ c.args.held.now.heads c.hold.new.self.heads c.args.head c.args.bytes.now (c.requires.bare c.if-waits.true) (ap (λ q. q.heads) c.hold.ensures)

pub returns-in-Err-clause-fails : goal.returns-in-Err-clause-fails
returns-in-Err-clause-fails g c = record {
  fault = c.in-Err.ensures.fails.fault;
  breaks = breaks_held _ _ _ (g.D.Engine.sight c.flush.new.drive) (bytes_of c.args.held.now.heads) c.args.head c.args.bytes.now c.in-Err.end c.in-Err.ensures.fails.breaks;
}

pub returns-in-Err-give-clause-fails : goal.returns-in-Err-give-clause-fails
returns-in-Err-give-clause-fails g c =
    let e = c.in-Ok.ensures in
    record {
      fault = faulted-then (g.B.Nand.state c.args.board.now) (g.B.Nand.state c.flush.new.board) (g.B.Nand.state c.give.new.board) c.in-Err-give.end e.runs_on.quiet c.in-Err-give.ensures.fault;
      breaks = breaks_head _ _ _ _ (bytes_of c.args.held.now.heads) c.args.head c.args.bytes.now e.serves e.none _ c.in-Err-give.end c.in-Err-give.ensures.breaks;
    }

pub returns-in-Ok-give-2-clause-keeps : goal.returns-in-Ok-give-2-clause-keeps
returns-in-Ok-give-2-clause-keeps g c =
    let e = c.in-Ok.ensures in
    posts_all _ _ _ _ (bytes_of c.args.held.now.heads) c.args.head c.args.bytes.now e.serves e.none _ _ c.in-Ok-give.ensures.posts c.in-Ok-give-2.ensures.posts _ (ap (λ q. q.heads) e.held)

pub returns-in-Err-give-2-clause-fails : goal.returns-in-Err-give-2-clause-fails
returns-in-Err-give-2-clause-fails g c =
    let e = c.in-Ok.ensures in
    record {
      fault = faulted-then (g.B.Nand.state c.args.board.now) (g.B.Nand.state c.give.new.board)
          (g.B.Nand.state c.give-2.new.board) c.in-Err-give-2.end (quiet-then _ _ _ e.runs_on.quiet c.in-Ok-give.ensures.quiet)
          c.in-Err-give-2.ensures.fault;
      breaks = breaks_data _ _ _ _ (bytes_of c.args.held.now.heads) c.args.head c.args.bytes.now e.serves e.none _ _ c.in-Err-give-2.end c.in-Ok-give.ensures.posts c.in-Err-give-2.ensures.breaks;
    }

pub returns-in-Ok-give-2-clause-runs_on : goal.returns-in-Ok-give-2-clause-runs_on
returns-in-Ok-give-2-clause-runs_on g c =
    let agreeing = g.D.Engine.agrees c.flush.new.drive in
    let drive = g.D.Engine.sight c.flush.new.drive in
    record {
      running = running-still agreeing drive (g.B.Nand.state c.give.new.board) (g.B.Nand.state c.give-2.new.board) c.in-Ok-give-2.ensures.only.flash
          (running-still agreeing drive (g.B.Nand.state c.flush.new.board) (g.B.Nand.state c.give.new.board) c.in-Ok-give.ensures.only.flash c.in-Ok.ensures.runs_on.running);
      quiet = quiet-then _ _ _ (quiet-then _ _ _ c.in-Ok.ensures.runs_on.quiet c.in-Ok-give.ensures.quiet) c.in-Ok-give-2.ensures.quiet;
    }
