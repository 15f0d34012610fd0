use Rattle.std.proofs.Common.{ℕ, List, refl, subst}
use Rattle.pk_queue.specs.Queue.{bytes_of}
use Rattle.pk_serve.{specs.Serving.ServingBroken, specs.Serving.Flushed, proofs.Giving.commit-breaks, proofs.Giving.flushes, proofs.Giving.flush-breaks}
use Rattle.pk_serve.{proofs.Blaming.quiet-then, proofs.Blaming.quiet-flash, proofs.Parting.running-still, proofs.Parting.faulted-then}
use Rattle.pk_serve.proofs.step.flush.Goals as goal

pub returns-in-Err-clause-fails : goal.returns-in-Err-clause-fails
returns-in-Err-clause-fails g c =
    let e = c.in-Err.ensures in
    record {
      fault = record { fault = tt; cause = e.counts.stop refl };
      breaks = commit-breaks _ _ _ (bytes_of c.args.held.now.heads) (e.found.cuts_stopped refl) e.counts.read_faults e.counts.reads
          (e.counts.stop refl) (λ none. (e.answers.idle none).1) e.counts.program;
    }

pub returns-in-Err-give_all-clause-fails : goal.returns-in-Err-give_all-clause-fails
returns-in-Err-give_all-clause-fails g c =
    let e = c.in-Ok.ensures in
    let T : List (List ℕ) → Type 0 = λ t. ServingBroken (g.B.Nand.state c.args.board.now)
    (g.B.Nand.state c.give_all.new.board) (g.D.Engine.sight c.args.drive.now) (bytes_of t) c.in-Err-give_all.end in
    record {
      fault = faulted-then (g.B.Nand.state c.args.board.now) (g.B.Nand.state c.commit.new.board)
          (g.B.Nand.state c.give_all.new.board) c.in-Err-give_all.end (quiet-flash _ _ e.leaves.rest (e.counts.sound refl).2) c.in-Err-give_all.ensures.fault;
      breaks = subst T c.held-2.ensures
          (flush-breaks _ _ _ _ (e.found.cuts refl) (e.answers.stands refl) e.leaves.rest e.counts.read_faults (e.counts.sound refl).2 e.counts.reads e.counts.installs
          (λ none. (e.answers.idle none).1) e.counts.program (e.answers.none refl) _ (bytes_of c.held-2.result.now) c.in-Err-give_all.end c.in-Err-give_all.ensures.breaks);
    }

pub returns-clause-serves : goal.returns-clause-serves
returns-clause-serves g c =
    let e = c.in-Ok.ensures in
    let T : List (List ℕ) → Type 0 = λ t. Flushed (g.B.Nand.state c.args.board.now) (g.B.Nand.state c.give_all.new.board)
    (g.D.Engine.sight c.args.drive.now) (g.D.Engine.sight c.commit.new.self) (bytes_of t) in
    subst T c.held-2.ensures (flushes _ _ _ _ (e.found.cuts refl) (e.answers.stands refl) e.leaves.rest e.counts.read_faults (e.counts.sound refl).2 e.counts.reads e.counts.installs
    (λ none. (e.answers.idle none).1) e.counts.program (e.answers.none refl) _ (bytes_of c.held-2.result.now) c.in-Ok-give_all.ensures.posts)

pub returns-clause-runs_on : goal.returns-clause-runs_on
returns-clause-runs_on g c = let e = c.in-Ok.ensures in record {
  running = running-still (g.D.Engine.agrees c.commit.new.self) _ (g.B.Nand.state c.commit.new.board)
      (g.B.Nand.state c.give_all.new.board) c.in-Ok-give_all.ensures.only.flash (record { agrees = e.leaves.agrees refl; runs = e.leaves.stops });
  quiet = quiet-then _ _ _ (quiet-flash _ _ e.leaves.rest (e.counts.sound refl).2) c.in-Ok-give_all.ensures.quiet;
}
