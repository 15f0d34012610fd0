use Rattle.pk_schedule.proofs.Calling.{steps_on}
use Rattle.pk_schedule.proofs.Stepping.{level_within, ran, goes_by, completes_by, unmoved_by, stands_by, broken_by, ok_calls, failed_calls, fault_is, other_answer}
use Rattle.pk_schedule.proofs.schedule.Schedule.run_job.Goals as goal

pub source_of-source-requires : goal.source_of-source-requires
source_of-source-requires g c =
    let s = c.requires.may in
    level_within _ s.0 (g.B.Nand.state c.args.board.now) s.1 s.2 s.3 s.4 c.known.ensures c.requires.ready c.args.level c.requires.phase

pub run-target-requires : goal.run-target-requires
run-target-requires g c =
    let s = c.requires.may in
    level_within _ s.0 (g.B.Nand.state c.args.board.now) s.1 s.2 s.3 s.4 c.known.ensures c.requires.ready c.args.level c.requires.phase

pub step-requires-clause-running : goal.step-requires-clause-running
step-requires-clause-running g c =
    let s = rw (← c.self.view_is) at c.requires.may in
    let phase = rw (← c.self.view_is) at c.requires.phase in (
      _,
      _,
      ran _ s.0 (g.B.Nand.state c.args.board.now) s.1 s.2 s.3 s.4 c.known.ensures c.requires.ready c.args.level phase c.source_of-source.result
          (c.source_of-source.ensures c.args.arena.now c.args.pool.now c.args.self.now) c.run-target.result.now c.run-target.ensures.run,
    )

pub returns-in-Ok-true-clause-steps : goal.returns-in-Ok-true-clause-steps
returns-in-Ok-true-clause-steps g c =
    rw (← c.self.view_is) (steps_on _ (g.B.Nand.state c.args.board.now) _ (g.B.Nand.state c.step.new.board) (λ frames top found m may.
    completes_by _ frames (g.B.Nand.state c.args.board.now) top found m may c.known.ensures c.requires.ready c.args.level
    (rw (← c.self.view_is) at c.requires.phase) c.source_of-source.result (c.source_of-source.ensures c.args.arena.now c.args.pool.now c.args.self.now)
    c.run-target.result.now c.run-target.ensures.run (g.B.Nand.state c.step.new.board) c.step.new.self c.step.new.pool c.step.new.arena
    c.in-Ok-true.ensures.running c.in-Ok-true.ensures.steps c.in-Ok-true.ensures.job c.in-Ok-true.ensures.others c.in-Ok-true.ensures.leases c.in-Ok-true.ensures.cuts
    c.in-Ok-true.field-0 c.in-Ok-true.field-0-test c.in-Ok-true.ensures.whole c.in-Ok-true.ensures.lowers))

pub returns-in-Ok-false-clause-steps : goal.returns-in-Ok-false-clause-steps
returns-in-Ok-false-clause-steps g c =
    rw (← c.self.view_is) (steps_on _ (g.B.Nand.state c.args.board.now) _ (g.B.Nand.state c.step.new.board) (λ frames top found m may.
    goes_by _ frames (g.B.Nand.state c.args.board.now) top found m may c.known.ensures c.requires.ready c.args.level
    (rw (← c.self.view_is) at c.requires.phase) c.source_of-source.result (c.source_of-source.ensures c.args.arena.now c.args.pool.now c.args.self.now)
    c.run-target.result.now c.run-target.ensures.run (g.B.Nand.state c.step.new.board) c.step.new.self c.step.new.pool c.step.new.arena
    c.in-Ok-false.ensures.running c.in-Ok-false.ensures.steps c.in-Ok-false.ensures.job c.in-Ok-false.ensures.others c.in-Ok-false.ensures.leases c.in-Ok-false.ensures.cuts
    c.in-Ok-false.field-0 c.in-Ok-false.ensures.done c.in-Ok-false.field-0-test c.in-Ok-false.ensures.lowers))

pub returns-in-Ok-true-clause-calls : goal.returns-in-Ok-true-clause-calls
returns-in-Ok-true-clause-calls g c =
    let s = rw (← c.self.view_is) at c.requires.may in
    ok_calls _ s.0 (g.B.Nand.state c.args.board.now) s.1 s.2 s.3 s.4 c.known.ensures c.requires.ready c.args.level (rw (← c.self.view_is) at c.requires.phase)
    (g.B.Nand.state c.step.new.board) c.in-Ok-true.ensures.cuts c.in-Ok-true.ensures.ready c.in-Ok-true.ensures.calls c.in-Ok-true.ensures.only_flash

pub returns-in-Ok-false-clause-calls : goal.returns-in-Ok-false-clause-calls
returns-in-Ok-false-clause-calls g c =
    let s = rw (← c.self.view_is) at c.requires.may in
    ok_calls _ s.0 (g.B.Nand.state c.args.board.now) s.1 s.2 s.3 s.4 c.known.ensures c.requires.ready c.args.level (rw (← c.self.view_is) at c.requires.phase)
    (g.B.Nand.state c.step.new.board) c.in-Ok-false.ensures.cuts c.in-Ok-false.ensures.ready c.in-Ok-false.ensures.calls c.in-Ok-false.ensures.only_flash

pub returns-in-Err-clause-unread : goal.returns-in-Err-clause-unread
returns-in-Err-clause-unread g c =
    λ e.
    let s = rw (← c.self.view_is) at c.requires.may in
    let is = fault_is c.in-Err.fault _ e in
    let read = c.in-Err.ensures.read (other_answer c.in-Err.fault _ e) in
    let only = read.2 in
    record {
      unmoved = rw (← c.self.view_is)
          (unmoved_by _ s.0 (g.B.Nand.state c.args.board.now) s.1 s.2 s.3 s.4 c.known.ensures c.requires.ready c.args.level (rw (← c.self.view_is) at c.requires.phase) c.source_of-source.result
          (c.source_of-source.ensures c.args.arena.now c.args.pool.now c.args.self.now) c.run-target.result.now c.run-target.ensures.run
          (g.B.Nand.state c.step.new.board) c.step.new.self c.step.new.pool c.step.new.arena
          (c.in-Err.ensures.again (other_answer c.in-Err.fault _ e)) c.in-Err.ensures.kept c.in-Err.fault is c.in-Err.ensures.fails c.in-Err.ensures.job only);
      again = λ frames top found m may.
          (stands_by _ frames (g.B.Nand.state c.args.board.now) top found m (rw (← c.self.view_is) at may) c.known.ensures c.requires.ready c.args.level
          (rw (← c.self.view_is) at c.requires.phase) c.source_of-source.result
          (c.source_of-source.ensures c.args.arena.now c.args.pool.now c.args.self.now) c.run-target.result.now c.run-target.ensures.run
          (g.B.Nand.state c.step.new.board) c.step.new.self c.step.new.pool c.step.new.arena (c.in-Err.ensures.again (other_answer c.in-Err.fault _ e)) c.in-Err.ensures.kept c.in-Err.fault
          (fault_is c.in-Err.fault _ e) c.in-Err.ensures.fails c.in-Err.ensures.job (c.in-Err.ensures.read (other_answer c.in-Err.fault _ e)).2);
      read = read.0;
      flash = read.1;
      only = only;
    }

pub returns-in-Err-clause-broken : goal.returns-in-Err-clause-broken
returns-in-Err-clause-broken g c =
    λ e. (
      (λ frames top found m may. broken_by _ frames (g.B.Nand.state c.args.board.now) top found m (rw (← c.self.view_is) at may) c.known.ensures c.requires.ready c.args.level
          (rw (← c.self.view_is) at c.requires.phase) c.source_of-source.result (c.source_of-source.ensures c.args.arena.now c.args.pool.now c.args.self.now) c.run-target.result.now
          c.run-target.ensures.run (g.B.Nand.state c.step.new.board) c.step.new.self.merger c.in-Err.fault (fault_is c.in-Err.fault _ e) c.in-Err.ensures.fails),
      c.in-Err.ensures.stopped (other_answer c.in-Err.fault _ e),
    )

pub returns-in-Err-clause-calls : goal.returns-in-Err-clause-calls
returns-in-Err-clause-calls g c =
    let s = rw (← c.self.view_is) at c.requires.may in
    failed_calls _ s.0 (g.B.Nand.state c.args.board.now) s.1 s.2 s.3 s.4 c.known.ensures c.requires.ready c.args.level (rw (← c.self.view_is) at c.requires.phase)
    (g.B.Nand.state c.step.new.board) c.in-Err.fault (λ e. (c.in-Err.ensures.read e).2) c.in-Err.ensures.went c.in-Err.ensures.ready c.in-Err.ensures.calls c.in-Err.ensures.only_flash
