use Rattle.std.proofs.Common.{inl, inr, sym, ◌∙◌}
use Rattle.pk_queue.specs.Queue.{bytes_of}
use Rattle.pk_serve.{specs.declared.end.End.TheVariants.Truncated, specs.declared.end.End.TheVariants.Input, proofs.Parting.runs_on-then}
use Rattle.pk_serve.proofs.Nexting.{InputAdvances-one, InputFails-one, BreaksOff-value, FailsAt-value, worn_is, Quits-entry}
use Rattle.pk_serve.proofs.Blaming.{quiet-entry, quiet-value, quiet-no_value, blames-cause, blames-then, blames-value, blames-entry}
use Rattle.pk_serve.proofs.serve.serve_next.Goals as goal

pub returns-in-Ok-serve_one-clause-advances : goal.returns-in-Ok-serve_one-clause-advances
returns-in-Ok-serve_one-clause-advances g c =
    let valued = rw c.in-Some.is at c.in-Ok-take_value.ensures.ok in
    InputAdvances-one _ _ _ _ c.in-Ok.ensures.ok c.in-Ok.ensures.len c.of-request.result c.of-request.ensures
    _ _ valued _ _ _ _ c.in-Ok-serve_one.ensures.rest.input _ _ c.in-Ok-serve_one.ensures.serves

pub returns-in-Err-serve_one-clause-quits : goal.returns-in-Err-serve_one-clause-quits
returns-in-Err-serve_one-clause-quits g c =
    let valued = rw c.in-Some.is at c.in-Ok-take_value.ensures.ok in
    inr (InputFails-one _ _ _ _ c.in-Ok.ensures.ok c.in-Ok.ensures.len c.of-request.result c.of-request.ensures _ _ valued
    _ _ _ _ c.in-Err-serve_one.ensures.rest.input _ c.in-Err-serve_one.ensures.fault.fault c.in-Err-serve_one.ensures.stops)

pub returns-in-None-clause-quits : goal.returns-in-None-clause-quits
returns-in-None-clause-quits g c =
    let none = rw c.in-None.is at c.in-Ok-take_value.ensures.ok in
    let worn = worn_is (g.D.Engine.agrees c.args.drive.now) (g.B.Nand.state c.args.board.now) c.args.shape.now _ c.requires.buffers.room.shape_is c.requires.running.agrees
    (λ s f h. c.is_worn-worn.ensures s f h c.requires.running.runs) in
    inl (BreaksOff-value _ _ _ _ c.in-Ok.ensures.ok c.in-Ok.ensures.len c.of-request.result c.of-request.ensures none, sym worn ∙ c.in-Ok.ensures.taken)

pub returns-in-Err-take_value-clause-quits : goal.returns-in-Err-take_value-clause-quits
returns-in-Err-take_value-clause-quits g c =
    let worn = worn_is (g.D.Engine.agrees c.args.drive.now) (g.B.Nand.state c.args.board.now) c.args.shape.now _ c.requires.buffers.room.shape_is c.requires.running.agrees
    (λ s f h. c.is_worn-worn.ensures s f h c.requires.running.runs) in
    inl (FailsAt-value _ _ _ _ c.in-Ok.ensures.ok c.in-Ok.ensures.len c.of-request.result c.of-request.ensures c.in-Err-take_value.ensures.err, λ _. sym worn ∙ c.in-Ok.ensures.taken)

pub returns-in-Err-clause-quits : goal.returns-in-Err-clause-quits
returns-in-Err-clause-quits g c =
    let worn = worn_is (g.D.Engine.agrees c.args.drive.now) (g.B.Nand.state c.args.board.now) c.args.shape.now _ c.requires.buffers.room.shape_is c.requires.running.agrees
    (λ s f h. c.is_worn-worn.ensures s f h c.requires.running.runs) in
    Quits-entry _ _ _ (bytes_of c.args.held.now.heads) c.args.taken c.in-Err.end _ worn c.in-Err.ensures.err

pub returns-in-Ok-serve_one-clause-runs_on : goal.returns-in-Ok-serve_one-clause-runs_on
returns-in-Ok-serve_one-clause-runs_on g c =
    let valued = rw c.in-Some.is at c.in-Ok-take_value.ensures.ok in
    let agreeing = g.D.Engine.agrees c.serve_one.new.drive in
    runs_on-then agreeing _ (g.B.Nand.state c.args.board.now) (g.B.Nand.state c.take_entry.new.board) (g.B.Nand.state c.serve_one.new.board)
    (quiet-entry (g.B.Nand.state c.args.board.now) (g.B.Nand.state c.take_entry.new.board) c.in-Ok.ensures.ok).1
    (runs_on-then agreeing _ (g.B.Nand.state c.take_entry.new.board) (g.B.Nand.state c.take_value.new.board) (g.B.Nand.state c.serve_one.new.board)
    (quiet-value (g.B.Nand.state c.take_entry.new.board) (g.B.Nand.state c.take_value.new.board) valued).1 c.in-Ok-serve_one.ensures.runs_on)

pub returns-in-Err-serve_one-clause-blames : goal.returns-in-Err-serve_one-clause-blames
returns-in-Err-serve_one-clause-blames g c =
    let valued = rw c.in-Some.is at c.in-Ok-take_value.ensures.ok in
    let entered = quiet-entry (g.B.Nand.state c.args.board.now) (g.B.Nand.state c.take_entry.new.board) c.in-Ok.ensures.ok in
    let taken = quiet-value (g.B.Nand.state c.take_entry.new.board) (g.B.Nand.state c.take_value.new.board) valued in
    let caused = blames-cause (g.B.Nand.state c.take_value.new.board) (g.B.Nand.state c.serve_one.new.board) c.in-Err-serve_one.end c.in-Err-serve_one.ensures.fault.cause in
    blames-then (g.B.Nand.state c.args.board.now) (g.B.Nand.state c.take_entry.new.board) (g.B.Nand.state c.serve_one.new.board) c.in-Err-serve_one.end entered.0 entered.1
    (blames-then (g.B.Nand.state c.take_entry.new.board) (g.B.Nand.state c.take_value.new.board) (g.B.Nand.state c.serve_one.new.board) c.in-Err-serve_one.end taken.0 taken.1 caused)

pub returns-in-None-clause-blames : goal.returns-in-None-clause-blames
returns-in-None-clause-blames g c =
    let none = rw c.in-None.is at c.in-Ok-take_value.ensures.ok in
    let entered = quiet-entry (g.B.Nand.state c.args.board.now) (g.B.Nand.state c.take_entry.new.board) c.in-Ok.ensures.ok in
    blames-then (g.B.Nand.state c.args.board.now) (g.B.Nand.state c.take_entry.new.board) (g.B.Nand.state c.take_value.new.board) Truncated entered.0 entered.1
    (quiet-no_value (g.B.Nand.state c.take_entry.new.board) (g.B.Nand.state c.take_value.new.board) none)

pub returns-in-Err-take_value-clause-blames : goal.returns-in-Err-take_value-clause-blames
returns-in-Err-take_value-clause-blames g c =
    let entered = quiet-entry (g.B.Nand.state c.args.board.now) (g.B.Nand.state c.take_entry.new.board) c.in-Ok.ensures.ok in
    blames-then (g.B.Nand.state c.args.board.now) (g.B.Nand.state c.take_entry.new.board) (g.B.Nand.state c.take_value.new.board) Input entered.0 entered.1
    (blames-value (g.B.Nand.state c.take_entry.new.board) (g.B.Nand.state c.take_value.new.board) c.in-Err-take_value.ensures.err)

pub returns-in-Err-clause-blames : goal.returns-in-Err-clause-blames
returns-in-Err-clause-blames g c = blames-entry (g.B.Nand.state c.args.board.now) (g.B.Nand.state c.take_entry.new.board) _ c.in-Err.end c.in-Err.ensures.err
