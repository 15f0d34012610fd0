use Rattle.pk_changes.{proofs.Writing.place_step, proofs.PlacedStays.place_stays, proofs.Programming.place_programs, proofs.Filling.few_placed}
use Rattle.pk_background.proofs.Results.{on_ok}
use Rattle.pk_changes.proofs.placing.place_value.Goals as goal

pub returns-clause-step : goal.returns-clause-step
returns-clause-step g c =
    let r = rw (← c.parts.view_is) at c.requires in
    let w = rw (c.shape-shape.ensures, ← c.parts.view_is) at c.write_next.ensures in
    rw (← c.parts.view_is) (place_step c.write_next.result _ c.args.key.now c.args.value.now (g.B.Nand.state c.args.board.now) c.write_next.new.values c.write_next.new.pool
    (g.B.Nand.state c.write_next.new.board) w.places w.fails w.stopped c.known.ensures r.may w.ready r.room c.bytes.ensures.key r.short)

pub returns-clause-opens : goal.returns-clause-opens
returns-clause-opens g c =
    let r = rw (← c.parts.view_is) at c.requires in
    let w = rw (c.shape-shape.ensures, ← c.parts.view_is) at c.write_next.ensures in
    rw (← c.parts.view_is) (on_ok _ _ c.write_next.result
    (λ page is. place_stays _ c.args.key.now c.args.value.now (g.B.Nand.state c.args.board.now) page c.write_next.new.values c.write_next.new.pool
    (g.B.Nand.state c.write_next.new.board) is r.may.stands) w.places)

pub returns-clause-programs : goal.returns-clause-programs
returns-clause-programs g c =
    let w = rw (c.shape-shape.ensures, ← c.parts.view_is) at c.write_next.ensures in
    rw (← c.parts.view_is) (on_ok _ _ c.write_next.result
    (λ page is. place_programs _ c.args.key.now c.args.value.now _ _
    (g.B.Nand.state c.args.board.now) page c.write_next.new.values c.write_next.new.pool (g.B.Nand.state c.write_next.new.board) is) w.places)

pub returns-clause-calls : goal.returns-clause-calls
returns-clause-calls g c =
    let w = rw (c.shape-shape.ensures, ← c.parts.view_is) at c.write_next.ensures in
    rw (← c.parts.view_is) (few_placed _ c.args.key.now c.args.value.now _ _ (g.B.Nand.state c.args.board.now)
    (g.B.Nand.state c.write_next.new.board) c.write_next.result c.write_next.new.values c.write_next.new.pool w.places w.fails)
