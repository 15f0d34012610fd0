use Rattle.std.proofs.Common.{ℕ, inr, subst}
use Rattle.pk_changes.{specs.Placing.Reserves, proofs.Filling.places_value}
use Rattle.pk_changes.proofs.placing.write_next.Goals as goal

pub returns-in-Ok-write_value-clause-places : goal.returns-in-Ok-write_value-clause-places
returns-in-Ok-write_value-clause-places g c =
    let r = c.in-Ok.ensures in
    let w = c.in-Ok-write_value.ensures in
    places_value c.args.shape.now c.args.key.now c.args.value.now c.args.values.now c.args.pool.now
    (g.B.Nand.state c.args.board.now) c.in-Ok.page c.charge-count.result c.reserve.new.self c.wrote.new.self c.reserve.new.pool
    (g.B.Nand.state c.reserve.new.board) (g.B.Nand.state c.write_value.new.board) c.charge-count.ensures.value
    (record { taken = r.cases; pages = r.reserved; ready = c.reserve.ensures.ready; free = r.free; placed = c.reserve.ensures.placed })
    c.wrote.ensures.written c.wrote.ensures.in_open c.wrote.ensures.placed w.stored w.ok w.cuts

pub returns-in-Err-write_value-clause-fails : goal.returns-in-Err-write_value-clause-fails
returns-in-Err-write_value-clause-fails g c =
    let r = c.in-Ok.ensures in
    inr (record {
      page = c.in-Ok.page;
      values = c.reserve.new.self;
      pool = c.reserve.new.pool;
      between = g.B.Nand.state c.reserve.new.board;
      reserved =
          subst (λ (n : ℕ). Reserves c.args.shape.now c.args.values.now c.args.pool.now
          (g.B.Nand.state c.args.board.now) c.in-Ok.page n c.reserve.new.self c.reserve.new.pool (g.B.Nand.state c.reserve.new.board)) c.charge-count.ensures.value
          (record { taken = r.cases; pages = r.reserved; ready = c.reserve.ensures.ready; free = r.free; placed = c.reserve.ensures.placed });
      failed = c.in-Err-write_value.ensures.err;
    })
