use Rattle.std.proofs.Common.{arith}
use Rattle.pk_model.proofs.Steps.{Step-says}
use Rattle.pk_log.proofs.Merging.{can_prepare, log_prepared}
use Rattle.pk_log.proofs.log.Log.prepare_root.Goals as goal

pub prepare_root-requires-clause-can : goal.prepare_root-requires-clause-can
prepare_root-requires-clause-can g c =
    let s = rw (← c.self.view_is) at c.requires.may in
    (s.0, s.1, s.2, rw c.shape.ensures (can_prepare _ (g.B.Nand.state c.args.board.now).pages s.0 s.1 s.2 s.3))

pub returns-clause-step : goal.returns-clause-step
returns-clause-step g c =
    let old = g.B.Nand.state c.args.board.now in
    let new = g.B.Nand.state c.prepare_root.new.board in
    let once = rw c.shape.ensures at c.prepare_root.ensures.step in
    let step = Step-says c.prepare_root.result _ _ _ _ _ 0 0 old new (omega arith)
    (λ u ended top found m may. log_prepared _ old new top found m c.prepare_root.new.installer may (ended top found m (can_prepare _ old.pages top found m may)))
    (λ broken top found m may. broken top found m (can_prepare _ old.pages top found m may)) once.step in
    rw (← c.self.view_is) (record { step = step; calls = once.calls; grows = once.grows })
