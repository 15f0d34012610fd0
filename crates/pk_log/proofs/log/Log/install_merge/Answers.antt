use Rattle.std.proofs.Common.{rules}
use Rattle.pk_log.{proofs.Merging.can_merge, proofs.Merging.log_merged, proofs.Saying.says_ended, proofs.Saying.says_broken}
use Rattle.pk_log.proofs.log.Log.install_merge.Goals as goal

pub install_merge-requires-clause-can : goal.install_merge-requires-clause-can
install_merge-requires-clause-can g c =
    let s = rw (← c.self.view_is) at c.requires.may in
    (s.0, s.1, s.2, can_merge _ (g.B.Nand.state c.args.board.now).pages s.0 s.1 s.2 c.args.level c.args.count c.args.taken.now s.3)

pub returns-in-Ok-clause-step : goal.returns-in-Ok-clause-step
returns-in-Ok-clause-step g c =
    let old = g.B.Nand.state c.args.board.now in
    let new = g.B.Nand.state c.install_merge.new.board in
    rw (← c.self.view_is) (says_ended _ _ _ _ _ _ old new _ _
    (λ ended top found m may. log_merged _ old new top found m c.args.level c.args.count c.args.taken.now
    c.install_merge.new.root.root c.install_merge.new.installer c.empty_merged.new.frozen _ may
    (ended top found m (can_merge _ old.pages top found m c.args.level c.args.count c.args.taken.now may)) c.empty_merged.ensures (search rules)) c.in-Ok.ensures.step)

pub returns-in-Err-clause-step : goal.returns-in-Err-clause-step
returns-in-Err-clause-step g c =
    let old = g.B.Nand.state c.args.board.now in
    let new = g.B.Nand.state c.install_merge.new.board in
    rw (← c.self.view_is) (says_broken _ _ _ _ _ _ old new _
    (λ broken top found m may. broken top found m (can_merge _ old.pages top found m c.args.level c.args.count c.args.taken.now may)) c.in-Err.ensures.step)
