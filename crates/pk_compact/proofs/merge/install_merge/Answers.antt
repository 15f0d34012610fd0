use Rattle.std.proofs.Common.{subst}
use Rattle.pk_base.specs.Shape.{Shape, IsShape}
use Rattle.pk_compact.proofs.MergeRoot.{room_enough, can_install, merge_step}
use Rattle.pk_compact.proofs.merge.install_merge.Goals as goal

pub follow-requires-clause-room : goal.follow-requires-clause-room
follow-requires-clause-room g c =
    let can = c.requires.can in
    room_enough c.args.root.now c.args.installer.now c.args.level c.args.count c.args.taken.now
    (g.B.Nand.state c.args.board.now) (subst (λ (s : Shape). IsShape s) c.shape.ensures c.known.ensures) can.0 can.1 can.2 can.3

pub install_root-requires-clause-can : goal.install_root-requires-clause-can
install_root-requires-clause-can g c =
    can_install c.args.root.now c.args.installer.now c.args.level c.args.count c.args.taken.now (g.B.Nand.state c.args.board.now)
    (subst (λ (s : Shape). IsShape s) c.shape.ensures c.known.ensures) c.follow.new.root c.follow.ensures c.requires.can

pub returns-clause-step : goal.returns-clause-step
returns-clause-step g c =
    merge_step c.args.root.now c.args.installer.now c.args.level c.args.count c.args.taken.now (g.B.Nand.state c.args.board.now)
    (subst (λ (s : Shape). IsShape s) c.shape.ensures c.known.ensures) c.follow.new.root c.follow.ensures
    c.install_root.new.installer (g.B.Nand.state c.install_root.new.board) c.install_root.result c.install_root.ensures.step
