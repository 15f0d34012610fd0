use Rattle.pk_compact.proofs.Growing.{prepare_step}
use Rattle.pk_compact.proofs.roots.prepare_root.Goals as goal

pub returns : goal.returns
returns g c =
    let old = g.B.Nand.state c.args.board.now in
    let new = g.B.Nand.state c.erase.new.board in
    record {
      step = prepare_step c.args.shape.now c.known.ensures c.args.installer.now c.erase.new.self old new c.requires.ready
          c.erase.ensures.ready c.erase.result c.erase.ensures.erased c.erase.ensures.stopped c.erase.ensures.failed;
    }
