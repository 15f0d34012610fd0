use Rattle.std.proofs.Common.{refl}
use Rattle.pk_root.proofs.Installs.{erase_done, erase_reaches, erase_went, erase_left, erase_fits, IsReady-erase_failed}
use Rattle.pk_seg.proofs.ErasedBlocks.{ready_erased}
use Rattle.pk_root.proofs.installer.erase_other.Goals as goal

pub returns-in-Ok-clause-erases : goal.returns-in-Ok-clause-erases
returns-in-Ok-clause-erases g c =
    let f = c.requires.fits in
    rw (c.in-Ok.ensures.ok, c.block_pages.ensures.value, c.block_pages-in-Ok.ensures.value) (record {
      beside = c.args.beside;
      was = refl;
      erase = refl;
      then_next = refl;
      fits = erase_fits c.root.ensures.erase c.args.shape.now (g.B.Nand.state c.args.board.now) c.args.beside f.0 c.known.ensures c.requires.ready f.1;
      cuts = erase_reaches c.root.ensures.erase c.args.shape.now (g.B.Nand.state c.args.board.now) c.args.beside f.0 c.known.ensures c.requires.ready f.1;
    })

pub returns-in-Ok-clause-behind : goal.returns-in-Ok-clause-behind
returns-in-Ok-clause-behind g c =
    let f = c.requires.fits in
    rw (c.in-Ok.ensures.ok, c.block_pages.ensures.value)
    ((erase_done c.root.ensures.erase c.args.shape.now (g.B.Nand.state c.args.board.now) c.args.beside f.0 c.known.ensures c.requires.ready f.1).behind)

pub returns-in-Ok-clause-ready : goal.returns-in-Ok-clause-ready
returns-in-Ok-clause-ready g c = rw (c.in-Ok.ensures.ok, c.block_pages.ensures.value) (ready_erased (g.B.Nand.state c.args.board.now) c.args.shape.now _ c.requires.ready)

pub returns-in-Err-clause-failed : goal.returns-in-Err-clause-failed
returns-in-Err-clause-failed g c =
    let f = c.requires.fits in
    let failed = rw c.block_pages.ensures.value at c.in-Err.ensures.err in
    record {
      beside = c.args.beside;
      was = refl;
      failed = failed;
      cuts = erase_went c.root.ensures.erase c.args.shape.now (g.B.Nand.state c.args.board.now) c.args.beside f.0 c.known.ensures c.requires.ready f.1 (g.B.Nand.state c.erase.new.self) failed;
    }

pub returns-in-Err-clause-behind : goal.returns-in-Err-clause-behind
returns-in-Err-clause-behind g c =
    let f = c.requires.fits in
    (erase_left c.root.ensures.erase c.args.shape.now (g.B.Nand.state c.args.board.now) c.args.beside f.0 c.known.ensures c.requires.ready f.1
    (g.B.Nand.state c.erase.new.self) (rw c.block_pages.ensures.value at c.in-Err.ensures.err)).behind

pub returns-in-Err-clause-ready : goal.returns-in-Err-clause-ready
returns-in-Err-clause-ready g c = IsReady-erase_failed (g.B.Nand.state c.args.board.now) (g.B.Nand.state c.erase.new.self) c.args.shape.now _ c.in-Err.ensures.err c.requires.ready
