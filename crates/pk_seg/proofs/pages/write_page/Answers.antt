use Rattle.std.proofs.Common.{arith, ◌∙◌, ap}
use Rattle.pk_nand.proofs.Writing.{shape_is, IsReady-program}
use Rattle.pk_seg.proofs.Programs.{one_program, one_failed, IsReady-failed}
use Rattle.pk_seg.proofs.pages.write_page.Goals as goal

pub returns-in-Ok-clause-cuts : goal.returns-in-Ok-clause-cuts
returns-in-Ok-clause-cuts g c = rw c.in-Ok.ensures.ok (one_program (g.B.Nand.state c.args.board.now) c.args.page c.args.buf.now)

pub returns-in-Ok-clause-ready : goal.returns-in-Ok-clause-ready
returns-in-Ok-clause-ready g c shape ready =
    rw c.in-Ok.ensures.ok (IsReady-program _ shape c.args.page c.args.buf.now (c.requires.full ∙ ap (λ s. s.page_bytes) (shape_is _ shape ready), λ i. omega (arith, c.type_inv.buf i)) ready)

pub returns-in-Err-clause-cuts_err : goal.returns-in-Err-clause-cuts_err
returns-in-Err-clause-cuts_err g c = one_failed _ c.args.page c.args.buf.now _ c.in-Err.ensures.err

pub returns-in-Err-clause-ready : goal.returns-in-Err-clause-ready
returns-in-Err-clause-ready g c shape ready =
    IsReady-failed _ _ shape c.args.page c.args.buf.now (c.requires.full ∙ ap (λ s. s.page_bytes) (shape_is _ shape ready), λ i. omega (arith, c.type_inv.buf i)) c.in-Err.ensures.err ready
