use Rattle.std.proofs.Common.{◌+◌, arith, ◌∙◌, ap}
use Rattle.pk_nand.proofs.Writing.{shape_is, IsReady-program}
use Rattle.pk_pair.proofs.PairLemmas.{second_cut, second_reached, second_failed}
use Rattle.pk_pair.proofs.writing.write_second.Goals as goal

pub returns-in-Ok-clause-cuts : goal.returns-in-Ok-clause-cuts
returns-in-Ok-clause-cuts g c start so_far = rw c.in-Ok.ensures.ok (second_reached (g.B.Nand.state c.args.board.now) c.args.page c.args.bytes.now c.requires.even start so_far)

pub returns-in-Ok-clause-cut : goal.returns-in-Ok-clause-cut
returns-in-Ok-clause-cut g c start so_far = rw c.in-Ok.ensures.ok (second_cut (g.B.Nand.state c.args.board.now) c.args.page c.args.bytes.now c.requires.even start so_far)

pub returns-in-Ok-clause-ready : goal.returns-in-Ok-clause-ready
returns-in-Ok-clause-ready g c shape ready =
    rw c.in-Ok.ensures.ok (IsReady-program _ shape (c.args.page + 1) c.args.bytes.now (c.requires.full ∙ ap (λ s. s.page_bytes) (shape_is _ shape ready), λ i. omega (arith, c.type_inv.bytes i)) ready)

pub returns-in-Err-clause-cuts_err : goal.returns-in-Err-clause-cuts_err
returns-in-Err-clause-cuts_err g c start so_far = second_failed (g.B.Nand.state c.args.board.now) c.args.page c.args.bytes.now c.requires.even start so_far _ c.in-Err.ensures.err
