use Rattle.std.proofs.Common.{arith, ◌∙◌, ap}
use Rattle.pk_nand.proofs.Writing.{shape_is, IsReady-program}
use Rattle.pk_pair.proofs.PairLemmas.{first_cut, first_reached, first_failed, second_next}
use Rattle.pk_pair.proofs.writing.write_first.Goals as goal

pub returns-in-Ok-clause-order : goal.returns-in-Ok-clause-order
returns-in-Ok-clause-order g c =
    let exists = c.requires.exists in
    rw c.in-Ok.ensures.ok (second_next (g.B.Nand.state c.args.board.now) c.args.page c.args.bytes.now c.requires.even c.requires.room c.requires.order (omega (arith, exists)))

pub returns-in-Ok-clause-cuts : goal.returns-in-Ok-clause-cuts
returns-in-Ok-clause-cuts g c = rw c.in-Ok.ensures.ok (first_reached (g.B.Nand.state c.args.board.now) c.args.page c.args.bytes.now c.requires.even c.requires.room c.requires.order)

pub returns-in-Ok-clause-cut : goal.returns-in-Ok-clause-cut
returns-in-Ok-clause-cut g c = rw c.in-Ok.ensures.ok (first_cut (g.B.Nand.state c.args.board.now) c.args.page c.args.bytes.now c.requires.even c.requires.room c.requires.order)

pub returns-in-Ok-clause-ready : goal.returns-in-Ok-clause-ready
returns-in-Ok-clause-ready g c shape ready =
    rw c.in-Ok.ensures.ok (IsReady-program _ shape c.args.page c.args.bytes.now (c.requires.full ∙ ap (λ s. s.page_bytes) (shape_is _ shape ready), λ i. omega (arith, c.type_inv.bytes i)) ready)

pub returns-in-Err-clause-cuts_err : goal.returns-in-Err-clause-cuts_err
returns-in-Err-clause-cuts_err g c = first_failed (g.B.Nand.state c.args.board.now) c.args.page c.args.bytes.now c.requires.even c.requires.room c.requires.order _ c.in-Err.ensures.err
