use Rattle.pk_nand.specs.Pairs.{IsPairCut}
use Rattle.pk_pair.proofs.PairLemmas.{reached_both, went_both, pages_of}
use Rattle.pk_pair.proofs.writing.write_pair.Goals as goal

pub returns-in-Ok-write_second-clause-cuts : goal.returns-in-Ok-write_second-clause-cuts
returns-in-Ok-write_second-clause-cuts g c =
    let start = pages_of (g.B.Nand.state c.args.board.now) in
    reached_both (g.B.Nand.state c.args.board.now) (g.B.Nand.state c.write_first.new.board) (g.B.Nand.state c.write_second.new.board) (λ flash. IsPairCut c.args.page c.args.bytes.now start flash)
    c.in-Ok.ensures.cuts (c.in-Ok-write_second.ensures.cuts start c.in-Ok.ensures.cut)

pub returns-in-Err-write_second-clause-cuts_err : goal.returns-in-Err-write_second-clause-cuts_err
returns-in-Err-write_second-clause-cuts_err g c =
    let start = pages_of (g.B.Nand.state c.args.board.now) in
    went_both (g.B.Nand.state c.args.board.now) (g.B.Nand.state c.write_first.new.board) (g.B.Nand.state c.write_second.new.board) (λ flash. IsPairCut c.args.page c.args.bytes.now start flash)
    c.in-Ok.ensures.cuts (c.in-Err-write_second.ensures.cuts_err start c.in-Ok.ensures.cut)
