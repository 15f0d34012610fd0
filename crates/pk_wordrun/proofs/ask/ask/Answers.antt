use Rattle.std.proofs.Common.{rules, sym}
use Rattle.pk_words.specs.Question.{seen}
use Rattle.pk_port.specs.Steps.{mount}
use Rattle.pk_wordrun.proofs.Telling.{said_back}
use Rattle.pk_wordrun.proofs.ask.ask.Goals as goal

pub returns-in-Ok-clause-said : goal.returns-in-Ok-clause-said
returns-in-Ok-clause-said g c =
    let port = c.answer-answered.new.port in
    said_back (seen c.args.question.now) c.args.shape port.shape
    (mount (g.B.Nand.state c.args.board.now) (g.D.Engine.sight c.args.drive.now))
    (mount (g.B.Nand.state port.board.now) (g.D.Engine.sight port.drive.now))
    _ c.new-tally.result.faults port.tally.now.faults _ c.answer-answered.ensures.took.4 (search rules) (c.in-Ok.ensures.said (sym c.requires.shape))
