use Rattle.std.proofs.Common.{List, ℕ, ap, sym, subst, ◌∙◌}
use Rattle.pk_nand.specs.Operations.{after_post, PostFailed}
use Rattle.pk_words.specs.Question.{seen}
use Rattle.pk_port.{specs.Steps.mount, proofs.Serving.mounted_limits}
use Rattle.pk_wordrun.{specs.Tasks.answer, specs.Told.Told, specs.declared.end.WordEnd.WordEnd, proofs.Telling.told-done, proofs.Telling.told-output, proofs.Telling.told-fails}
use Rattle.pk_wordrun.proofs.tell.tell.Goals as goal

pub returns-in-Ok-say : goal.returns-in-Ok-say
returns-in-Ok-say g c = λ start holds.
    told-done (seen c.args.question.now) c.args.shape start (mount (g.B.Nand.state c.args.board.now) (g.D.Engine.sight c.args.drive.now))
    (mount (g.B.Nand.state c.ask.new.board) (g.D.Engine.sight c.ask.new.drive))
    c.requires.on_board holds (mounted_limits c.args.shape (g.B.Nand.state c.args.board.now) (g.D.Engine.sight c.args.drive.now) c.requires.on_board)
    c.in-Ok.ensures.turns.0 c.in-Ok.ensures.turns.1 c.ask.new.words.text c.in-Ok.ensures.said (g.B.Nand.state c.say.new.board)
    (c.in-Ok-say.ensures.posts ∙ ap (λ (t : List ℕ). after_post (g.B.Nand.state c.ask.new.board) t) c.text.ensures)

pub returns-in-Err-say : goal.returns-in-Err-say
returns-in-Err-say g c = λ start holds.
    let T : List ℕ → Type 0 = λ t. PostFailed (g.B.Nand.state c.ask.new.board) (g.B.Nand.state c.say.new.board) t in
    told-output (seen c.args.question.now) c.args.shape start (mount (g.B.Nand.state c.args.board.now) (g.D.Engine.sight c.args.drive.now))
    (mount (g.B.Nand.state c.ask.new.board) (g.D.Engine.sight c.ask.new.drive))
    c.requires.on_board holds (mounted_limits c.args.shape (g.B.Nand.state c.args.board.now) (g.D.Engine.sight c.args.drive.now) c.requires.on_board)
    c.in-Ok.ensures.turns.0 c.in-Ok.ensures.turns.1 c.ask.new.words.text c.in-Ok.ensures.said (g.B.Nand.state c.say.new.board)
    (subst T c.text.ensures c.in-Err-say.ensures.fails)

pub returns-in-Err : goal.returns-in-Err
returns-in-Err g c = λ start holds.
    let T : WordEnd → Type 0 = λ e. Told (answer (seen c.args.question.now)) c.args.shape
    (mount (g.B.Nand.state c.args.board.now) (g.D.Engine.sight c.args.drive.now)).terms start (g.B.Nand.state c.args.board.now) (g.B.Nand.state c.ask.new.board) e in
    subst T (sym c.end_of.ensures)
    (told-fails (seen c.args.question.now) c.args.shape start (mount (g.B.Nand.state c.args.board.now) (g.D.Engine.sight c.args.drive.now))
    (mount (g.B.Nand.state c.ask.new.board) (g.D.Engine.sight c.ask.new.drive))
    c.requires.on_board holds (mounted_limits c.args.shape (g.B.Nand.state c.args.board.now) (g.D.Engine.sight c.args.drive.now) c.requires.on_board)
    c.in-Err.halt c.requires.runs c.in-Err.ensures.turns)
