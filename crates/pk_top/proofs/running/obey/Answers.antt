use Rattle.std.proofs.Common.{ap, sym, subst}
use Rattle.pk_wordrun.specs.Seen.{seen as seen_task}
use Rattle.pk_top.{specs.Resting.RestsIn, specs.Texts.seen, specs.declared.word.Word.Word, proofs.Resting.rests-ask}
use Rattle.pk_top.proofs.running.obey.Goals as goal

pub serve-requires : goal.serve-requires
serve-requires g c = c.requires.frames c.in-Serve.frames (ap seen c.in-Serve.is)

pub returns-in-Ask-clause-rests : goal.returns-in-Ask-clause-rests
returns-in-Ask-clause-rests g c =
    let old = g.B.Nand.state c.args.board.now in
    let new = g.B.Nand.state c.ask.new.board in
    let T : Word → Type 0 = λ w. RestsIn (seen w) old new in
    subst T (sym c.in-Ask.is) (rests-ask (seen_task c.in-Ask.task) old new c.ask.result.0 c.ask.ensures.runs)
