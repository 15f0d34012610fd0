use Rattle.std.proofs.Common.{[]}
use Rattle.pk_text.{specs.Records.shown_from, specs.Steps.TextAdvances, specs.Steps.ahead}
use Rattle.pk_text.proofs.shower.Shower.show.Given as goal

abbrev pub invariant-loop-taken : goal.invariant-loop-taken
invariant-loop-taken g l =
    let a = g.B.Nand.state l.initial.board in
    let b = g.B.Nand.state l.board in
    TextAdvances (shown_from 0) (shown_from l._taken) (ahead [] a) (ahead l.self.feed b) a b
