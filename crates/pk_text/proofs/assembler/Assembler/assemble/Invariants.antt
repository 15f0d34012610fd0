use Rattle.std.proofs.Common.{◌≤◌, ◌+◌, []}
use Rattle.pk_text.{specs.Assembled.assembled_from, specs.Steps.TextAdvances, specs.Steps.ahead}
use Rattle.pk_text.proofs.assembler.Assembler.assemble.Given as goal

abbrev pub invariant-loop-taken : goal.invariant-loop-taken
invariant-loop-taken g l =
    let a = g.B.Nand.state l.initial.board in
    let b = g.B.Nand.state l.board in
    record {
      few : l.number ≤ l._taken + 1;
      advances : TextAdvances (assembled_from 0 1) (assembled_from l._taken l.number) (ahead [] a) (ahead l.self.feed b) a b;
    }
