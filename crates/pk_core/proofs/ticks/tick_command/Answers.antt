use Rattle.std.proofs.Common.{◌∙◌, sym, arith}
use Rattle.pk_core.proofs.Stepping.{tick_does, tick_may, tick_numbers, stopped_is, not_failed, none_come}
use Rattle.pk_core.proofs.Executing.{none_between}
use Rattle.pk_core.proofs.ticks.tick_command.Goals as goal

pub work-last-requires-clause-may : goal.work-last-requires-clause-may
work-last-requires-clause-may g c = tick_may c.args.parts.now
    (g.B.Nand.state c.args.board.now) c.requires.servable.agrees c.requires.servable.runs c.requires.none c.requires.servable.unworn c.read_count-before.ensures.faults

pub work-last-requires-clause-numbers : goal.work-last-requires-clause-numbers
work-last-requires-clause-numbers g c = tick_numbers c.args.parts.now (g.B.Nand.state c.args.board.now) c.args.request.now.size c.requires.servable.agrees c.requires.servable.unworn (omega arith)

pub returns : goal.returns
returns g c =
    let e = c.work-last.ensures in
    let stopped = stopped_is c.answer_of.result c.work-last.result c.reads_since.result c.answer_of.ensures in
    record {
      executes = λ v into. record {
        stops = e.stops ∙ sym stopped;
        agrees = λ runs. none_between c.work-last.new.parts (g.B.Nand.state c.work-last.new.board).shape (g.B.Nand.state c.work-last.new.board).pages (e.agrees (sym stopped ∙ runs)) e.none;
        does = tick_does (g.B.Nand.state c.args.board.now)
            (g.B.Nand.state c.work-last.new.board) c.args.parts.now c.work-last.new.parts c.args.request.now v c.requires.servable.agrees c.requires.servable.passed c.requires.opcode
            c.work-last.result c.answer_of.result into c.reads_since.result e.steps (omega (arith, c.reads_since.ensures.reads, c.read_count-before.ensures.value)) c.answer_of.ensures;
      };
      no_data = none_come c.answer_of.result c.work-last.result c.reads_since.result c.answer_of.ensures;
      none = e.none;
      done = λ zero. e.done (not_failed c.answer_of.result c.work-last.result c.reads_since.result c.answer_of.ensures zero);
      no_more = λ runs. e.no_more (sym stopped ∙ runs);
      moves = λ runs. e.moves (sym stopped ∙ runs);
      calls = e.steps.spends.calls;
    }
