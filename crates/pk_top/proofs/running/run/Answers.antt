use Rattle.std.proofs.Common.{sym, map}
use Rattle.pk_top.{specs.Texts.seen, proofs.Obeyed.runs-refused, proofs.Obeyed.runs-no_memory, proofs.Obeyed.runs-obeyed}
use Rattle.pk_top.proofs.Within.{frames_within, short_within}
use Rattle.pk_top.proofs.running.run.Goals as goal

pub obey-requires-clause-frames : goal.obey-requires-clause-frames
obey-requires-clause-frames g c = frames_within _ (seen c.in-Ok-Some.word) (rw c.in-Ok-Some.field-0-is at c.in-Ok-Some.ensures)

pub obey-requires-clause-allowed : goal.obey-requires-clause-allowed
obey-requires-clause-allowed g c = short_within _ (seen c.in-Ok-Some.word) (rw c.in-Ok-Some.field-0-is at c.in-Ok-Some.ensures)

pub returns-in-Ok-Some : goal.returns-in-Ok-Some
returns-in-Ok-Some g c =
    let o = c.obey.ensures in
    record {
      runs = runs-obeyed _ (seen c.in-Ok-Some.word) (rw c.in-Ok-Some.field-0-is at c.in-Ok-Some.ensures) (g.B.Nand.state c.args.board.now) (g.B.Nand.state c.obey.new.board) c.obey.result.0
          o.tells o.memory o.makes o.serves o.asks o.assembles o.shows o.rests;
    }

pub returns-in-Ok-None : goal.returns-in-Ok-None
returns-in-Ok-None g c = record { runs = runs-refused _ (g.B.Nand.state c.args.board.now) (sym (rw c.in-Ok-None.field-0-is at c.in-Ok-None.ensures)) }

pub returns-in-Err : goal.returns-in-Err
returns-in-Err g c = record { runs = runs-no_memory (map (λ w. w.now) c.args.words.now) (g.B.Nand.state c.args.board.now) }
