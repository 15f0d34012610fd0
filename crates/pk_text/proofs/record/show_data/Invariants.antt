use Rattle.std.proofs.Common.{◌≡◌, ℕ, List}
use Rattle.pk_text.{specs.Written.Written, specs.Records.data_shown, specs.Steps.TextAdvances, specs.Steps.ahead}
use Rattle.pk_text.proofs.record.show_data.Given as goal

abbrev pub invariant-loop-left : goal.invariant-loop-left
invariant-loop-left g l =
    let a = g.B.Nand.state l.initial.board in
    let b = g.B.Nand.state l.board in
    record {
      room : l.text.room ≡ 8192;
      advances : (more : List ℕ → Written) → TextAdvances (data_shown l.size more) (data_shown l.left more) (ahead l.initial.feed a) (ahead l.feed b) a b;
    }

abbrev pub decreases-loop-left : goal.decreases-loop-left
decreases-loop-left g l = l.left
