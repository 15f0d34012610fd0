use Rattle.std.proofs.Common.{◌≡◌, length}
use Rattle.pk_text.specs.Steps.{Fed, IsLine}
use Rattle.pk_text.proofs.line.take_line.Given as goal

abbrev pub invariant-loop-count : goal.invariant-loop-count
invariant-loop-count g l = record {
  fed : Fed l.initial.feed l.feed (g.B.Nand.state l.initial.board) (g.B.Nand.state l.board) l.line.items;
  plain : IsLine l.line.items;
  size : length l.line.items ≡ l._count;
  room : l.line.room ≡ 2200001;
}
