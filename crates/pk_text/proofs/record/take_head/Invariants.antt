use Rattle.std.proofs.Common.{◌≡◌, length}
use Rattle.pk_text.specs.Steps.{Fed}
use Rattle.pk_text.proofs.record.take_head.Given as goal

abbrev pub invariant-loop-count : goal.invariant-loop-count
invariant-loop-count g l = record {
  fed : Fed l.initial.feed l.feed (g.B.Nand.state l.initial.board) (g.B.Nand.state l.board) l.head.items;
  size : length l.head.items ≡ l._count;
  room : l.head.room ≡ 24;
}
