use Rattle.std.proofs.Common.{List}
use Rattle.pk_base.specs.Entry.{Entry}
use Rattle.pk_nand.specs.Calls.{IsReady}
use Rattle.pk_merge.specs.Jobs.{JobRuns}
use Rattle.pk_test_merges.specs.Opened.{from_run}
use Rattle.pk_test_merges.proofs.steps.finish.Given as goal

-- the merge runs, and the board may be called
abbrev pub invariant-loop-i : goal.invariant-loop-i
invariant-loop-i g l = record {
  ready : IsReady (g.B.Nand.state l.board) l.target.shape;
  runs : (es : List Entry) × (fs : List Entry) × JobRuns (from_run l.source) l.target l.job l.pool (g.B.Nand.state l.board).pages l.arena es fs;
}
