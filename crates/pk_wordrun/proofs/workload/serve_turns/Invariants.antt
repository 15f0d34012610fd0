use Rattle.std.proofs.Common.{◌≡◌, ◌≤◌, length}
use Rattle.pk_base.specs.Map.{Map}
use Rattle.pk_gen.specs.Workload.{generator}
use Rattle.pk_model.specs.Reading.{Holds}
use Rattle.pk_call.specs.Running.{DriveRuns}
use Rattle.pk_port.specs.Steps.{mount}
use Rattle.pk_wordrun.specs.Generated.{Generating}
use Rattle.pk_wordrun.proofs.workload.serve_turns.Given as goal

abbrev pub invariant-loop-turn : goal.invariant-loop-turn
invariant-loop-turn g l =
    let a = g.B.Nand.state l.initial.board in
    let b = g.B.Nand.state l.board in
    record {
      running : DriveRuns (g.D.Engine.agrees l.drive) (g.D.Engine.sight l.drive) b;
      shape : b.shape ≡ a.shape;
      value : 4000 ≤ l.value.room;
      room : length l.buffer ≡ length l.initial.buffer;
      workload : l.workload ≡ generator l.start l.turn;
      served : (m : Map) → Holds l.shape a.pages m → Generating l.start l.turn l.shape (mount a (g.D.Engine.sight l.initial.drive)).terms m a b (g.D.Engine.sight l.drive) l.summary;
    }
