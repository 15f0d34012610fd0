use Rattle.std.proofs.Common.{◌≡◌, ℕ, []}
use Rattle.pk_base.{specs.Shape.Shape, specs.Map.Map}
use Rattle.pk_queue.specs.Queue.{bytes_of}
use Rattle.pk_call.specs.Drive.{HoldsMap}
use Rattle.pk_serve.{specs.Part.KeepsRunning, specs.Script.Consumed, specs.Loop.Looping}
use Rattle.pk_serve.proofs.serve.serve_entries.Given as goal
use Rattle.pk_model.specs.Spaces.{Terms}

abbrev pub invariant-loop-taken : goal.invariant-loop-taken
invariant-loop-taken g l =
    let a = g.B.Nand.state l.initial.board in
    let b = g.B.Nand.state l.board in
    record {
      runs_on : KeepsRunning (g.D.Engine.agrees l.drive) (g.D.Engine.sight l.drive) a b;
      shape : b.shape ≡ a.shape;
      in_faults : b.in_faults ≡ a.in_faults;
      consumed : Consumed a b l.taken [];
      looping : (shape : Shape) (terms : Terms) (start : Map) → HoldsMap shape terms a (g.D.Engine.sight l.initial.drive) start → (g.D.Engine.sight l.initial.drive).pending ≡ []
          → Looping shape terms start a b (g.D.Engine.sight l.drive) (bytes_of l.held.heads) l.taken;
    }
