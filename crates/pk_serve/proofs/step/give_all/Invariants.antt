use Rattle.std.proofs.Common.{take}
use Rattle.pk_queue.specs.Queue.{bytes_of}
use Rattle.pk_serve.{specs.Ends.NoFaults, specs.Part.OnlyGives, specs.Serving.Posts}
use Rattle.pk_serve.proofs.step.give_all.Given as goal

abbrev pub invariant-loop-head : goal.invariant-loop-head
invariant-loop-head g l =
    let a = g.B.Nand.state l.initial.board in
    let b = g.B.Nand.state l.board in
    record {
      only : OnlyGives a b;
      quiet : NoFaults a b;
      posts : Posts a b (bytes_of (take l.head-index l.heads));
    }
