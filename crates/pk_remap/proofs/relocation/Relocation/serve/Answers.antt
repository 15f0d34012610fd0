use Rattle.pk_nand.specs.BoardState.{BoardState}
use Rattle.pk_remap.{proofs.Counting.counted_none, proofs.Counting.counted_from, proofs.Served.so_far_start, proofs.Served.so_far_more, proofs.Served.served_now, proofs.Served.stopped_now}
use Rattle.pk_remap.proofs.Bounding.{called_none, called_more, called_last}
use Rattle.pk_remap.proofs.relocation.Relocation.serve.Goals as goal

pub loop-init : goal.loop-init
loop-init g c = record {
  far = λ before runs. so_far_start c.args.self.now before (g.N.Nand.state c.args.inner.now) runs;
  counts = counted_none c.args.self.now (g.N.Nand.state c.args.inner.now);
  calls = called_none c.args.self.now (g.N.Nand.state c.args.inner.now);
}

pub step-requires : goal.step-requires
step-requires g c = (c.requires.0, (c.loop.invariant.far c.requires.0 c.requires.1).runs)

pub returns-in-Ok-true : goal.returns-in-Ok-true
returns-in-Ok-true g c =
    let old : BoardState = g.N.Nand.state c.args.inner.now in
    let mid : BoardState = g.N.Nand.state c.loop.inner in
    let new : BoardState = g.N.Nand.state c.step.new.inner in
    record {
      serves = λ before runs.
          let far = c.loop.invariant.far before runs in
          served_now c.args.self.now before old c.loop.self mid far _ c.step.new.self new
          (rw c.in-Ok-true.field-0-test at (c.in-Ok-true.ensures.steps before far.runs));
      counts = counted_from 1 c.args.self.now c.loop.self c.step.new.self old mid new c.loop.invariant.counts
          (rw c.in-Ok-true.field-0-test at c.in-Ok-true.ensures.counts);
      calls = called_last c.args.self.now old c.loop.self mid c.loop.invariant.calls new c.in-Ok-true.ensures.calls;
    }

pub loop-smaller : goal.loop-smaller
loop-smaller g c =
    let far = c.loop.invariant.far c.requires.0 c.requires.1 in
    (rw c.in-Ok-false.field-0-test at (c.in-Ok-false.ensures.steps c.requires.0 far.runs)).2

pub loop-preserved : goal.loop-preserved
loop-preserved g c =
    let old : BoardState = g.N.Nand.state c.args.inner.now in
    let mid : BoardState = g.N.Nand.state c.loop.inner in
    let new : BoardState = g.N.Nand.state c.step.new.inner in
    record {
      far = λ before runs.
          let far = c.loop.invariant.far before runs in
          so_far_more c.args.self.now before old c.loop.self mid far c.step.new.self new
          (rw c.in-Ok-false.field-0-test at (c.in-Ok-false.ensures.steps before far.runs));
      counts = counted_from 0 c.args.self.now c.loop.self c.step.new.self old mid new c.loop.invariant.counts
          (rw c.in-Ok-false.field-0-test at c.in-Ok-false.ensures.counts);
      calls = called_more c.args.self.now old c.loop.self mid c.loop.invariant.calls new c.in-Ok-false.ensures.calls c.step.new.self
          (rw c.in-Ok-false.field-0-test at (c.in-Ok-false.ensures.steps c.requires.0 (c.loop.invariant.far c.requires.0 c.requires.1).runs)).2;
    }

pub returns-in-Err : goal.returns-in-Err
returns-in-Err g c =
    let old : BoardState = g.N.Nand.state c.args.inner.now in
    let mid : BoardState = g.N.Nand.state c.loop.inner in
    let new : BoardState = g.N.Nand.state c.step.new.inner in
    let own = c.in-Err.ensures.counts in
    record {
      serves = λ before runs.
          let far = c.loop.invariant.far before runs in
          stopped_now c.args.self.now before old c.loop.self mid far _ c.step.new.self new (c.in-Err.ensures.steps before far.runs);
      counts = (counted_from 0 c.args.self.now c.loop.self c.step.new.self old mid new c.loop.invariant.counts own.0, own.1);
      calls = called_last c.args.self.now old c.loop.self mid c.loop.invariant.calls new c.in-Err.ensures.calls;
    }
