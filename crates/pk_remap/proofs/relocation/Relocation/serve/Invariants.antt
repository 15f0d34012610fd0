use Rattle.pk_base.specs.Page.{Flash}
use Rattle.pk_remap.{specs.Counting.SparesCounted, specs.Running.RelocationRuns, specs.Running.relocation_steps_left, proofs.Served.SoFar, proofs.Bounding.CalledSoFar}
use Rattle.pk_remap.proofs.relocation.Relocation.serve.Given as goal

abbrev pub invariant-loop : goal.invariant-loop
invariant-loop g l = record {
  far : (before : Flash) → RelocationRuns l.fn.self before (g.N.Nand.state l.fn.inner)
      → SoFar l.fn.self before (g.N.Nand.state l.fn.inner) l.self (g.N.Nand.state l.inner);
  counts : SparesCounted 0 l.fn.self (g.N.Nand.state l.fn.inner) l.self (g.N.Nand.state l.inner);
  calls : CalledSoFar l.fn.self (g.N.Nand.state l.fn.inner) l.self (g.N.Nand.state l.inner);
}

abbrev pub decreases-loop : goal.decreases-loop
decreases-loop g l = relocation_steps_left l.self
