use Rattle.std.proofs.Common.{◌≡◌, inl, inr, refl, ◌∙◌, ap, arith, true, false}
use Rattle.pk_queue.specs.Queue.{bytes_of}
use Rattle.pk_serve.{proofs.Looping.Looping-start, proofs.Looping.Looping-next, proofs.Looping.Finish-quits, proofs.Looping.none_taken, proofs.Blaming.blames-then, proofs.Blaming.blames-entry}
use Rattle.pk_serve.{proofs.Consuming.consumed-none, proofs.Consuming.consumed-next, proofs.Consuming.consumes-entry, proofs.Consuming.consumes-quits, proofs.Parting.runs_on-then}
use Rattle.pk_serve.proofs.serve.serve_entries.Goals as goal

true_false : true ≡ false → ⊥
true_false h = cc

pub loop-taken-init : goal.loop-taken-init
loop-taken-init g c = record {
  runs_on = record { running = c.requires.running; quiet = record { output = refl; stop = refl } };
  shape = refl;
  in_faults = refl;
  consumed = consumed-none _;
  looping = λ shape terms start stands none. Looping-start shape terms start _ _ (bytes_of c.args.held.now.heads) (ap bytes_of c.requires.none) stands none;
}

pub loop-taken-preserved : goal.loop-taken-preserved
loop-taken-preserved g c =
    let e = c.in-Ok.ensures in
    record {
      runs_on = runs_on-then (g.D.Engine.agrees c.serve_next.new.drive) _ _ _ _ c.loop-taken.invariant.runs_on.quiet e.runs_on;
      shape = e.sizes.shape ∙ c.loop-taken.invariant.shape;
      in_faults = e.in_faults ∙ c.loop-taken.invariant.in_faults;
      consumed = consumed-next _ _ _ c.loop-taken.taken c.loop-taken.invariant.consumed _ _ _ _ e.advances;
      looping = λ shape terms start stands none.
          let w = c.loop-taken.invariant.looping shape terms start stands none in
          Looping-next shape terms start _ _ _ _ _ _ _ c.loop-taken.taken w (omega arith) e.advances;
    }

pub returns-in-Err-clause-runs : goal.returns-in-Err-clause-runs
returns-in-Err-clause-runs g c =
    let e = c.in-Err.ensures in
    let D = g.D.Engine in
    record {
      consumes = consumes-quits _ _ _ c.loop-taken.taken c.loop-taken.invariant.consumed _ _ c.in-Err.end e.quits;
      ends = λ shape terms start stands none.
          let w = c.loop-taken.invariant.looping shape terms start stands none in
          Finish-quits shape terms start _ _ (g.B.Nand.state c.serve_next.new.board) _ (D.sight c.serve_next.new.drive) _
          (bytes_of c.serve_next.new.held.heads) c.loop-taken.taken w (omega arith) c.in-Err.end c.loop-taken.invariant.in_faults
          (elim e.open [ inl f ↦ inl f | inr o ↦ inr (ap D.sight o.1, ap bytes_of o.2) ]) e.quits;
      blames = blames-then _ _ _ c.in-Err.end c.loop-taken.invariant.in_faults c.loop-taken.invariant.runs_on.quiet e.blames;
    }

pub returns-in-Err-take_entry-clause-runs : goal.returns-in-Err-take_entry-clause-runs
returns-in-Err-take_entry-clause-runs g c =
    let full : c.loop-taken.taken ≡ 4294967295 = omega arith in
    let e = c.in-Err-take_entry.ensures in
    record {
      consumes = consumes-entry _ _ _ c.loop-taken.taken c.loop-taken.invariant.consumed true (λ _. inl full) c.in-Err-take_entry.end e.err;
      ends = λ shape terms start stands none.
          let w = c.loop-taken.invariant.looping shape terms start stands none in
          none_taken shape terms start _ _ _ _ _ _ _ c.loop-taken.taken w true (λ _. inl full) (λ h. absurd (true_false h)) c.in-Err-take_entry.end c.loop-taken.invariant.in_faults refl refl e.err;
      blames = blames-then _ _ _ c.in-Err-take_entry.end c.loop-taken.invariant.in_faults c.loop-taken.invariant.runs_on.quiet (blames-entry _ _ true c.in-Err-take_entry.end e.err);
    }
