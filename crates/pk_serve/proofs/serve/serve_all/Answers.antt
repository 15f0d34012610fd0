use Rattle.std.proofs.Common.{inl, inr, ap, sym, subst, nat_le}
use Rattle.pk_serve.{specs.Ends.IsFault, proofs.Closing.Finish-closed, proofs.Closing.Finish-broken, proofs.Closing.Runs-fault, proofs.Closing.no_fault}
use Rattle.pk_serve.{proofs.Blaming.blames-still, proofs.Blaming.blames-behind, proofs.Consuming.consumes_failed, proofs.Consuming.consumes-still}
use Rattle.pk_serve.proofs.serve.serve_all.Goals as goal

pub returns-in-Output-clause-runs : goal.returns-in-Output-clause-runs
returns-in-Output-clause-runs g c =
    let f : IsFault c.serve_entries-end.result = elim c.in-Output.is [ inl o ↦ subst IsFault (sym o) tt | inr o ↦ subst IsFault (sym o) tt ] in
    Runs-fault _ _ _ _ _ _ f c.serve_entries-end.ensures.runs

pub returns-in-Ok : goal.returns-in-Ok
returns-in-Ok g c =
    let e = c.in-Ok.ensures in
    let r = c.serve_entries-end.ensures.runs in
    record {
      runs = record {
        ends = λ shape terms start stands none. Finish-closed shape terms start _ _ _ _ _ _ e.rest.takes.input e.rest.takes.in_faults _ e.serves
            (ap (λ n. nat_le 9223372036854775808 n) e.rest.installs) (no_fault _ c.in_default.not-Output c.in_default.not-Flash)
            (r.ends shape terms start stands none);
        consumes = consumes-still _ _ _ e.rest.takes.input (ap (λ n. nat_le 9223372036854775808 n) e.rest.installs) _ r.consumes;
        blames = blames-still _ _ _ _ r.blames e.rest.takes.in_faults e.runs_on.quiet;
      };
      none = inr (e.none, e.runs_on.running.agrees);
    }

pub returns-in-Err : goal.returns-in-Err
returns-in-Err g c =
    let e = c.in-Err.ensures in
    let r = c.serve_entries-end.ensures.runs in
    record {
      runs = record {
        ends = λ shape terms start stands none. Finish-broken shape terms start _ _ _ _ _ _ e.rest.takes.input e.rest.takes.in_faults _ _ e.fails.breaks
            (no_fault _ c.in_default.not-Output c.in_default.not-Flash)
            (r.ends shape terms start stands none);
        consumes = consumes_failed _ _ _ e.fails.fault.fault;
        blames = blames-behind _ _ _ _ _ (no_fault _ c.in_default.not-Output c.in_default.not-Flash) r.blames e.fails.fault.cause;
      };
      none = inl e.fails.fault.fault;
    }
