use Rattle.std.proofs.Common.{rules}
use Rattle.pk_serve.proofs.Entering.{FailsAt-none, FailsAt-fetch, FindsEnd-fetch, Refuses-fetch, BreaksOff-fill, FailsAt-fill}
use Rattle.pk_serve.proofs.entry.take_entry.Goals as goal

pub returns-in-Err-clause-err : goal.returns-in-Err-clause-err
returns-in-Err-clause-err g c = (FailsAt-fetch _ _ c.in-Err.ensures.err, FailsAt-none _ _ c.in-Err.ensures.err)

pub returns-then-first-eq0-clause-err : goal.returns-then-first-eq0-clause-err
returns-then-first-eq0-clause-err g c = FindsEnd-fetch _ _ _ _ c.in-Ok.ensures.ok (search rules) (search rules)

pub returns-then-no_more-clause-err : goal.returns-then-no_more-clause-err
returns-then-no_more-clause-err g c = (Refuses-fetch _ _ _ _ c.in-Ok.ensures.ok (search rules), (search rules))

pub returns-then-n-lt-SUBMISSION_BYTES-clause-err : goal.returns-then-n-lt-SUBMISSION_BYTES-clause-err
returns-then-n-lt-SUBMISSION_BYTES-clause-err g c = (BreaksOff-fill _ _ _ _ _ _ _ c.in-Ok.ensures.ok (search rules) (search rules) c.in-Ok-fill.ensures.ok (search rules), c.if-no_more.false)

pub returns-in-Err-fill-clause-err : goal.returns-in-Err-fill-clause-err
returns-in-Err-fill-clause-err g c = (FailsAt-fill _ _ _ _ _ c.in-Ok.ensures.ok (search rules) c.in-Err-fill.ensures.err, λ _. c.if-no_more.false)
