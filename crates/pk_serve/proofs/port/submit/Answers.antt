use Rattle.std.proofs.Common.{refl}
use Rattle.pk_nvme.specs.Seen.{command_of}
use Rattle.pk_serve.{proofs.Skipping.stands_value, proofs.Skipping.went_value, proofs.Submitting.stops_exec, proofs.Submitting.submits_both, proofs.Submitting.stops_commit}
use Rattle.pk_serve.proofs.port.submit.Goals as goal

pub returns-then-outcome-clause-stops : goal.returns-then-outcome-clause-stops
returns-then-outcome-clause-stops g c = λ v is.
    stops_exec _ _ _ (command_of c.args.request.now v)
    (went_value _ _ _ (g.D.Engine.sight c.exec-outcome.new.self) (command_of c.args.request.now c.args.value.now) v is _ (c.exec-outcome.ensures.cuts_stopped c.if-outcome.true))

pub returns-in-Ok-clause-submits : goal.returns-in-Ok-clause-submits
returns-in-Ok-clause-submits g c = λ v is.
    let e = c.exec-outcome.ensures in let k = c.in-Ok.ensures in
    submits_both _ _ _ _ _ (command_of c.args.request.now v) _ c.exec-outcome.result.reads
    (stands_value _ _ _ _ (command_of c.args.request.now c.args.value.now) v is _ _ (e.answers.stands c.if-outcome.false))
    _ (k.found.cuts refl) (k.answers.stands refl) (k.answers.none refl)

pub returns-in-Err-clause-stops : goal.returns-in-Err-clause-stops
returns-in-Err-clause-stops g c = λ v is.
    let e = c.exec-outcome.ensures in
    stops_commit _ _ _ _ (g.D.Engine.sight c.exec-outcome.new.self) (command_of c.args.request.now v) _ c.exec-outcome.result.reads
    (stands_value _ _ _ _ (command_of c.args.request.now c.args.value.now) v is _ _ (e.answers.stands c.if-outcome.false))
    (c.in-Err.ensures.found.cuts_stopped refl)
