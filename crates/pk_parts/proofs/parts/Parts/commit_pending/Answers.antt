use Rattle.std.proofs.Common.{◌∙◌, ap, true}
use Rattle.pk_parts.{specs.Parts.Parts, proofs.Halves.not_made, proofs.Stopping.breaks_step, proofs.Stopping.breaks_off}
use Rattle.pk_parts.proofs.parts.Parts.commit_pending.Goals as goal

pub returns-in-Err-clause-step : goal.returns-in-Err-clause-step
returns-in-Err-clause-step g c = breaks_step c.in-Err.fault c.fail.result c.commit_once.new.self c.fail.new.self c.fail.ensures.same c.fail.ensures.rest _ _ _ _ _ _ _ c.in-Err.ensures.step

pub returns-in-Err-clause-idle : goal.returns-in-Err-clause-idle
returns-in-Err-clause-idle g c = λ none. absurd (not_made c.in-Err.fault (c.in-Err.ensures.idle none).0)

pub returns-in-Err-clause-kept : goal.returns-in-Err-clause-kept
returns-in-Err-clause-kept g c =
    breaks_off c.in-Err.fault c.fail.result c.commit_once.new.self c.fail.new.self c.fail.ensures.same c.fail.ensures.rest c.in-Err.ensures.step.stopped
    ∙ ap (λ (d : Parts). record d { stopped = true }) c.in-Err.ensures.kept
