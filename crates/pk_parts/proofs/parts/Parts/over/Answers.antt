use Rattle.std.proofs.Common.{◌∙◌, subst}
use Rattle.pk_base.specs.Shape.{Shape, pinned}
use Rattle.pk_merge.specs.Jobs.{IsIdle}
use Rattle.pk_parts.proofs.Opening.{opens_on}
use Rattle.pk_parts.proofs.parts.Parts.over.Goals as goal

pub returns : goal.returns
returns g c = λ shape flash frames is_flash was.
    let its = c.shape.ensures in
    let jobs = c.in_ok-jobs.ensures in
    let idle = jobs.merges in
    let rests = jobs.reclaims in
    opens_on shape flash frames c.args.found c.in_ok-log.log c.new-3.result c.in_ok-jobs.jobs.schedule c.in_ok-jobs.jobs.reclaim _
    (rw c.shape.ensures at c.known.ensures) is_flash was c.in_ok-log.ensures.value c.in_ok-log.ensures.stands c.new-3.ensures.value c.new-3.ensures.placed
    (idle.0, idle.1, subst (λ (s : Shape). IsIdle s c.in_ok-jobs.jobs.schedule.job) its idle.2)
    (jobs.pins ∙ (λ i. pinned (its i) (c.frames.ensures.states i)))
    (rests.0 ∙ its, rests.1, rests.2)
