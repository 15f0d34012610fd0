use Rattle.std.proofs.Common.{◌∙◌, ◌≤◌, ℕ, subst, length}
use Rattle.pk_parts.{specs.Parts.drive_limits, proofs.OwnLimits.reported_length}
use Rattle.pk_call.specs.Exec.{report_of}
use Rattle.pk_core.proofs.Counting.{report_done}
use Rattle.pk_core.proofs.numbers.report.Goals as goal

pub returns-clause-does : goal.returns-clause-does
returns-clause-does g c =
    let d = c.args.parts.now in
    let most : c.args.request.now.namespace ≤ length (drive_limits d) = subst (λ (n : ℕ). c.args.request.now.namespace ≤ n) (reported_length d.spaces 1 (drive_limits d)) c.requires.space.1 in
    report_done d c.args.request.now c.served.result c.put_counts.new.into c.requires.space.0 most c.served.ensures
    (c.put_counts.ensures.bytes ∙ (λ i. report_of (c.counts.ensures.here i) (c.counts.ensures.drive i)))

pub returns-clause-bytes : goal.returns-clause-bytes
returns-clause-bytes g c = rw c.served.ensures (c.put_counts.ensures.bytes ∙ (λ i. report_of (c.counts.ensures.here i) (c.counts.ensures.drive i)))
