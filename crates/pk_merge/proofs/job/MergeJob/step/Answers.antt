use Rattle.std.proofs.Common.{refl, ◌∙◌}
use Rattle.pk_merge.{proofs.Results.on_ok, proofs.Results.if_ok_also, proofs.Results.either, proofs.Results.of_err, proofs.Results.at_err, proofs.Leasing.acts_lease}
use Rattle.pk_merge.{proofs.Boards.acts_call, proofs.Boards.fails_call, proofs.Boards.fails_reading, proofs.Boards.fails_stopped, proofs.Reaching.stops_in, proofs.Reaching.reads_again}
use Rattle.pk_merge.proofs.Stepped.{runs_on, same_level, whole, lowers, lowers_rest, reaches, leaves}
use Rattle.pk_merge.proofs.job.MergeJob.step.Goals as goal

pub returns-clause-running : goal.returns-clause-running
returns-clause-running g c =
    on_ok c.step.result _ _ c.step.ensures.steps (λ s es fs run.
    let j = rw (← c.self.view_is) at run in
    let r = rw c.in-Some.is at j.running in
    record {
      output = refl;
      same_level = same_level _ _ _ _ _ _ _ _ _ _ _ _ _ c.known.ensures.shape c.known.ensures.kept s es fs r
          ∙ rw c.in-Some.is at j.same_level;
      running = runs_on _ _ _ _ _ _ _ _ _ _ _ _ _ c.known.ensures.shape c.known.ensures.kept s es fs r;
    })

pub returns-clause-whole : goal.returns-clause-whole
returns-clause-whole g c =
    if_ok_also c.step.result _ _ _ c.step.ensures.steps c.step.ensures.done (λ done s d is_done es fs run.
    let j = rw (← c.self.view_is) at run in
    let r = rw c.in-Some.is at j.running in
    rw (← c.self.view_is) (whole _ _ _ _ _ _ _ _ _ _ _ _ _ c.known.ensures.shape c.known.ensures.kept s es fs r (d.0 is_done)))

pub returns-clause-lowers : goal.returns-clause-lowers
returns-clause-lowers g c =
    on_ok c.step.result _ _ c.step.ensures.steps (λ s.
    let q = rw (← c.self.view_is) at c.requires in
    let r = rw c.in-Some.is at q.running.2.running in
    rw (← c.self.view_is, c.in-Some.is) (lowers _ _ _ _ _ _ _ _ _ _ _ _ _ c.known.ensures.shape c.known.ensures.kept s _ _ r))

pub returns-clause-rest : goal.returns-clause-rest
returns-clause-rest g c =
    on_ok c.step.result _ _ c.step.ensures.steps (λ s es fs pages blocks run up vp.
    let j = rw (← c.self.view_is) at run in
    let r = rw c.in-Some.is at j.running in
    rw (← c.self.view_is, c.in-Some.is)
    (lowers_rest _ _ _ _ _ _ _ _ _ _ _ _ _ c.known.ensures.shape c.known.ensures.kept s es fs r pages blocks (rw (← c.self.view_is, c.in-Some.is) at up) (rw (← c.self.view_is, c.in-Some.is) at vp)))

pub returns-clause-others : goal.returns-clause-others
returns-clause-others g c =
    on_ok c.step.result _ _ c.step.ensures.steps (λ s.
    let q = rw (← c.self.view_is) at c.requires in
    let r = rw c.in-Some.is at q.running.2.running in
    rw (← c.self.view_is, c.in-Some.is) (leaves _ _ _ _ _ _ _ _ _ _ _ _ _ c.known.ensures.shape c.known.ensures.kept s _ _ r))

pub returns-clause-leases : goal.returns-clause-leases
returns-clause-leases g c =
    on_ok c.step.result _ _ c.step.ensures.steps (λ s. rw (← c.self.view_is, c.in-Some.is) (acts_lease _ _ _ _ _ _ _ _ s.next _ s.between _ _ _ s.acts))

pub returns-clause-cuts : goal.returns-clause-cuts
returns-clause-cuts g c =
    on_ok c.step.result _ _ c.step.ensures.steps (λ s.
    let q = rw (← c.self.view_is) at c.requires in
    let r = rw c.in-Some.is at q.running.2.running in
    rw (← c.self.view_is, c.in-Some.is) (reaches _ _ _ _ _ _ _ _ _ _ _ _ _ c.known.ensures.shape c.known.ensures.kept s _ _ r))

pub returns-clause-again : goal.returns-clause-again
returns-clause-again g c e es fs run =
    let j = rw (← c.self.view_is) at run in
    let r = rw c.in-Some.is at j.running in
    let f = of_err c.step.result _ _ e c.step.ensures.fails in
    let k = at_err c.step.result _ _ e c.step.ensures.kept in
    record { output = refl; same_level = rw k.0 (rw c.in-Some.is at j.same_level); running = rw (k.0, k.1, k.2) (reads_again _ _ _ _ _ _ _ _ es fs c.known.ensures.shape r _ _ f) }

pub returns-clause-went : goal.returns-clause-went
returns-clause-went g c e =
    let q = rw (← c.self.view_is) at c.requires in
    let r = rw c.in-Some.is at q.running.2.running in
    rw (← c.self.view_is, c.in-Some.is) (stops_in _ _ _ _ _ _ _ _ _ _ c.known.ensures.shape r c.step.new.self _ (of_err c.step.result _ _ e c.step.ensures.fails))

pub returns-clause-calls : goal.returns-clause-calls
returns-clause-calls g c =
    either c.step.result _ _ _ c.step.ensures.steps c.step.ensures.fails
    (λ s. (acts_call _ _ _ _ _ _ _ _ s.next _ s.between _ _ _ s.acts).calls) (λ fault f. (fails_call _ _ _ _ _ _ _ _ fault f).calls)

pub returns-clause-only_flash : goal.returns-clause-only_flash
returns-clause-only_flash g c =
    either c.step.result _ _ _ c.step.ensures.steps c.step.ensures.fails (λ s. (acts_call _ _ _ _ _ _ _ _ s.next _ s.between _ _ _ s.acts).rest) (λ fault f. (fails_call _ _ _ _ _ _ _ _ fault f).rest)

pub returns-clause-sound : goal.returns-clause-sound
returns-clause-sound g c = on_ok c.step.result _ _ c.step.ensures.steps (λ s. (acts_call _ _ _ _ _ _ _ _ s.next _ s.between _ _ _ s.acts).sound)

pub returns-clause-read : goal.returns-clause-read
returns-clause-read g c e =
    let f = fails_reading _ _ _ _ _ _ (of_err c.step.result _ _ e c.step.ensures.fails) in
    (f.read, f.flash, f.only)

pub returns-clause-stopped : goal.returns-clause-stopped
returns-clause-stopped g c e = fails_stopped _ _ _ _ _ (of_err c.step.result _ _ e c.step.ensures.fails)
