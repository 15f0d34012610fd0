use Rattle.std.proofs.Common.{◌≡◌, ℕ, ◌+◌, ◌≤◌, List, [], ◌∷◌, ◌++◌, length, arith, ap, Err, subst, inl, inr}
use Rattle.pk_redo.specs.declared.batch.TheConstants.{FIRST_BATCH}
use Rattle.pk_redo.specs.declared.reader.LogFault.TheVariants.{BadStep}
use Rattle.pk_redo.specs.Bytes.{bytes_at}
use Rattle.pk_redo.specs.Log.{body_at, next_at}
use Rattle.pk_redo.specs.Steps.{BodySays}
use Rattle.pk_redo.specs.Image.{BatchesSay}
use Rattle.pk_redo.proofs.Batches.{walks_on, batches_through}
use Rattle.pk_redo.proofs.Stepping.{steps_of_body, body_of_steps, bodies_more, bodies_behind}
use Rattle.pk_redo.proofs.reader.read_steps.Goals as goal

pub returns-in-Err-clause-bad : goal.returns-in-Err-clause-bad
returns-in-Err-clause-bad c at is batches marks holds says =
    let shape = c.args.shape.now in
    let log = c.args.log.now in
    let before = c.loop-len.invariant in
    let (whole, len) = c.in-Some-batch_at.ensures in
    elim holds [
      | inl has ↦
          let (rest, all) = batches_through log FIRST_BATCH (before.first ∷ before.later) batches _ _ before.walks has.walks whole has.last in
          let told = subst (λ (bs : List (List ℕ)). BatchesSay shape bs marks) all says in
          let (now, own) = bodies_behind shape before.later _ rest marks told in
          let here : BodySays shape (bytes_at log (c.loop-len.at + 9) c.in-Some-batch_at.len) now = rw len own in
          let steps = body_of_steps shape log (c.loop-len.at + 9) c.in-Some-batch_at.len now (omega (arith, whole.within, len)) here in
          let same : c.in-Err.fault ≡ BadStep at = cc in
          c.in-Err.ensures.bad at (ap Err same) now steps
      | inr shut ↦ absurd (shut.0 before.open)
    ]

pub loop-len-preserved : goal.loop-len-preserved
loop-len-preserved c =
    let shape = c.args.shape.now in
    let log = c.args.log.now in
    let before = c.loop-len.invariant in
    let (whole, len) = c.in-Some-batch_at.ensures in
    let (now, steps, items) = c.in-Ok.ensures.read in
    let fits : c.loop-len.at + 9 + c.in-Some-batch_at.len ≤ length log = omega (arith, whole.within, len) in
    let own : BodySays shape (body_at log c.loop-len.at) now = rw (← len) (steps_of_body shape log (c.loop-len.at + 9) c.in-Some-batch_at.len now fits steps) in
    let next : next_at log c.loop-len.at ≡ c.loop-len.at + 9 + c.in-Some-batch_at.len = omega (arith, len) in
    let more = walks_on log FIRST_BATCH (before.first ∷ before.later) c.loop-len.at before.walks whole in
    record {
      «open» = before.open;
      within = fits;
      first = before.first;
      later = before.later ++ (body_at log c.loop-len.at ∷ []);
      walks = rw next at more;
      says = rw items (bodies_more shape before.later _ _ now before.says own);
    }

pub returns-clause-found : goal.returns-clause-found
returns-clause-found c =
    let before = c.loop-len.invariant in (
      before.first ∷ before.later,
      inl (record { opened = before.open; end = c.loop-len.at; walks = before.walks; last = c.in_default-batch_at.ensures }),
      before.says,
    )
