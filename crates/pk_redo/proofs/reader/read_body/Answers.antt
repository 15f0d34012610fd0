use Rattle.std.proofs.Common.{List, [], ◌∷◌, ◌++◌, arith, ap, ◌∙◌, append_assoc}
use Rattle.std.proofs.lemmas.List.{map-append}
use Rattle.pk_base.specs.Mark.{Mark}
use Rattle.pk_redo.specs.Steps.{mark_at, step_mark, step_marks}
use Rattle.pk_redo.proofs.Stepping.{steps_on, steps_through, next_step}
use Rattle.pk_redo.proofs.reader.read_body.Goals as goal

pub returns-in_default-clause-bad : goal.returns-in_default-clause-bad
returns-in_default-clause-bad c at is marks whole =
    let (done, steps, were) = c.loop-at.invariant.read in
    let (rest, later, all) = steps_through _ _ _ done marks _ _ steps whole c.loop-at.invariant.order in
    c.in_default.ensures (next_step _ _ _ rest _ later c.loop-at-test.true).0

pub returns-then-next-to-clause-bad : goal.returns-then-next-to-clause-bad
returns-then-next-to-clause-bad c at is marks whole =
    let (done, steps, were) = c.loop-at.invariant.read in
    let (rest, later, all) = steps_through _ _ _ done marks _ _ steps whole c.loop-at.invariant.order in
    omega (arith, (next_step _ _ _ rest _ later c.loop-at-test.true).1, c.in-Some.ensures.2, c.if-next-to.true)

pub loop-at-preserved : goal.loop-at-preserved
loop-at-preserved c =
    let shape = c.args.shape.now in
    let log = c.args.log.now in
    let (is, mark, next) = c.in-Some.ensures in
    let (done, steps, were) = c.loop-at.invariant.read in
    let old : List Mark = step_marks shape log c.args.steps.now.items in
    record {
      order = omega (arith, c.if-next-to.false);
      read = (
        done ++ (mark_at shape log c.loop-at.at ∷ []),
        rw next (steps_on shape log c.args.from done c.loop-at.at steps is),
        ap (step_marks shape log) c.in-Ok.ensures.items ∙ map-append (step_mark shape log) c.loop-at.steps.items (c.in-Some.step ∷ [])
            ∙ ap (λ (xs : List Mark). xs ++ (step_mark shape log c.in-Some.step ∷ [])) were ∙ ap (λ (m : Mark). (old ++ done) ++ (m ∷ [])) mark
            ∙ append_assoc old done (mark_at shape log c.loop-at.at ∷ []),
      );
    }
