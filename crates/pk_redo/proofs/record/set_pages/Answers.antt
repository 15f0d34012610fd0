use Rattle.std.proofs.Common.{arith, ◌∙◌, take_all}
use Rattle.pk_redo.proofs.Tables.{sets_more}
use Rattle.pk_redo.proofs.record.set_pages.Goals as goal

pub loop-i-preserved : goal.loop-i-preserved
loop-i-preserved c =
    record {
      len = c.note_step.ensures.len ∙ c.loop-i.invariant.len;
      is_set = λ log k low. sets_more c.args.shape.now log c.args.steps.now c.loop-i.i _ k _ _ c.loop-i-test.true (c.loop-i.invariant.is_set log k low) (c.note_step.ensures.set log k low);
    }

pub returns-clause-set : goal.returns-clause-set
returns-clause-set c log k low = rw (take_all c.loop-i.i c.args.steps.now (omega (arith, c.loop-i-test.false))) at (c.loop-i.invariant.is_set log k low)
