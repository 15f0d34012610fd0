use Rattle.std.proofs.Common.{inl, inr, arith}
use Rattle.pk_core.proofs.Stepping.{ongoing_none, ongoing_may, ongoing_more, ongoing_last, ongoing_done, ongoing_stays, ongoing_no_more}
use Rattle.pk_core.proofs.ticks.work.Goals as goal

pub loop-made-init : goal.loop-made-init
loop-made-init g c = ongoing_none _ _ c.requires.may c.requires.count

pub advance-requires : goal.advance-requires
advance-requires g c = record { may = ongoing_may c.loop-made.invariant c.args.steps (omega (arith, c.loop-made-test.true)) c.requires.numbers }

pub loop-made-preserved : goal.loop-made-preserved
loop-made-preserved g c = ongoing_more c.loop-made.invariant c.in-Worked.ensures

pub returns-in-Idle-clause-steps : goal.returns-in-Idle-clause-steps
returns-in-Idle-clause-steps g c = ongoing_last c.loop-made.invariant c.in-Idle.ensures c.args.steps (omega (arith, c.loop-made-test.true))

pub returns-in-Idle-clause-done : goal.returns-in-Idle-clause-done
returns-in-Idle-clause-done g c = λ _. inr (inl (ongoing_done c.in-Idle.ensures))

pub returns-in-Idle-clause-no_more : goal.returns-in-Idle-clause-no_more
returns-in-Idle-clause-no_more g c = ongoing_no_more c.loop-made.invariant c.in-Idle.ensures

pub returns-in-Fault-clause-no_more : goal.returns-in-Fault-clause-no_more
returns-in-Fault-clause-no_more g c = ongoing_no_more c.loop-made.invariant c.in-Fault.ensures

pub returns-clause-no_more : goal.returns-clause-no_more
returns-clause-no_more g c = λ _. let less = c.loop-made.invariant.less in omega (arith, less)

pub returns-in-Fault-clause-moves : goal.returns-in-Fault-clause-moves
returns-in-Fault-clause-moves g c = ongoing_stays c.loop-made.invariant c.in-Fault.ensures

pub returns-in-Fault-clause-steps : goal.returns-in-Fault-clause-steps
returns-in-Fault-clause-steps g c = ongoing_last c.loop-made.invariant c.in-Fault.ensures c.args.steps (omega (arith, c.loop-made-test.true))

pub returns-clause-steps : goal.returns-clause-steps
returns-clause-steps g c = c.loop-made.invariant.steps c.args.steps (omega (arith, c.loop-made.auto.made-end))

-- the drive became worn

pub returns-then-root_number-ge-WORN_FROM-clause-steps : goal.returns-then-root_number-ge-WORN_FROM-clause-steps
returns-then-root_number-ge-WORN_FROM-clause-steps g c = ongoing_last c.loop-made.invariant c.in-Worked.ensures c.args.steps (omega (arith, c.loop-made-test.true))

pub returns-then-root_number-ge-WORN_FROM-clause-moves : goal.returns-then-root_number-ge-WORN_FROM-clause-moves
returns-then-root_number-ge-WORN_FROM-clause-moves g c = ongoing_stays c.loop-made.invariant c.in-Worked.ensures

pub returns-then-root_number-ge-WORN_FROM-clause-no_more : goal.returns-then-root_number-ge-WORN_FROM-clause-no_more
returns-then-root_number-ge-WORN_FROM-clause-no_more g c = ongoing_no_more c.loop-made.invariant c.in-Worked.ensures
