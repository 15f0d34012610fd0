use Rattle.std.proofs.Common.{sym, ◌∙◌}
use Rattle.pk_walk.{proofs.Walks.Walking-gone, proofs.Walks.Walking-gives, proofs.Walks.Walking-ends, proofs.Walks.Walking-fails, proofs.Walks.Walking-all, proofs.Walks.fails_behind}
use Rattle.pk_walk.{proofs.Walks.few_read, proofs.Walks.fewer_left, proofs.Seeking.Reads-more}
use Rattle.pk_walk.proofs.walk.Walk.next.Goals as goal

pub returns-then-is_put-clause-gives : goal.returns-then-is_put-clause-gives
returns-then-is_put-clause-gives g c =
    Walking-gives c.loop-entry.invariant.walking (rw c.in-Ok-Some.field-0-is at c.in-Ok-Some.ensures.comes) c.in-Ok-Some.ensures.walks_on
    (sym c.is_put.ensures ∙ c.if-is_put.true) c.in-Ok-Some.ensures.same

pub returns-then-is_put-clause-reads : goal.returns-then-is_put-clause-reads
returns-then-is_put-clause-reads g c =
    Reads-more _ _ _ (g.B.Nand.state c.args.board.now) (g.B.Nand.state c.loop-entry.board) (g.B.Nand.state c.step.new.board) c.loop-entry.invariant.walking.reads c.in-Ok-Some.ensures.comes.reads

pub returns-then-is_put-clause-few : goal.returns-then-is_put-clause-few
returns-then-is_put-clause-few g c = few_read c.loop-entry.invariant.walking c.in-Ok-Some.ensures.walks_on

pub loop-entry-smaller : goal.loop-entry-smaller
loop-entry-smaller g c = fewer_left c.loop-entry.invariant.walking (rw c.in-Ok-Some.field-0-is at c.in-Ok-Some.ensures.comes) c.in-Ok-Some.ensures.same

pub loop-entry-preserved : goal.loop-entry-preserved
loop-entry-preserved g c =
    search (Walking-gone c.loop-entry.invariant.walking (rw c.in-Ok-Some.field-0-is at c.in-Ok-Some.ensures.comes) c.in-Ok-Some.ensures.walks_on (sym c.is_put.ensures ∙ c.if-is_put.false) c.in-Ok-Some.ensures.ready)

pub returns-in-Ok-None-clause-gives : goal.returns-in-Ok-None-clause-gives
returns-in-Ok-None-clause-gives g c =
    Walking-ends c.loop-entry.invariant.walking (rw c.in-Ok-None.field-0-is at c.in-Ok-None.ensures.comes) c.in-Ok-None.ensures.walks_on c.in-Ok-None.ensures.same

pub returns-in-Ok-None-clause-reads : goal.returns-in-Ok-None-clause-reads
returns-in-Ok-None-clause-reads g c =
    Reads-more _ _ _ (g.B.Nand.state c.args.board.now) (g.B.Nand.state c.loop-entry.board) (g.B.Nand.state c.step.new.board) c.loop-entry.invariant.walking.reads c.in-Ok-None.ensures.comes.reads

pub returns-in-Ok-None-clause-few : goal.returns-in-Ok-None-clause-few
returns-in-Ok-None-clause-few g c = few_read c.loop-entry.invariant.walking c.in-Ok-None.ensures.walks_on

pub returns-in-Err-clause-kept : goal.returns-in-Err-clause-kept
returns-in-Err-clause-kept g c =
    Walking-fails c.loop-entry.invariant.walking c.in-Err.ensures.walks_on (g.B.Nand.state c.step.new.board) c.in-Err.ensures.same c.in-Err.ensures.fails.0

pub returns-in-Err-clause-few : goal.returns-in-Err-clause-few
returns-in-Err-clause-few g c = few_read c.loop-entry.invariant.walking c.in-Err.ensures.walks_on

pub returns-in-Err-clause-err : goal.returns-in-Err-clause-err
returns-in-Err-clause-err g c = fails_behind c.loop-entry.invariant.walking (g.B.Nand.state c.step.new.board) c.step.new.self c.in-Err.ensures.fails.1

pub returns-then-is_put-clause-exact : goal.returns-then-is_put-clause-exact
returns-then-is_put-clause-exact g c none = (Walking-all c.loop-entry.invariant.walking c.in-Ok-Some.ensures.comes c.in-Ok-Some.ensures.walks_on none).1

pub returns-in-Ok-None-clause-exact : goal.returns-in-Ok-None-clause-exact
returns-in-Ok-None-clause-exact g c none = (Walking-all c.loop-entry.invariant.walking c.in-Ok-None.ensures.comes c.in-Ok-None.ensures.walks_on none).1
