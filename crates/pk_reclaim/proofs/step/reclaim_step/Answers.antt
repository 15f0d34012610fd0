use Rattle.std.proofs.Common.{rules}
use Rattle.pk_base.specs.Seen.{entries as seen_all}
use Rattle.pk_reclaim.{proofs.Whole.can_step, proofs.Handed.Handed, proofs.Handed.handed, proofs.Handed.small_behind, proofs.Repeated.repeats_in}
use Rattle.pk_log.proofs.Standing.{epoch_blocks_are}
use Rattle.pk_reclaim.proofs.step.reclaim_step.Given as given
use Rattle.pk_reclaim.proofs.step.reclaim_step.Goals as goal
use Rattle.pk_reclaim.proofs.step.reclaim_step.Goals.{After-step}

pub step-requires-clause-can : goal.step-requires-clause-can
step-requires-clause-can g c =
    let may = c.requires.may in
    let can = can_step c.args.log.now c.args.values.now c.args.pool.now c.args.job.now
    (g.B.Nand.state c.args.board.now) c.requires.ready (record { top = may.0; found = may.1; m = may.2; may = may.3 }) in
    rw (← c.log.view_is, ← c.values.view_is) at can

pub step-requires-clause-blocks : goal.step-requires-clause-blocks
step-requires-clause-blocks g c =
    let may = c.requires.may in
    let blocks = epoch_blocks_are c.args.log.now (g.B.Nand.state c.args.board.now).pages may.0 may.1 may.3.stands.logs in
    rw (← c.log.view_is) at blocks

-- what the job's step said
said : (g : given.Over) (c : After-step g)
    → let l = c.log.inside in let n = c.step.new in
    Handed (record { shape = l.root.shape; root = l.root.root; next = l.installer; epoch = l.epoch; active = l.active; frozen = l.frozen; pending = seen_all l.pending.items })
    (record { live = c.values.inside.live; open_block = c.values.inside.open_block }) c.args.pool.now n.pool c.args.job.now n.self n.live n.front n.active n.epoch
    (g.B.Nand.state c.args.board.now) (g.B.Nand.state n.board) c.step.result
said g c =
    let may = rw (← c.log.view_is, ← c.values.view_is) at c.requires.may in
    let e = c.step.ensures in
    record {
      ready = rw (← c.log.view_is) at c.requires.ready;
      then_ready = e.ready;
      shared = c.known.ensures;
      where_is = record { top = may.0; found = may.1; m = may.2; may = may.3 };
      shape = e.shape;
      steps = e.steps;
      breaks = e.breaks;
      kept = e.kept;
      kept_parts = e.kept_parts;
      kept_values = e.kept_values;
    }

pub invariant_of-values : goal.invariant_of-values
invariant_of-values g c = small_behind _ _ _ _ _ _ _ _ _ _ _ _ c.step.result c.values.invariant (said g (goal.at.invariant_of-values g c).After-step)

pub returns : goal.returns
returns g c =
    let made = handed _ _ _ _ _ _ _ _ _ _ _ _ c.step.result (said g (goal.at.returns g c).After-step) in
    let step = c.step in
    record {
      does = rw (← c.log.view_is, ← c.values.view_is) made.does;
      repeats = repeats_in c.args.job.now.phase c.args.job.now step.new.self _ _ (g.B.Nand.state c.args.board.now) (g.B.Nand.state step.new.board) step.result step.ensures.steps step.ensures.breaks;
      same_log = rw (← c.log.view_is) made.same_log;
      grows = rw (← c.log.view_is) made.same_roots.grows;
      same_roots = made.same_roots.same;
      unread = rw (← c.log.view_is, ← c.values.view_is) made.unread;
      broken = rw (← c.log.view_is, ← c.values.view_is) made.broken;
      sound = made.sound;
      calls = made.calls;
      rest = made.only;
      ready = search rules;
    }
