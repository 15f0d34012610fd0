use Rattle.std.proofs.Common.{◌∙◌}
use Rattle.pk_pool.{specs.Blocks.freed, proofs.Leaving.freed_owned, proofs.Leaving.freed_fits, proofs.Leaving.unfreed_fits}
use Rattle.pk_merge.proofs.Freeing.{first_owned, still_owned, freed_next, unready_next}
use Rattle.pk_merge.proofs.job.leave_blocks.Goals as goal

pub leave-requires : goal.leave-requires
leave-requires g c =
    let owned = first_owned (freed c.loop-block.pool) c.args.blocks.now c.loop-block.block-index c.loop-block-test.true c.loop-block.invariant.owned in
    (owned.0, freed_owned c.loop-block.pool _ owned.0 owned.1)

pub loop-block-preserved : goal.loop-block-preserved
loop-block-preserved g c =
    let before = freed c.loop-block.pool in
    let behind = freed c.leave.new.self in
    let row = c.args.blocks.now in
    let i = c.loop-block.block-index in
    record {
      owned = still_owned before behind row i c.loop-block-test.true c.leave.ensures.freed c.loop-block.invariant.owned;
      rest = freed_next before behind row i c.loop-block-test.true c.leave.ensures.freed ∙ c.loop-block.invariant.rest;
      fits = λ flash fit. freed_fits c.leave.new.self flash (c.leave.ensures.fits flash (unfreed_fits c.loop-block.pool flash (c.loop-block.invariant.fits flash fit)));
      counted = λ o. c.leave.ensures.counted o ∙ c.loop-block.invariant.counted o;
      as_many = unready_next before behind row i c.loop-block-test.true c.leave.ensures.freed c.loop-block.invariant.owned ∙ c.loop-block.invariant.as_many;
    }
