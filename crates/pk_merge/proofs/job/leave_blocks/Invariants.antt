use Rattle.std.proofs.Common.{◌≡◌, drop}
use Rattle.pk_base.specs.Page.{Flash}
use Rattle.pk_plan.specs.declared.owner.Owner.{Owner}
use Rattle.pk_pool.{specs.Blocks.given_back, specs.Blocks.freed, specs.Blocks.used_by, specs.Blocks.PoolOnFlash, specs.Unready.unready}
use Rattle.pk_merge.specs.Jobs.{AreOwned}
use Rattle.pk_merge.proofs.job.leave_blocks.Given as goal

-- the blocks that remain to leave are owned, and once those are freed that left, it is as if these were given back as well
abbrev pub invariant-loop-block : goal.invariant-loop-block
invariant-loop-block g l = record {
  owned : AreOwned (freed l.pool) (drop l.block-index l.blocks);
  rest : given_back (freed l.pool) (drop l.block-index l.blocks) ≡ given_back (freed l.initial.pool) l.blocks;
  fits : (flash : Flash) → PoolOnFlash (freed l.initial.pool) flash → PoolOnFlash (freed l.pool) flash;
  counted : (o : Owner) → used_by o l.pool.states ≡ used_by o l.initial.pool.states;
  as_many : unready (freed l.pool).states ≡ unready (freed l.initial.pool).states;
}
