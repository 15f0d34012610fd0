use Rattle.std.proofs.Common.{sym, subst}
use Rattle.pk_pool.specs.Blocks.{Blocks, freed}
use Rattle.pk_merge.{specs.Jobs.LeavesBlocks, proofs.Freeing.freed_others}
use Rattle.pk_merge.proofs.job.MergeJob.leave.Goals as goal

pub returns-clause-blocks : goal.returns-clause-blocks
returns-clause-blocks g c =
    let left = rw c.blocks-2.ensures at c.leave_blocks.ensures.left in
    subst (λ (q : Blocks). LeavesBlocks c.args.former.blocks (freed c.args.pool.now) q) (sym left) (freed_others (freed c.args.pool.now) c.args.former.blocks)
