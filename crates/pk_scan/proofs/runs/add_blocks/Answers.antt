use Rattle.std.proofs.lemmas.Option.{slice_get-get_or}
use Rattle.pk_scan.proofs.Loading.{block_added}
use Rattle.pk_scan.proofs.runs.add_blocks.Goals as goal

pub loop-block-preserved : goal.loop-block-preserved
loop-block-preserved g c = record {
  added = block_added c.args.into.now c.loop-block.into c.push_block.new.self c.args.blocks.now c.loop-block.block-index _
      (slice_get-get_or c.args.blocks.now c.loop-block.block-index 0 c.loop-block-test.true) c.loop-block.invariant.added c.push_block.ensures.added;
  stands = λ flash arena es s. c.push_block.ensures.stands flash arena es (c.loop-block.invariant.stands flash arena es s);
}
