use Rattle.std.{proofs.Common.◌<◌, proofs.Common.length, proofs.Common.arith, proofs.lemmas.List.get_or_default, proofs.lemmas.List.Edits.map_over_more}
use Rattle.pk_pool.specs.Blocks.{freed_state}
use Rattle.pk_pool.proofs.pool.release.Goals as goal

pub loop-state-preserved : goal.loop-state-preserved
loop-state-preserved g c =
    let inside : c.loop-state.state-index < length c.deref_mut-state-items.result.now = omega arith in
    let held : c.loop-state.state-index < length c.loop-state.state-items = omega arith in
    rw c.freed_state.ensures (map_over_more freed_state _ _ _ _ inside c.loop-state.invariant (get_or_default _ _ _ _ held))
