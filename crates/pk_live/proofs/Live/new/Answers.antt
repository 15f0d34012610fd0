use Rattle.std.proofs.Common.{arith, rules, ◌≡◌, ◌*◌, ◌<◌, false, replicate}
use Rattle.pk_live.proofs.Counts.{counted_none}
use Rattle.pk_live.proofs.Live.new.Goals as goal

pub invariant_of-result : goal.invariant_of-result
invariant_of-result g c =
    let shape = c.block_pages.ensures.shape in
    let n = c.args.shape.block_pages in
    let m = c.args.shape.blocks in
    let hs : c.in_ok-heads.heads.items ≡ replicate (n * m) 0 = search rules in
    let cs : c.in_ok-counts.counts.items ≡ replicate m 0 = search rules in
    let cl : c.in_ok-closed.closed.items ≡ replicate m false = search rules in
    let pos : 0 < n = omega (arith, shape.block_least) in
    rw (hs, cs, cl, c.block_pages.ensures.value) (counted_none n m pos shape.block_most shape.blocks_most)
