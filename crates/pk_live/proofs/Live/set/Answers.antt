use Rattle.std.{proofs.Common.arith, proofs.Common.◌≤◌, proofs.Common.◌+◌, proofs.Common.◌/◌, proofs.Common.◌%◌, proofs.lemmas.List.get_or_read}
use Rattle.pk_live.proofs.Counts.{counted_set, head_at}
use Rattle.pk_live.proofs.Live.set.Goals as goal

pub overflow_add-index_mut : goal.overflow_add-index_mut
overflow_add-index_mut g c =
    let here = head_at c.self.inside.block_pages c.self.inside.total c.args.page 0 c.self.inside.heads.items c.self.inside.counts.items c.self.inside.closed.items
    c.self.invariant (rw (← c.self.view_is) at c.requires.free) in
    let room : c.args.page % c.self.inside.block_pages + c.args.count ≤ c.self.inside.block_pages = rw (← c.self.view_is) at c.requires.inside in
    let read = get_or_read c.self.inside.counts.items (c.args.page / c.self.inside.block_pages) _ here.block c.index_mut-2.ensures.value 0 in
    omega (arith, room, c.self.invariant.small, read, here.count_small)

pub overflow_add-self : goal.overflow_add-self
overflow_add-self g c =
    let here = head_at c.self.inside.block_pages c.self.inside.total c.args.page 0 c.self.inside.heads.items c.self.inside.counts.items c.self.inside.closed.items
    c.self.invariant (rw (← c.self.view_is) at c.requires.free) in
    let room : c.args.page % c.self.inside.block_pages + c.args.count ≤ c.self.inside.block_pages = rw (← c.self.view_is) at c.requires.inside in
    omega (arith, room, c.self.invariant.small, here.total_small)

pub invariant_of-self : goal.invariant_of-self
invariant_of-self g c =
    let here = head_at c.self.inside.block_pages c.self.inside.total c.args.page 0 c.self.inside.heads.items c.self.inside.counts.items c.self.inside.closed.items
    c.self.invariant (rw (← c.self.view_is) at c.requires.free) in
    let room : c.args.page % c.self.inside.block_pages + c.args.count ≤ c.self.inside.block_pages = rw (← c.self.view_is) at c.requires.inside in
    let read = get_or_read c.self.inside.counts.items (c.args.page / c.self.inside.block_pages) _ here.block c.index_mut-2.ensures.value 0 in
    counted_set c.self.inside.block_pages c.self.inside.total _ _ c.self.inside.heads.items c.self.inside.counts.items c.self.inside.closed.items c.args.page 0 c.args.count
    c.self.invariant here.exists (omega (arith, room, c.self.invariant.small)) here.head (omega (arith, room, c.self.invariant.small, here.total_small)) (omega (arith, room, c.self.invariant.small, read, here.count_small))

pub overflow_cast-count : goal.overflow_cast-count
overflow_cast-count g c =
    let room : c.args.page % c.self.inside.block_pages + c.args.count ≤ c.self.inside.block_pages = rw (← c.self.view_is) at c.requires.inside in
    omega (arith, room, c.self.invariant.small)
