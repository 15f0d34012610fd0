use Rattle.std.{proofs.Common.arith, proofs.Common.◌/◌, proofs.lemmas.List.get_or_read}
use Rattle.pk_live.proofs.Counts.{counted_set, head_at}
use Rattle.pk_live.proofs.Live.clear.Goals as goal

pub overflow_sub-index_mut : goal.overflow_sub-index_mut
overflow_sub-index_mut g c =
    let here = head_at c.self.inside.block_pages c.self.inside.total c.args.page c.args.count c.self.inside.heads.items c.self.inside.counts.items c.self.inside.closed.items
    c.self.invariant (rw (← c.self.view_is) at c.requires) in
    let read = get_or_read c.self.inside.counts.items (c.args.page / c.self.inside.block_pages) _ here.block c.index_mut-2.ensures.value 0 in
    omega (arith, read, here.count_covers)

pub overflow_sub-self : goal.overflow_sub-self
overflow_sub-self g c =
    let here = head_at c.self.inside.block_pages c.self.inside.total c.args.page c.args.count c.self.inside.heads.items c.self.inside.counts.items c.self.inside.closed.items
    c.self.invariant (rw (← c.self.view_is) at c.requires) in
    omega (arith, here.total_covers)

pub invariant_of-self : goal.invariant_of-self
invariant_of-self g c =
    let here = head_at c.self.inside.block_pages c.self.inside.total c.args.page c.args.count c.self.inside.heads.items c.self.inside.counts.items c.self.inside.closed.items
    c.self.invariant (rw (← c.self.view_is) at c.requires) in
    let read = get_or_read c.self.inside.counts.items (c.args.page / c.self.inside.block_pages) _ here.block c.index_mut-2.ensures.value 0 in
    counted_set c.self.inside.block_pages c.self.inside.total _ _ c.self.inside.heads.items c.self.inside.counts.items c.self.inside.closed.items c.args.page c.args.count 0
    c.self.invariant here.exists (omega arith) here.head (omega (arith, here.total_covers)) (omega (arith, read, here.count_covers))
