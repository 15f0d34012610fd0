use Rattle.std.proofs.Common.{◌∙◌, ◌≤◌, arith}
use Rattle.pk_live.proofs.Counts.{sum-le-pages}
use Rattle.pk_scan.proofs.Taking.{named_refuses, overlap_refuses, counts_decide}
use Rattle.pk_scan.proofs.taken.has_room.Goals as goal

pub overflow_add-pages : goal.overflow_add-pages
overflow_add-pages g c =
    let k = c.known.ensures in
    let total = sum-le-pages c.args.live.now.heads c.args.live.now.block_pages _ k.small k.few k.pages k.short in
    let block : c.args.shape.now.block_pages ≤ 256 = c.page_count.ensures.shape.block_most in
    omega (arith, total, block, c.total.ensures, c.charge-count.ensures.most)

pub returns-then-is_owned : goal.returns-then-is_owned
returns-then-is_owned g c taken lives =
    named_refuses c.page_count.ensures.shape c.requires.place lives c.is_owned.result (rw c.block_pages.ensures.value at c.is_owned.ensures) c.if-is_owned.true

pub returns-then-overlaps : goal.returns-then-overlaps
returns-then-overlaps g c taken lives =
    overlap_refuses c.page_count.ensures.shape c.requires.place lives c.is_owned.result c.overlaps.result (rw c.block_pages.ensures.value at c.is_owned.ensures) c.if-is_owned.false
    (rw c.charge-count.ensures.value at c.overlaps.ensures) c.if-overlaps.true

pub returns : goal.returns
returns g c taken lives =
    (rw c.charge-count.ensures.value at c.are_few.ensures)
    ∙ counts_decide c.page_count.ensures.shape c.requires.place lives c.is_owned.result c.overlaps.result c.total.result c.blocks_used.result
    (rw c.block_pages.ensures.value at c.is_owned.ensures) c.if-is_owned.false (rw c.charge-count.ensures.value at c.overlaps.ensures) c.if-overlaps.false c.total.ensures
    (rw c.block_pages.ensures.value at c.blocks_used.ensures.value)
