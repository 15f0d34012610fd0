use Rattle.std.proofs.Common.{arith}
use Rattle.pk_live.proofs.Blocks.{value_exists}
use Rattle.pk_scan.proofs.values.check_page.Goals as goal

pub overflow_add-place : goal.overflow_add-place
overflow_add-place g c =
    let less = value_exists c.args.shape.now c.args.place c.args.i c.page_count.ensures.shape c.requires.place c.requires.within in
    omega (arith, less, c.page_count.ensures.value, c.page_count.type_inv)

pub overflow_add-result : goal.overflow_add-result
overflow_add-result g c =
    let less = value_exists c.args.shape.now c.args.place c.args.i c.page_count.ensures.shape c.requires.place c.requires.within in
    omega (arith, less, c.page_count.ensures.value, c.page_count.type_inv)

pub overflow_add-result-in-Ok : goal.overflow_add-result-in-Ok
overflow_add-result-in-Ok g c =
    let less = value_exists c.args.shape.now c.args.place c.args.i c.page_count.ensures.shape c.requires.place c.requires.within in
    omega (arith, less, c.page_count.ensures.value, c.page_count.type_inv)

pub read-requires-clause-exists : goal.read-requires-clause-exists
read-requires-clause-exists g c =
    let less = value_exists c.args.shape.now c.args.place c.args.i c.page_count.ensures.shape c.requires.place c.requires.within in
    let size = c.requires.ready.flash.size in
    omega (arith, less, size)
