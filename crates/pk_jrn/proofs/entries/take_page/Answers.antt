use Rattle.std.proofs.Common.{arith}
use Rattle.pk_jrn.proofs.Replaying.{page_taken, page_of_others, page_of_another, no_page}
use Rattle.pk_jrn.proofs.entries.take_page.Goals as goal

pub returns-in-Err : goal.returns-in-Err
returns-in-Err g c =
    no_page c.args.shape.now c.args.spaces c.args.number c.args.index c.args.page.now c.args.into.now c.decode.result c.in-Err.field-0
    (omega (arith, c.ranges.number)) c.requires.within c.decode.ensures.read c.in-Err.is

pub returns-then-not-is_of : goal.returns-then-not-is_of
returns-then-not-is_of g c =
    page_of_another c.args.shape.now c.args.spaces c.args.number c.args.index c.args.page.now c.args.into.now c.decode.result c.in-Ok.head
    (omega (arith, c.ranges.number)) c.requires.within c.decode.ensures.read c.in-Ok.is
    c.if-not-is_of.ensures

pub returns-then-not-are_in_spaces : goal.returns-then-not-are_in_spaces
returns-then-not-are_in_spaces g c =
    let same = c.if-not-is_of.ensures in
    let reads = rw (same.0, same.1) at c.in-Ok.ensures.reads in
    page_of_others c.args.shape.now c.args.spaces c.args.number c.args.index c.in-Ok.head.count c.args.page.now c.args.into.now
    (omega (arith, c.ranges.number)) c.requires.within reads c.if-not-are_in_spaces.ensures

pub returns-else-not-are_in_spaces : goal.returns-else-not-are_in_spaces
returns-else-not-are_in_spaces g c =
    let same = c.if-not-is_of.ensures in
    let reads = rw (same.0, same.1) at c.in-Ok.ensures.reads in
    page_taken c.args.shape.now c.args.spaces c.args.number c.args.index c.in-Ok.head.count c.args.page.now c.args.into.now c.put_all.result c.put_all.new.into
    (omega (arith, c.ranges.number)) c.requires.within reads c.if-not-are_in_spaces.ensures c.put_all.ensures
