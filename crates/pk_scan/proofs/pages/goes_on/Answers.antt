use Rattle.std.proofs.Common.{arith}
use Rattle.pk_scan.proofs.RunPages.{found, found_gone, found_told}
use Rattle.pk_scan.proofs.pages.goes_on.Goals as goal

pub returns-then-not-may_stand-clause-goes_on : goal.returns-then-not-may_stand-clause-goes_on
returns-then-not-may_stand-clause-goes_on c before up ends =
    let f = found c.args.shape.now c.args.level c.args.index c.args.count c.args.page.now c.in-Ok.head c.requires.level.0 c.requires.level.1
    (omega (arith, c.ranges.index)) c.if-not-is_head.ensures c.in-Ok.ensures.reads in
    found_gone f c.may_stand.result c.if-not-may_stand.true c.may_stand.ensures before

pub returns-else-not-may_stand-clause-goes_on : goal.returns-else-not-may_stand-clause-goes_on
returns-else-not-may_stand-clause-goes_on c before up ends =
    let f = found c.args.shape.now c.args.level c.args.index c.args.count c.args.page.now c.in-Ok.head c.requires.level.0 c.requires.level.1
    (omega (arith, c.ranges.index)) c.if-not-is_head.ensures c.in-Ok.ensures.reads in
    found_told c.args.spaces f c.may_stand.result c.if-not-may_stand.false c.may_stand.ensures c.args.last.now c.key_at.result c.key_at.ensures c.is_behind.result c.is_behind.ensures before up ends
