use Rattle.std.proofs.Common.{ap, true}
use Rattle.pk_parts.specs.Parts.{Parts}
use Rattle.pk_pool.proofs.Leaving.{unfreed_fits}
use Rattle.pk_background.proofs.Advancing.{erase_advances, idle_advances, erase_failed}
use Rattle.pk_background.proofs.tick.erase_step.Goals as goal

pub erase_spare-requires-clause-fits : goal.erase_spare-requires-clause-fits
erase_spare-requires-clause-fits g c = unfreed_fits c.args.parts.now.pool (g.B.Nand.state c.args.board.now).pages c.requires.may.agrees.with.placed.fits

pub returns-in-Ok-true : goal.returns-in-Ok-true
returns-in-Ok-true g c =
    let e = c.erase_spare.ensures in
    let r = c.requires in
    let is = c.in-Ok-true in
    erase_advances _ _ _ r.may r.whole _ (rw is.field-0-test at is.ensures.erased) is.ensures.rest e.shared e.ready e.owned e.fits
    r.merged r.frozen r.reclaimed r.filled

pub returns-in-Ok-false : goal.returns-in-Ok-false
returns-in-Ok-false g c =
    let r = c.requires in
    let is = c.in-Ok-false in
    idle_advances _ _ _ r.may r.whole _ (rw is.field-0-test at is.ensures.erased) is.ensures.rest r.merged r.frozen r.reclaimed r.filled

pub returns-in-Err : goal.returns-in-Err
returns-in-Err g c =
    let r = c.requires in
    let e = c.in-Err.ensures in
    rw (c.stop.ensures.stopped, c.stop.ensures.value)
    (erase_failed _ _ _ r.may r.whole (record c.erase_spare.new.parts { stopped = true }) e.failed (ap (λ (d : Parts). record d { stopped = true }) e.kept)
    c.erase_spare.ensures.shared c.erase_spare.ensures.ready r.merged r.frozen r.reclaimed r.filled)
