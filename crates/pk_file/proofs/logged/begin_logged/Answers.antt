use Rattle.std.proofs.Common.{refl}
use Rattle.pk_file.specs.Slots.{pages_of}
use Rattle.pk_file.proofs.Logging.{call_reads, call_keeps}
use Rattle.pk_file.proofs.logged.begin_logged.Goals as goal

pub returns-in-Ok-clause-crash : goal.returns-in-Ok-clause-crash
returns-in-Ok-clause-crash g c clean start trail least k =
    call_reads g.D.Disk c.args.shape.now start trail least c.args.redo.now c.begin.new.self (pages_of c.args.slots.now.items) c.begin.ensures.shape k
    (λ kept h. c.begin.ensures.keeps clean kept (pages_of c.args.slots.now.items) h refl)

pub returns-in-Err-clause-crash : goal.returns-in-Err-clause-crash
returns-in-Err-clause-crash g c clean start trail least k =
    call_reads g.D.Disk c.args.shape.now start trail least c.args.redo.now c.begin.new.self (pages_of c.args.slots.now.items) c.begin.ensures.shape k
    (λ kept h. c.begin.ensures.keeps clean kept (pages_of c.args.slots.now.items) h refl)

pub returns-in-Ok-clause-keeps : goal.returns-in-Ok-clause-keeps
returns-in-Ok-clause-keeps g c clean start trail least k =
    call_keeps g.D.Disk c.args.shape.now start trail least c.args.redo.now c.begin.new.self (pages_of c.args.slots.now.items) c.begin.ensures.shape k
    (λ kept h. c.begin.ensures.keeps clean kept (pages_of c.args.slots.now.items) h refl)

pub returns-in-Err-clause-keeps : goal.returns-in-Err-clause-keeps
returns-in-Err-clause-keeps g c clean start trail least k =
    call_keeps g.D.Disk c.args.shape.now start trail least c.args.redo.now c.begin.new.self (pages_of c.args.slots.now.items) c.begin.ensures.shape k
    (λ kept h. c.begin.ensures.keeps clean kept (pages_of c.args.slots.now.items) h refl)
