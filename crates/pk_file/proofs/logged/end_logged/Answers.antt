use Rattle.std.proofs.Common.{refl}
use Rattle.pk_file.specs.Slots.{pages_of}
use Rattle.pk_file.proofs.Logging.{call_reads}
use Rattle.pk_file.proofs.logged.end_logged.Goals as goal

pub returns-in-Ok-clause-crash : goal.returns-in-Ok-clause-crash
returns-in-Ok-clause-crash g c clean start trail least k =
    call_reads g.D.Disk c.args.shape.now start trail least c.args.redo.now c.finish.new.self (pages_of c.args.slots.now.items) c.finish.ensures.shape k
    (λ kept h. c.finish.ensures.keeps clean kept (pages_of c.args.slots.now.items) h refl)

pub returns-in-Ok-clause-alone : goal.returns-in-Ok-clause-alone
returns-in-Ok-clause-alone g c is clean start trail least k = c.in-Ok.ensures.done clean k.kept (pages_of c.args.slots.now.items) k.keeps refl

pub returns-in-Err-clause-crash : goal.returns-in-Err-clause-crash
returns-in-Err-clause-crash g c clean start trail least k =
    call_reads g.D.Disk c.args.shape.now start trail least c.args.redo.now c.finish.new.self (pages_of c.args.slots.now.items) c.finish.ensures.shape k
    (λ kept h. c.finish.ensures.keeps clean kept (pages_of c.args.slots.now.items) h refl)
