use Rattle.std.proofs.Common.{refl}
use Rattle.pk_redo.proofs.Stepping.{erase_written}
use Rattle.pk_redo.proofs.step.put_erase.Goals as goal

pub returns-clause-read : goal.returns-clause-read
returns-clause-read c from marks =
    erase_written c.args.shape.now _ _ _ c.args.at _ _ c.requires.fits c.put_number.ensures.others c.put_number-2.ensures.others c.put_number.ensures.len c.put_number-2.ensures.len
    c.put_number.ensures.written c.put_number-2.ensures.written from marks _ refl refl c.requires.exists
