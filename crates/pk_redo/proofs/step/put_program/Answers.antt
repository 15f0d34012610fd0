use Rattle.std.proofs.Common.{refl, arith}
use Rattle.pk_redo.proofs.Stepping.{program_written}
use Rattle.pk_redo.proofs.step.put_program.Goals as goal

pub returns-clause-read : goal.returns-clause-read
returns-clause-read c from marks =
    program_written c.args.shape.now _ _ _ c.args.at _ _ (omega (arith, c.requires.fits)) c.put_number.ensures.others c.put_number-2.ensures.others c.put_number.ensures.len
    c.put_number-2.ensures.len c.put_number.ensures.written c.put_number-2.ensures.written c.args.front.now _ from marks refl c.known.ensures c.requires.exists c.requires.short
    (omega (arith, c.requires.fits, c.put_number.ensures.len, c.put_number-2.ensures.len)) c.put_text.ensures.front c.put_text.ensures.back c.put_text.ensures.len
