use Rattle.std.proofs.Common.{refl, arith}
use Rattle.pk_redo.proofs.Batches.{seals}
use Rattle.pk_redo.proofs.batch.seal.Goals as goal

pub returns-clause-sealed : goal.returns-clause-sealed
returns-clause-sealed c =
    (seals c.args.batch.now _ c.put_number.new.bytes c.put_number-2.new.bytes _ _ (omega arith) (omega arith) refl c.put_number.ensures.others c.put_number-2.ensures.others
    c.put_number.auto.bytes c.put_number-2.auto.bytes c.put_number.ensures.written c.put_number-2.ensures.written c.tally_of-count.ensures).0

pub returns-clause-body : goal.returns-clause-body
returns-clause-body c =
    (seals c.args.batch.now _ c.put_number.new.bytes c.put_number-2.new.bytes _ _ (omega arith) (omega arith) refl c.put_number.ensures.others c.put_number-2.ensures.others
    c.put_number.auto.bytes c.put_number-2.auto.bytes c.put_number.ensures.written c.put_number-2.ensures.written c.tally_of-count.ensures).1
