use Rattle.std.proofs.Common.{◌≡◌, length, ap, ◌∙◌, arith}
use Rattle.pk_redo.proofs.Tables.{fours}
use Rattle.pk_redo.proofs.Records.{header_long, record_there}
use Rattle.pk_redo.proofs.record.put_record.Goals as goal

pub put_table-requires-clause-whole : goal.put_table-requires-clause-whole
put_table-requires-clause-whole c = rw c.requires.states (fours c.args.shape.now c.known.ensures)

pub returns-clause-record : goal.returns-clause-record
returns-clause-record c =
    let sized : length c.header.result ≡ 32 = ap length c.header.ensures ∙ header_long c.args.shape.now in
    rw (← c.header.ensures) (record_there c.args.shape.now c.args.batch.now c.put_text.new.bytes c.put_table.new.batch c.seal.new.batch c.header.result _ (omega (arith, c.requires.room)) sized
    (rw sized at c.put_text.ensures.front) (rw sized at c.put_text.ensures.back) c.put_text.ensures.len c.put_table.ensures.before c.put_table.ensures.len
    (λ k low. c.put_table.ensures.table k (rw c.requires.states low)) c.seal.ensures.body)
