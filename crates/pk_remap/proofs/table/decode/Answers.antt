use Rattle.std.proofs.Common.{arith}
use Rattle.pk_remap.proofs.TableLemmas.{used_most, page_room, decoded, decoded_is, page_missing}
use Rattle.pk_remap.proofs.table.decode.Goals as goal

pub read_serves-requires-clause-there : goal.read_serves-requires-clause-there
read_serves-requires-clause-there c =
    let room = page_room c.args.shape.now c.args.spares c.args.page.now
    (λ i. omega (arith, c.type_inv.page i)) c.requires.sized c.known.ensures c.requires.few c.in-Ok.ensures in
    omega (arith, room, c.get_u16-used.ensures)

pub read_serves-requires-clause-room : goal.read_serves-requires-clause-room
read_serves-requires-clause-room c =
    let most = used_most c.args.shape.now c.args.spares c.args.page.now
    (λ i. omega (arith, c.type_inv.page i)) c.requires.sized c.known.ensures c.requires.few c.in-Ok.ensures in
    omega (arith, most, c.get_u16-used.ensures, c.requires.few, c.requires.room)

pub returns-in-Ok-clause-found : goal.returns-in-Ok-clause-found
returns-in-Ok-clause-found c =
    rw (c.get_u16-used.ensures, c.get_u64-number.ensures)
    (decoded c.args.shape.now c.args.spares c.args.page.now
    (λ i. omega (arith, c.type_inv.page i)) c.requires.sized c.known.ensures c.requires.few c.in-Ok.ensures c.read_serves.new.into
    (rw c.get_u16-used.ensures at c.read_serves.ensures.front))

pub returns-in-Ok-clause-grammar : goal.returns-in-Ok-clause-grammar
returns-in-Ok-clause-grammar c =
    rw (c.get_u16-used.ensures, c.get_u64-number.ensures)
    (decoded_is c.args.shape.now c.args.spares c.args.page.now
    (λ i. omega (arith, c.type_inv.page i)) c.requires.sized c.known.ensures c.requires.few c.in-Ok.ensures c.read_serves.new.into
    (rw c.get_u16-used.ensures at c.read_serves.ensures.front))

pub returns-in-Ok-clause-used : goal.returns-in-Ok-clause-used
returns-in-Ok-clause-used c =
    let most = used_most c.args.shape.now c.args.spares c.args.page.now
    (λ i. omega (arith, c.type_inv.page i)) c.requires.sized c.known.ensures c.requires.few c.in-Ok.ensures in
    omega (arith, most, c.get_u16-used.ensures)

pub returns-in-Err-clause-missing : goal.returns-in-Err-clause-missing
returns-in-Err-clause-missing c = page_missing c.args.shape.now c.args.spares c.args.page.now c.in-Err.wrong.at c.known.ensures c.requires.few c.in-Err.ensures
