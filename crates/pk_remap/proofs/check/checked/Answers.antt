use Rattle.std.proofs.Common.{arith}
use Rattle.pk_remap.proofs.TableLemmas.{room}
use Rattle.pk_remap.proofs.check.checked.Goals as goal

pub check_list-requires-clause-room : goal.check_list-requires-clause-room
check_list-requires-clause-room c =
    room c.args.shape.now c.args.spares c.args.page.now
    (λ i. omega (arith, c.type_inv.page i)) c.requires.sized c.known.ensures c.requires.few c.in_ok-check_head.ensures
