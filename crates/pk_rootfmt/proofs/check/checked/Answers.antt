use Rattle.std.proofs.Common.{arith}
use Rattle.pk_rootfmt.proofs.PageLemmas.{room}
use Rattle.pk_rootfmt.proofs.check.checked.Goals as goal

pub check_lists-requires-clause-room : goal.check_lists-requires-clause-room
check_lists-requires-clause-room c =
    room c.args.shape.now c.args.page.now (λ i. omega (arith, c.type_inv.page i)) c.requires c.known.ensures c.in_ok-check_shape.ensures c.in_ok-check_numbers.ensures c.in_ok-check_spaces.ensures
