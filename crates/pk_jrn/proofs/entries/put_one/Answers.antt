use Rattle.std.proofs.Common.{arith, refl}
use Rattle.pk_jrn.proofs.Puts.{full, none_of}
use Rattle.pk_jrn.proofs.entries.put_one.Goals as goal

pub returns-then-is_none : goal.returns-then-is_none
returns-then-is_none g c =
    let absent = rw c.key.ensures at (none_of c.get.result _ _ c.get.ensures c.if-is_none.ensures) in
    (refl, full _ _ _ _ _ c.len.ensures.rising c.room.ensures (omega (arith, c.if-room-eq0.true)) absent)
