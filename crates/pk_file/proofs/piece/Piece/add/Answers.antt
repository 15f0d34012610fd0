use Rattle.std.proofs.Common.{arith}
use Rattle.pk_file.proofs.Gathering.{grows_room, grows_start, grows_none}
use Rattle.pk_file.proofs.piece.Piece.add.Goals as goal

pub returns-then-has_room-clause-grows : goal.returns-then-has_room-clause-grows
returns-then-has_room-clause-grows g c is =
    grows_room _ _ _ _ _ _ _ _ _ _ _ c.append.ensures.first (c.has_room.ensures.some c.if-has_room.true) c.requires.front c.requires.need (c.has_room.ensures.need c.if-has_room.true)
    (omega (arith, c.append.ensures.gap is, c.page_bytes-size.ensures)) (c.append.ensures.bytes is)

pub returns-then-need-eq0-clause-grows : goal.returns-then-need-eq0-clause-grows
returns-then-need-eq0-clause-grows g c is =
    grows_none _ _ _ _ _ _ _ _ _ _ _ _ (c.write.ensures.steps c.if-not-write.false) c.write.ensures.none c.requires.front (omega (arith, c.if-need-eq0.true))

pub returns-clause-grows : goal.returns-clause-grows
returns-clause-grows g c is =
    grows_start _ _ _ _ _ _ _ _ _ _ _ _ _ (c.write.ensures.steps c.if-not-write.false) c.write.ensures.none c.append-2.ensures.first c.requires.front c.requires.need
    (omega (arith, c.if-need-eq0.false)) (omega (arith, c.append-2.ensures.gap is, c.page_bytes-size.ensures)) (c.append-2.ensures.bytes is)
