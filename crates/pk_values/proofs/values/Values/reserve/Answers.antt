use Rattle.pk_values.specs.State.{fits_open, next_page}
use Rattle.pk_values.proofs.Filling.{reserved_next, found_next, found_none, opened_by, opened_reserved, opened_free, failed_keeps}
use Rattle.pk_values.proofs.values.Values.reserve.Goals as goal

-- the open block has room

pub returns-in-Some-clause-reserved : goal.returns-in-Some-clause-reserved
returns-in-Some-clause-reserved g c =
    let placed = c.requires.placed in
    let told = found_next (fits_open c.args.shape.now c.args.self.now c.args.count)
    (next_page c.args.shape.now c.args.self.now) c.in-Some.page c.next_in_open.result c.next_in_open.ensures c.in-Some.is in
    reserved_next c.args.shape.now c.args.self.now c.args.pool.now placed.0 (g.B.Nand.state c.args.board.now).pages placed.1 c.in-Some.page c.args.count placed.2 c.requires.some told.0 told.1

-- another block is opened

pub returns-in-Ok-clause-reserved : goal.returns-in-Ok-clause-reserved
returns-in-Ok-clause-reserved g c =
    let placed = c.requires.placed in
    let no_room = found_none (fits_open c.args.shape.now c.args.self.now c.args.count) (next_page c.args.shape.now c.args.self.now) c.next_in_open.result c.next_in_open.ensures c.in-None.is in
    let ok = c.in-Ok.ensures in
    rw (c.open_next.ensures, c.block_pages.ensures.value)
    (opened_reserved c.args.shape.now c.args.self.now c.args.pool.now c.take.new.self placed.0 (g.B.Nand.state c.args.board.now) (g.B.Nand.state c.take.new.board) c.in-Ok.block placed.1 placed.2
    ok.spare ok.place ok.taken ok.counted ok.erased ok.cuts c.take.ensures.fits c.args.count c.requires.room no_room c.requires.some c.requires.most)

pub returns-in-Ok-clause-placed : goal.returns-in-Ok-clause-placed
returns-in-Ok-clause-placed g c outputs es placed =
    let no_room = found_none (fits_open c.args.shape.now c.args.self.now c.args.count) (next_page c.args.shape.now c.args.self.now) c.next_in_open.result c.next_in_open.ensures c.in-None.is in
    let ok = c.in-Ok.ensures in
    rw c.open_next.ensures
    (opened_by c.args.shape.now c.args.self.now c.args.pool.now c.take.new.self outputs (g.B.Nand.state c.args.board.now) (g.B.Nand.state c.take.new.board) c.in-Ok.block es placed
    ok.spare ok.place ok.taken ok.counted ok.erased ok.cuts c.take.ensures.fits c.args.count c.requires.room no_room)

pub returns-in-Ok-clause-free : goal.returns-in-Ok-clause-free
returns-in-Ok-clause-free g c outputs es placed =
    let no_room = found_none (fits_open c.args.shape.now c.args.self.now c.args.count) (next_page c.args.shape.now c.args.self.now) c.next_in_open.result c.next_in_open.ensures c.in-None.is in
    let ok = c.in-Ok.ensures in
    rw c.block_pages.ensures.value
    (opened_free c.args.shape.now c.args.self.now c.args.pool.now c.take.new.self outputs (g.B.Nand.state c.args.board.now) (g.B.Nand.state c.take.new.board) c.in-Ok.block es placed
    ok.spare ok.place ok.taken ok.counted ok.erased ok.cuts c.take.ensures.fits c.args.count c.requires.room no_room c.requires.some c.requires.most)

-- the erase failed

pub returns-in-Err-clause-placed : goal.returns-in-Err-clause-placed
returns-in-Err-clause-placed g c outputs es placed =
    let err = c.in-Err.ensures in
    let fits = rw err.kept at c.take.ensures.fits in
    rw err.kept (failed_keeps c.args.shape.now c.args.self.now c.args.pool.now outputs (g.B.Nand.state c.args.board.now) (g.B.Nand.state c.take.new.board) es placed err.failed fits)
