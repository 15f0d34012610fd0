use Rattle.std.proofs.Common.{[], ◌∷◌, refl, arith}
use Rattle.pk_walk.proofs.Rows.{Rows, Rows-start, Rows-may, Rows-next, Rows-stays, Rows-failed, Rows-goes_on, Rows-shows, run_at, all_ended}
use Rattle.pk_walk.proofs.cursors.Cursors.seek.Goals.{After-seek, In-Ok, In-Ok-seek, In-Ok-seek-2, In-Ok-seek-3}
use Rattle.pk_walk.proofs.cursors.Cursors.seek.Given as given
use Rattle.pk_walk.proofs.cursors.Cursors.seek.Goals as goal

-- before the search in the first run
after_none : (g : given.Over) (c : After-seek g) → Rows c.args.levels.now c.args.arena.now c.args.position.now (g.B.Nand.state c.args.board.now) (g.B.Nand.state c.args.board.now)
    (c.self.inside.first ∷ c.self.inside.second ∷ c.self.inside.third ∷ c.self.inside.fourth ∷ []) (c.self.inside.first ∷ c.self.inside.second ∷ c.self.inside.third ∷ c.self.inside.fourth ∷ [])
after_none g c =
    Rows-start c.args.levels.now c.args.arena.now c.args.position.now (g.B.Nand.state c.args.board.now) _ c.requires.ready
    (rw (← c.self.view_is) at c.requires.shape) (rw (← c.self.view_is) at c.requires.follow)

-- after it, in the first run
after_one : (g : given.Over) (c : In-Ok g) → Rows c.args.levels.now c.args.arena.now c.args.position.now (g.B.Nand.state c.args.board.now) (g.B.Nand.state c.args.board.now)
    (c.self.inside.first ∷ c.self.inside.second ∷ c.self.inside.third ∷ c.self.inside.fourth ∷ []) (c.self.inside.first ∷ c.self.inside.second ∷ c.self.inside.third ∷ c.self.inside.fourth ∷ [])
    → Rows c.args.levels.now c.args.arena.now c.args.position.now (g.B.Nand.state c.args.board.now) (g.B.Nand.state c.seek.new.board)
    (c.self.inside.first ∷ c.self.inside.second ∷ c.self.inside.third ∷ c.self.inside.fourth ∷ []) (c.seek.new.cursor ∷ c.self.inside.second ∷ c.self.inside.third ∷ c.self.inside.fourth ∷ [])
after_one g c at = Rows-next at c.known.ensures.levels 0 (omega arith) c.run.ensures.run refl c.in-Ok.ensures.on c.in-Ok.ensures.shows

-- after it, in the second
after_two : (g : given.Over) (c : In-Ok-seek g) → Rows c.args.levels.now c.args.arena.now c.args.position.now (g.B.Nand.state c.args.board.now) (g.B.Nand.state c.seek.new.board)
    (c.self.inside.first ∷ c.self.inside.second ∷ c.self.inside.third ∷ c.self.inside.fourth ∷ []) (c.seek.new.cursor ∷ c.self.inside.second ∷ c.self.inside.third ∷ c.self.inside.fourth ∷ [])
    → Rows c.args.levels.now c.args.arena.now c.args.position.now (g.B.Nand.state c.args.board.now) (g.B.Nand.state c.seek-2.new.board)
    (c.self.inside.first ∷ c.self.inside.second ∷ c.self.inside.third ∷ c.self.inside.fourth ∷ []) (c.seek.new.cursor ∷ c.seek-2.new.cursor ∷ c.self.inside.third ∷ c.self.inside.fourth ∷ [])
after_two g c at = Rows-next at c.known.ensures.levels 1 (omega arith) c.run-2.ensures.run refl c.in-Ok-seek.ensures.on c.in-Ok-seek.ensures.shows

-- after it, in the third
after_three : (g : given.Over) (c : In-Ok-seek-2 g) → Rows c.args.levels.now c.args.arena.now c.args.position.now (g.B.Nand.state c.args.board.now) (g.B.Nand.state c.seek-2.new.board)
    (c.self.inside.first ∷ c.self.inside.second ∷ c.self.inside.third ∷ c.self.inside.fourth ∷ []) (c.seek.new.cursor ∷ c.seek-2.new.cursor ∷ c.self.inside.third ∷ c.self.inside.fourth ∷ [])
    → Rows c.args.levels.now c.args.arena.now c.args.position.now (g.B.Nand.state c.args.board.now) (g.B.Nand.state c.seek-3.new.board)
    (c.self.inside.first ∷ c.self.inside.second ∷ c.self.inside.third ∷ c.self.inside.fourth ∷ []) (c.seek.new.cursor ∷ c.seek-2.new.cursor ∷ c.seek-3.new.cursor ∷ c.self.inside.fourth ∷ [])
after_three g c at = Rows-next at c.known.ensures.levels 2 (omega arith) c.run-3.ensures.run refl c.in-Ok-seek-2.ensures.on c.in-Ok-seek-2.ensures.shows

-- after it, in the fourth
after_four : (g : given.Over) (c : In-Ok-seek-3 g) → Rows c.args.levels.now c.args.arena.now c.args.position.now (g.B.Nand.state c.args.board.now) (g.B.Nand.state c.seek-3.new.board)
    (c.self.inside.first ∷ c.self.inside.second ∷ c.self.inside.third ∷ c.self.inside.fourth ∷ []) (c.seek.new.cursor ∷ c.seek-2.new.cursor ∷ c.seek-3.new.cursor ∷ c.self.inside.fourth ∷ [])
    → Rows c.args.levels.now c.args.arena.now c.args.position.now (g.B.Nand.state c.args.board.now) (g.B.Nand.state c.seek-4.new.board)
    (c.self.inside.first ∷ c.self.inside.second ∷ c.self.inside.third ∷ c.self.inside.fourth ∷ []) (c.seek.new.cursor ∷ c.seek-2.new.cursor ∷ c.seek-3.new.cursor ∷ c.seek-4.new.cursor ∷ [])
after_four g c at = Rows-next at c.known.ensures.levels 3 (omega arith) c.run-4.ensures.run refl c.in-Ok-seek-3.ensures.on c.in-Ok-seek-3.ensures.shows

pub seek-requires-2 : goal.seek-requires-2
seek-requires-2 g c =
    let at = goal.at.seek-requires-2 g c in
    record { may = Rows-may (after_one g at.In-Ok (after_none g at.After-seek)) c.known.ensures.levels 1 (omega arith) c.run-2.ensures.run refl }

pub seek-requires-3 : goal.seek-requires-3
seek-requires-3 g c =
    let at = goal.at.seek-requires-3 g c in
    record { may = Rows-may (after_two g at.In-Ok-seek (after_one g at.In-Ok (after_none g at.After-seek))) c.known.ensures.levels 2 (omega arith) c.run-3.ensures.run refl }

pub seek-requires-4 : goal.seek-requires-4
seek-requires-4 g c =
    let at = goal.at.seek-requires-4 g c in
    let rows = after_three g at.In-Ok-seek-2 (after_two g at.In-Ok-seek (after_one g at.In-Ok (after_none g at.After-seek))) in
    record { may = Rows-may rows c.known.ensures.levels 3 (omega arith) c.run-4.ensures.run refl }

pub returns-in-Err-clause-go_on : goal.returns-in-Err-clause-go_on
returns-in-Err-clause-go_on g c =
    let at = goal.at.returns-in-Err-clause-go_on g c in
    rw (← c.self.view_is) (Rows-stays (after_none g at.After-seek) c.known.ensures.levels 0 (omega arith) c.run.ensures.run refl c.in-Err.ensures.on)

pub returns-in-Err-seek-clause-go_on : goal.returns-in-Err-seek-clause-go_on
returns-in-Err-seek-clause-go_on g c =
    let at = goal.at.returns-in-Err-seek-clause-go_on g c in
    rw (← c.self.view_is) (Rows-stays (after_one g at.In-Ok (after_none g at.After-seek)) c.known.ensures.levels 1 (omega arith) c.run-2.ensures.run refl c.in-Err-seek.ensures.on)

pub returns-in-Err-seek-clause-err : goal.returns-in-Err-seek-clause-err
returns-in-Err-seek-clause-err g c =
    let at = goal.at.returns-in-Err-seek-clause-err g c in
    rw (← c.self.view_is) (Rows-failed (after_one g at.In-Ok (after_none g at.After-seek)) c.known.ensures.levels 1 (omega arith) c.run-2.ensures.run refl c.in-Err-seek.ensures.err)

pub returns-in-Err-seek-2-clause-go_on : goal.returns-in-Err-seek-2-clause-go_on
returns-in-Err-seek-2-clause-go_on g c =
    let at = goal.at.returns-in-Err-seek-2-clause-go_on g c in
    let rows = after_two g at.In-Ok-seek (after_one g at.In-Ok (after_none g at.After-seek)) in
    rw (← c.self.view_is) (Rows-stays rows c.known.ensures.levels 2 (omega arith) c.run-3.ensures.run refl c.in-Err-seek-2.ensures.on)

pub returns-in-Err-seek-2-clause-err : goal.returns-in-Err-seek-2-clause-err
returns-in-Err-seek-2-clause-err g c =
    let at = goal.at.returns-in-Err-seek-2-clause-err g c in
    let rows = after_two g at.In-Ok-seek (after_one g at.In-Ok (after_none g at.After-seek)) in
    rw (← c.self.view_is) (Rows-failed rows c.known.ensures.levels 2 (omega arith) c.run-3.ensures.run refl c.in-Err-seek-2.ensures.err)

pub returns-in-Err-seek-3-clause-go_on : goal.returns-in-Err-seek-3-clause-go_on
returns-in-Err-seek-3-clause-go_on g c =
    let at = goal.at.returns-in-Err-seek-3-clause-go_on g c in
    let rows = after_three g at.In-Ok-seek-2 (after_two g at.In-Ok-seek (after_one g at.In-Ok (after_none g at.After-seek))) in
    rw (← c.self.view_is) (Rows-stays rows c.known.ensures.levels 3 (omega arith) c.run-4.ensures.run refl c.in-Err-seek-3.ensures.on)

pub returns-in-Err-seek-3-clause-err : goal.returns-in-Err-seek-3-clause-err
returns-in-Err-seek-3-clause-err g c =
    let at = goal.at.returns-in-Err-seek-3-clause-err g c in
    let rows = after_three g at.In-Ok-seek-2 (after_two g at.In-Ok-seek (after_one g at.In-Ok (after_none g at.After-seek))) in
    rw (← c.self.view_is) (Rows-failed rows c.known.ensures.levels 3 (omega arith) c.run-4.ensures.run refl c.in-Err-seek-3.ensures.err)

pub returns-clause-go_on : goal.returns-clause-go_on
returns-clause-go_on g c =
    let at = goal.at.returns-clause-go_on g c in
    rw (← c.self.view_is) (Rows-goes_on (after_four g at.In-Ok-seek-3 (after_three g at.In-Ok-seek-2 (after_two g at.In-Ok-seek (after_one g at.In-Ok (after_none g at.After-seek))))))

pub returns-clause-shows : goal.returns-clause-shows
returns-clause-shows g c =
    let at = goal.at.returns-clause-shows g c in
    let is = c.known.ensures.levels in
    rw (← c.self.view_is) (Rows-shows (after_four g at.In-Ok-seek-3 (after_three g at.In-Ok-seek-2 (after_two g at.In-Ok-seek (after_one g at.In-Ok (after_none g at.After-seek)))))
    (c.in-Ok.ensures.shows.known, (c.in-Ok-seek.ensures.shows.known, (c.in-Ok-seek-2.ensures.shows.known, (c.in-Ok-seek-3.ensures.shows.known, tt))))
    (λ ends none all.
    all_ended c.args.levels.now.runs (c.seek.new.cursor ∷ c.seek-2.new.cursor ∷ c.seek-3.new.cursor ∷ c.seek-4.new.cursor ∷ []) is.four
    (c.run.result.now, c.seek.new.cursor, run_at is 0 (omega arith) c.run.ensures.run, refl, c.in-Ok.ensures.shows.ended ends.0 none all.0)
    (c.run-2.result.now, c.seek-2.new.cursor, run_at is 1 (omega arith) c.run-2.ensures.run, refl, c.in-Ok-seek.ensures.shows.ended ends.1.0 none all.1.0)
    (c.run-3.result.now, c.seek-3.new.cursor, run_at is 2 (omega arith) c.run-3.ensures.run, refl, c.in-Ok-seek-2.ensures.shows.ended ends.1.1.0 none all.1.1.0)
    (c.run-4.result.now, c.seek-4.new.cursor, run_at is 3 (omega arith) c.run-4.ensures.run, refl, c.in-Ok-seek-3.ensures.shows.ended ends.1.1.1.0 none all.1.1.1.0)))
