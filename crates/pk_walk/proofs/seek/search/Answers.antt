use Rattle.std.proofs.Common.{ap, arith, rules}
use Rattle.pk_walk.{specs.Walking.Cursor, proofs.Moving.AtPage, proofs.Moving.at_page, proofs.Moving.at_fits, proofs.Moving.found_at, proofs.Moving.none_forth}
use Rattle.pk_walk.proofs.Seeking.{Seeking, Seeking-start, Seeking-looked, Seeking-moved, Seeking-finds, Seeking-goes_on, Seeking-none, Seeking-stays, Seeking-fails, looked_page}
use Rattle.pk_walk.proofs.seek.search.Goals.{In-Ok}
use Rattle.pk_walk.proofs.seek.search.Given as given
use Rattle.pk_walk.proofs.seek.search.Goals as goal

-- a page was looked at
looked : (g : given.Over) (c : In-Ok g)
    → Seeking c.args.run.now c.args.arena.now c.args.position.now (g.B.Nand.state c.args.board.now) (g.B.Nand.state c.look.new.board) c.args.cursor.now c.look.new.self
looked g c = Seeking-looked c.loop-cursor.invariant.seeking c.in-Ok.ensures.stays c.in-Ok.ensures.looks

-- it is the page of the place
here : (g : given.Over) (c : In-Ok g) → AtPage c.args.run.now (g.B.Nand.state c.args.board.now).pages c.args.arena.now c.look.new.self
here g c = search (arith, looked_page)

pub loop-cursor-init : goal.loop-cursor-init
loop-cursor-init g c = record {
  ready = c.requires.may.ready;
  seeking = Seeking-start c.requires.may.stands c.requires.may.follows c.begin.ensures.follows c.begin.ensures.place c.begin.ensures.passed c.requires.sought;
}

pub skip-requires-clause-page : goal.skip-requires-clause-page
skip-requires-clause-page g c =
    let at = goal.at.skip-requires-clause-page g c in
    at_page c.known.ensures.shape c.known.ensures.kept c.loop-cursor.invariant.seeking.stands (here g at.In-Ok) c.requires.may.ready.flash

pub skip-requires-clause-fits : goal.skip-requires-clause-fits
skip-requires-clause-fits g c =
    let at = goal.at.skip-requires-clause-fits g c in
    let room = at_fits c.known.ensures.shape c.known.ensures.kept c.loop-cursor.invariant.seeking.stands (here g at.In-Ok) in
    omega (arith, room, c.entries.ensures)

pub entry-requires : goal.entry-requires
entry-requires g c =
    let at = goal.at.entry-requires g c in
    let stands = c.loop-cursor.invariant.seeking.stands in
    let there = found_at c.known.ensures.shape c.known.ensures.kept stands (here g at.In-Ok) c.skip.ensures c.if-skip.true in
    at_page c.known.ensures.shape c.known.ensures.kept stands there c.requires.may.ready.flash

pub returns-then-skip-clause-finds : goal.returns-then-skip-clause-finds
returns-then-skip-clause-finds g c =
    let at = goal.at.returns-then-skip-clause-finds g c in
    Seeking-finds (looked g at.In-Ok) c.known.ensures.shape c.known.ensures.kept (here g at.In-Ok) c.skip.ensures c.if-skip.true c.entry.ensures

pub returns-then-skip-clause-on : goal.returns-then-skip-clause-on
returns-then-skip-clause-on g c =
    let at = goal.at.returns-then-skip-clause-on g c in
    search (Seeking-goes_on (Seeking-moved (looked g at.In-Ok) c.known.ensures.shape c.known.ensures.kept (here g at.In-Ok) c.skip.ensures), rules)

pub loop-cursor-preserved : goal.loop-cursor-preserved
loop-cursor-preserved g c =
    let at = goal.at.loop-cursor-preserved g c in
    search (Seeking-moved (looked g at.In-Ok) c.known.ensures.shape c.known.ensures.kept (here g at.In-Ok) c.skip.ensures)

pub loop-cursor-smaller : goal.loop-cursor-smaller
loop-cursor-smaller g c =
    let at = goal.at.loop-cursor-smaller g c in
    let forth = none_forth c.known.ensures.shape c.known.ensures.kept c.loop-cursor.invariant.seeking.stands (here g at.In-Ok) c.skip.ensures c.if-skip.false in
    let stays = ap (λ (x : Cursor). x.place) c.in-Ok.ensures.stays.place in
    omega (arith, forth, stays, c.loop-cursor-test.true, c.place.ensures, c.entries.ensures)

pub returns-in-Err-clause-on : goal.returns-in-Err-clause-on
returns-in-Err-clause-on g c =
    search (Seeking-stays c.loop-cursor.invariant.seeking c.in-Err.ensures.stays c.in-Err.ensures.fails.kept, rules)

pub returns-in-Err-clause-err : goal.returns-in-Err-clause-err
returns-in-Err-clause-err g c = search (c.in-Err.ensures.reading, Seeking-fails c.loop-cursor.invariant.seeking c.in-Err.ensures.fails)

pub returns-clause-finds : goal.returns-clause-finds
returns-clause-finds g c =
    Seeking-none c.loop-cursor.invariant.seeking c.known.ensures.shape c.requires.may.shape_is (omega (arith, c.loop-cursor-test.false, c.place.ensures, c.entries.ensures))

pub returns-clause-on : goal.returns-clause-on
returns-clause-on g c = record { goes_on = Seeking-goes_on c.loop-cursor.invariant.seeking; same = search rules; ready = search rules }
