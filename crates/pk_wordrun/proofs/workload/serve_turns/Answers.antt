use Rattle.std.proofs.Common.{◌≡◌, suc, ◌+◌, refl, sym, ap, ◌∙◌, arith}
use Rattle.pk_gen.specs.Workload.{after, generator}
use Rattle.pk_serve.proofs.Nexting.{worn_is}
use Rattle.pk_wordrun.proofs.Generating.{generating_none, generating_next, unfinished_turn, unfinished_commit, unfinished_worn}
use Rattle.pk_model.specs.Wear.{is_worn}
use Rattle.pk_wordrun.proofs.workload.serve_turns.Given as given
use Rattle.pk_wordrun.proofs.workload.serve_turns.Goals as goal
use Rattle.pk_wordrun.proofs.workload.serve_turns.Goals.{After-is_worn}

pub loop-turn-init : goal.loop-turn-init
loop-turn-init g c = record {
  running = c.requires.running;
  shape = refl;
  value = c.requires.value;
  room = refl;
  workload = c.new-workload.ensures;
  served = λ m holds. generating_none c.args.start c.args.shape.now m (g.B.Nand.state c.args.board.now)
      (g.D.Engine.sight c.args.drive.now) c.new-summary.result c.requires.room.shape_is c.requires.none holds c.new-summary.ensures;
}

-- what the test of the drive says of the board
worn_there : (g : given.Over) (c : After-is_worn g) → c.is_worn.result ≡ is_worn (g.B.Nand.state c.loop-turn.board)
worn_there g c =
    let v = c.loop-turn.invariant in
    worn_is (g.D.Engine.agrees c.loop-turn.drive) (g.B.Nand.state c.loop-turn.board) c.args.shape.now c.is_worn.result
    (v.shape ∙ c.requires.room.shape_is) v.running.agrees (λ s f h. c.is_worn.ensures s f h v.running.runs)

pub serve_turn-requires-clause-can_serve : goal.serve_turn-requires-clause-can_serve
serve_turn-requires-clause-can_serve g c =
    let v = c.loop-turn.invariant in
    record { running = v.running; unworn = sym (worn_there g (goal.at.serve_turn-requires-clause-can_serve g c).After-is_worn) ∙ c.if-is_worn.false }

pub serve_turn-requires-clause-room : goal.serve_turn-requires-clause-room
serve_turn-requires-clause-room g c =
    let v = c.loop-turn.invariant in
    let list = c.requires.room.buffer.for_list in
    let value = c.requires.room.buffer.for_value in
    let same = v.room in
    record { shape_is = v.shape ∙ c.requires.room.shape_is; buffer = record { for_list = omega (arith, list, same); for_value = omega (arith, value, same) } }

pub loop-turn-preserved : goal.loop-turn-preserved
loop-turn-preserved g c =
    let e = c.in-Ok-serve_turn.ensures in
    let v = c.loop-turn.invariant in
    let next : suc c.loop-turn.turn ≡ c.loop-turn.turn + 1 = omega arith in
    record {
      running = e.running;
      shape = e.shape ∙ v.shape;
      value = (let same = e.value in let had = v.value in omega (arith, same, had));
      room = e.room ∙ v.room;
      workload = e.after ∙ (ap after v.workload ∙ ap (generator c.args.start) next);
      served = λ m holds.
          generating_next _ _ _ _ _ _ _ _ _ (v.served m holds) (g.B.Nand.state c.serve_turn.new.board) (g.D.Engine.sight c.serve_turn.new.drive)
          c.args.count c.loop-turn-test.true c.ranges.count.fits c.loop-turn.workload v.workload c.serve_turn.new.summary e.turn;
    }

pub returns-in-Err-serve_turn-clause-fails : goal.returns-in-Err-serve_turn-clause-fails
returns-in-Err-serve_turn-clause-fails g c = λ m holds.
    let v = c.loop-turn.invariant in
    unfinished_turn _ _ _ _ _ _ _ _ _ (v.served m holds) c.args.count (g.B.Nand.state c.serve_turn.new.board) c.loop-turn-test.true c.loop-turn.workload v.workload c.in-Err-serve_turn.ensures.turn

pub returns-in-Err-clause-fails : goal.returns-in-Err-clause-fails
returns-in-Err-clause-fails g c = λ m holds.
    let small = c.loop-turn-test.true in
    unfinished_commit _ _ _ _ _ _ _ _ _ (c.loop-turn.invariant.served m holds) c.args.count (g.B.Nand.state c.commit_group.new.board) (omega (arith, small)) c.in-Err.ensures.stops

pub returns-in-Ok-clause-fails : goal.returns-in-Ok-clause-fails
returns-in-Ok-clause-fails g c = λ m holds.
    unfinished_worn _ _ _ _ _ _ _ _ _ (c.loop-turn.invariant.served m holds) c.args.count (g.B.Nand.state c.commit_group.new.board) (g.D.Engine.sight c.commit_group.new.drive)
    c.loop-turn-test.true c.in-Ok.ensures.keeps c.in-Ok.ensures.none c.in-Ok.ensures.installs (sym (worn_there g (goal.at.returns-in-Ok-clause-fails g c).After-is_worn) ∙ c.if-is_worn.true)

pub returns-clause-served : goal.returns-clause-served
returns-clause-served g c = λ m holds.
    let v = c.loop-turn.invariant in
    let over = c.loop-turn-test.false in
    let most = c.loop-turn.auto.turn-end in
    let all : c.loop-turn.turn ≡ c.args.count = omega (arith, over, most) in
    rw all at (v.served m holds)
