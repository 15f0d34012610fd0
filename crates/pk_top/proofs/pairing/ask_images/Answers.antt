use Rattle.std.proofs.Common.{◌≡◌, ◌==◌, refl, sym, subst}
use Rattle.pk_base.{specs.Map.Map, specs.Shape.Shape}
use Rattle.pk_model.specs.Reading.{Holds}
use Rattle.pk_parts.specs.Parts.{sight_of}
use Rattle.pk_mirrorwords.specs.PairTasks.{seen}
use Rattle.pk_core.specs.Agreeing.{DriveOnFlashBetween}
use Rattle.pk_mirrorrun.specs.PairTold.{PairTold, first_limit}
use Rattle.pk_top.proofs.Asked.{own_frames, ready_behind}
use Rattle.pk_top.proofs.Pairs.{AsksPair-memory, AsksPair-first, AsksPair-second, AsksPair-limits, AsksPair-opened, limits_tested, is_one, is_other}
use Rattle.pk_top.proofs.pairing.ask_images.Given as given
use Rattle.pk_top.proofs.pairing.ask_images.Goals as goal
use Rattle.pk_top.proofs.pairing.ask_images.Goals.{After-has_one_limit}

pub returns-in_default : goal.returns-in_default
returns-in_default g c = AsksPair-memory (seen c.args.task) c.args.shape (g.B.Nand.state c.args.first.now)
    (g.B.Nand.state c.args.first.now) (g.C.Nand.state c.args.second.now) (g.C.Nand.state c.args.second.now) 7 refl refl refl refl refl

pub returns-in-Err : goal.returns-in-Err
returns-in-Err g c = AsksPair-first (seen c.args.task) c.args.shape (g.B.Nand.state c.args.first.now) (g.B.Nand.state c.open.new.board) (g.C.Nand.state c.args.second.now)
    (g.C.Nand.state c.args.second.now) c.of_open_error-in-Err.result.0 c.in-Err.error c.of_open_error-in-Err.ensures c.in-Err.ensures.err c.open.ensures.rest refl refl

pub returns-in-Err-open : goal.returns-in-Err-open
returns-in-Err-open g c = AsksPair-second (seen c.args.task) c.args.shape (g.B.Nand.state c.args.first.now) (g.B.Nand.state c.open.new.board) (g.C.Nand.state c.args.second.now)
    (g.C.Nand.state c.open-in-Ok-open.new.board) c.of_open_error.result.0 c.in-Err-open.error c.of_open_error.ensures
    c.in-Ok-open.ensures.reads c.open.ensures.rest c.in-Err-open.ensures.err c.open-in-Ok-open.ensures.rest

pub run-requires-clause-first_stands : goal.run-requires-clause-first_stands
run-requires-clause-first_stands g c = own_frames c.args.shape c.in-Ok.speaker 36 (g.B.Nand.state c.open.new.board) (sight_of c.in-Ok-open.one) c.in-Ok.ensures c.in-Ok-open.ensures.stands

pub run-requires-clause-second_stands : goal.run-requires-clause-second_stands
run-requires-clause-second_stands g c = own_frames c.args.shape c.in-Ok.speaker 36
    (g.C.Nand.state c.open-in-Ok-open.new.board) (sight_of c.in-Ok-open-2.two) c.in-Ok.ensures c.in-Ok-open-2.ensures.stands

pub run-requires-clause-first_ready : goal.run-requires-clause-first_ready
run-requires-clause-first_ready g c = ready_behind c.args.shape c.in-Ok.speaker (g.B.Nand.state c.args.first.now) (g.B.Nand.state c.open.new.board) c.in-Ok.ensures c.requires.first c.open.ensures.rest

pub run-requires-clause-second_ready : goal.run-requires-clause-second_ready
run-requires-clause-second_ready g c = ready_behind c.args.shape c.in-Ok.speaker (g.C.Nand.state c.args.second.now)
    (g.C.Nand.state c.open-in-Ok-open.new.board) c.in-Ok.ensures c.requires.second c.open-in-Ok-open.ensures.rest

-- what the test of the limits says
limits_test : (g : given.Over) (c : After-has_one_limit g)
    → c.has_one_limit.result ≡ (first_limit c.args.shape (g.B.Nand.state c.open.new.board).pages == first_limit c.args.shape (g.C.Nand.state c.open-in-Ok-open.new.board).pages)
limits_test g c = limits_tested (DriveOnFlashBetween c.in-Ok-open.one) (DriveOnFlashBetween c.in-Ok-open-2.two) c.args.shape (g.B.Nand.state c.open.new.board)
    (g.C.Nand.state c.open-in-Ok-open.new.board) 36 (sight_of c.in-Ok-open.one) (sight_of c.in-Ok-open-2.two) c.has_one_limit.result c.has_one_limit.ensures c.in-Ok-open.ensures.agrees
    c.in-Ok-open-2.ensures.agrees c.in-Ok-open.ensures.runs c.in-Ok-open-2.ensures.runs c.in-Ok-open.ensures.stands c.in-Ok-open-2.ensures.stands

pub run-requires-clause-one_limit : goal.run-requires-clause-one_limit
run-requires-clause-one_limit g c =
    let T : Shape → Type 0 = λ s. first_limit s (g.C.Nand.state c.open-in-Ok-open.new.board).pages ≡ first_limit s (g.B.Nand.state c.open.new.board).pages in
    let test = limits_test g (goal.at.run-requires-clause-one_limit g c).After-has_one_limit in
    subst T (sym c.in-Ok.ensures) (sym (is_one _ _ c.has_one_limit.result test c.if-not-has_one_limit.false))

pub returns-then-not-has_one_limit : goal.returns-then-not-has_one_limit
returns-then-not-has_one_limit g c =
    let one = g.B.Nand.state c.open.new.board in
    let two = g.C.Nand.state c.open-in-Ok-open.new.board in
    let test = limits_test g (goal.at.returns-then-not-has_one_limit g c).After-has_one_limit in
    AsksPair-limits (seen c.args.task) c.args.shape (g.B.Nand.state c.args.first.now) one (g.C.Nand.state c.args.second.now) two
    (sight_of c.in-Ok-open.one) (sight_of c.in-Ok-open-2.two) 8 refl c.in-Ok-open.ensures.reads c.in-Ok-open-2.ensures.reads c.open.ensures.rest c.open-in-Ok-open.ensures.rest
    c.in-Ok-open.ensures.stands c.in-Ok-open-2.ensures.stands c.in-Ok-open.ensures.none c.in-Ok-open-2.ensures.none
    (is_other _ _ c.has_one_limit.result test c.if-not-has_one_limit.true)

pub returns-else-not-has_one_limit : goal.returns-else-not-has_one_limit
returns-else-not-has_one_limit g c =
    let one = g.B.Nand.state c.open.new.board in
    let two = g.C.Nand.state c.open-in-Ok-open.new.board in
    let test = limits_test g (goal.at.returns-else-not-has_one_limit g c).After-has_one_limit in
    let T : Shape → Type 0 = λ s. (m other : Map) → Holds s one.pages m → Holds s two.pages other
    → PairTold (seen c.args.task) s m other one (g.B.Nand.state c.run.new.first) two (g.C.Nand.state c.run.new.second) c.run.result in
    AsksPair-opened (seen c.args.task) c.args.shape (g.B.Nand.state c.args.first.now) (g.B.Nand.state c.run.new.first) (g.C.Nand.state c.args.second.now)
    (g.C.Nand.state c.run.new.second) one two (sight_of c.in-Ok-open.one) (sight_of c.in-Ok-open-2.two) c.of_word_end.result.0 c.run.result
    c.in-Ok-open.ensures.reads c.in-Ok-open-2.ensures.reads c.in-Ok-open.ensures.stands c.in-Ok-open-2.ensures.stands c.in-Ok-open.ensures.none c.in-Ok-open-2.ensures.none c.of_word_end.ensures
    (subst T c.in-Ok.ensures c.run.ensures) (is_one _ _ c.has_one_limit.result test c.if-not-has_one_limit.false) c.known.ensures c.held_map.ensures c.requires.first c.requires.second
