use Rattle.std.proofs.Common.{◌∙◌, rules, refl, sym, ap}
use Rattle.pk_base.specs.Map.{Map}
use Rattle.pk_model.{specs.Reading.Holds, specs.Spaces.in_space}
use Rattle.pk_port.{proofs.Stepping.part_of, specs.Steps.Standing, specs.Steps.standing}
use Rattle.pk_wordrun.proofs.Opening.{fits-somehow}
use Rattle.pk_mirrorwords.specs.PairTasks.{seen}
use Rattle.pk_mirrorrun.proofs.Lending.{serving, told_serving, walk_of, second_walk_of, said_lent, ends_back, posts_back, told_back}
use Rattle.pk_mirrorrun.proofs.PairTelling.{Walked, begins_as, tells-halted, tells-said, faults-never}
use Rattle.pk_mirrorrun.proofs.pair_speaker.PairSpeaker.run.{Given.Over, Goals.After-answer_pair-answered}
use Rattle.pk_mirrorrun.proofs.pair_speaker.PairSpeaker.run.Goals as goal

-- ---- before the commands

pub invariant_of-one-clause-fits : goal.invariant_of-one-clause-fits
invariant_of-one-clause-fits g c =
    let is = rw c.self.view_is at c.known.ensures in
    rw c.self.view_is (fits-somehow (g.D.Engine.agrees c.args.first_drive.now) c.args.self (g.B.Nand.state c.args.first.now) (g.D.Engine.sight c.args.first_drive.now) is c.held_map.ensures
    c.requires.first_ready c.requires.first_agrees c.requires.first_none c.requires.first_stands)

pub invariant_of-two-clause-fits : goal.invariant_of-two-clause-fits
invariant_of-two-clause-fits g c =
    let is = rw c.self.view_is at c.known.ensures in
    rw c.self.view_is (fits-somehow (g.E.Engine.agrees c.args.second_drive.now) c.args.self (g.C.Nand.state c.args.second.now) (g.E.Engine.sight c.args.second_drive.now) is c.held_map.ensures
    c.requires.second_ready c.requires.second_agrees c.requires.second_none c.requires.second_stands)

pub answer_pair-answered-requires-clause-pair : goal.answer_pair-answered-requires-clause-pair
answer_pair-answered-requires-clause-pair g c = told_serving c.args.self _ c.self.view_is _ _ _ _ _ _ _ (search rules)
    (serving _ _ _ c.requires.first_ready c.requires.first_runs c.requires.first_none c.requires.first_stands)
    (serving _ _ _ c.requires.second_ready c.requires.second_runs c.requires.second_none c.requires.second_stands) c.requires.one_limit

-- ---- both drives before the commands, and after them

-- what is known of each port before the commands, and after them
abbrev first_before : (g : Over) (c : After-answer_pair-answered g) → Standing
first_before g c = standing (g.B.Nand.state c.args.first.now) (g.D.Engine.sight c.args.first_drive.now) c.new-first_tally.result.faults c.new-first_tally.result.halt

abbrev first_after : (g : Over) (c : After-answer_pair-answered g) → Standing
first_after g c =
    let port = c.answer_pair-answered.new.first in
    standing (g.B.Nand.state port.board.now) (g.D.Engine.sight port.drive.now) port.tally.now.faults port.tally.now.halt

abbrev second_before : (g : Over) (c : After-answer_pair-answered g) → Standing
second_before g c = standing (g.C.Nand.state c.args.second.now) (g.E.Engine.sight c.args.second_drive.now) c.new-second_tally.result.faults c.new-second_tally.result.halt

abbrev second_after : (g : Over) (c : After-answer_pair-answered g) → Standing
second_after g c =
    let port = c.answer_pair-answered.new.second in
    standing (g.C.Nand.state port.board.now) (g.E.Engine.sight port.drive.now) port.tally.now.faults port.tally.now.halt

walked : (g : Over) (c : After-answer_pair-answered g) (m other : Map)
    → Holds c.args.self (g.B.Nand.state c.args.first.now).pages m → Holds c.args.self (g.C.Nand.state c.args.second.now).pages other
    → Walked (seen c.args.task) c.args.self m other (first_before g c) (first_after g c) (second_before g c) (second_after g c)
walked g c m other held also =
    let one = serving _ _ _ c.requires.first_ready c.requires.first_runs c.requires.first_none c.requires.first_stands in
    let two = serving _ _ _ c.requires.second_ready c.requires.second_runs c.requires.second_none c.requires.second_stands in
    let first = c.answer_pair-answered.ensures.took_first in
    let second = c.answer_pair-answered.ensures.took_second in
    record {
      has = one.shape_is;
      has' = two.shape_is;
      holds = held;
      holds' = also;
      begun = begins_as c.args.self m _ _ _ _ one held;
      begun' = begins_as c.args.self other _ _ _ _ two also;
      going = one.runs;
      going' = two.runs;
      walk = walk_of c.args.self _ c.self.view_is _ (first_before g c) (first_after g c) first.0 first.1 first.2.5;
      too = second_walk_of c.args.self _ c.self.view_is _ (first_before g c) (second_before g c) (second_after g c) second.0 second.1 second.2.5;
      first = c.new-first_tally.ensures.halt;
      second = c.new-second_tally.ensures.halt;
    }

-- ---- after the commands

pub returns-in-Some : goal.returns-in-Some
returns-in-Some g c = λ m other held also.
    told_back _ _ _ _ _ _ _ _ _ _ _
    (tells-halted (walked g (goal.at.returns-in-Some g c).After-answer_pair-answered m other held also) c.in-Some.end
    (sym (ends_back _ _ _ _ _ (sym c.end_by.ensures ∙ c.in-Some.is) (search rules) (search rules)))) (search rules) (search rules)

pub returns-in-Ok : goal.returns-in-Ok
returns-in-Ok g c = λ m other held also.
    told_back _ _ _ _ _ _ _ _ _ _ _
    (tells-said (walked g (goal.at.returns-in-Ok g c).After-answer_pair-answered m other held also) (ends_back _ _ _ _ _ (sym c.end_by.ensures ∙ c.in-None.is) (search rules) (search rules))
    c.answer_pair-answered.new.room.text
    (said_lent c.args.self _ c.self.view_is _ (seen c.args.task) c.answer_pair-answered.new.first.shape c.answer_pair-answered.new.second.shape _ _ _ _ (in_space 1 m)
    c.answer_pair-answered.new.room.text
    (λ asked. record {
      first = (asked.both.0.0, asked.both.0.1, asked.both.0.2.5);
      second = (asked.both.1.0, asked.both.1.1, asked.both.1.2.5);
      whole = (asked.whole.0, asked.whole.1, asked.whole.2.5);
    })
    c.answer_pair-answered.ensures.took_first.2.4 c.answer_pair-answered.ensures.took_second.2.4 (c.in-Ok.ensures.said (in_space 1 m) (rw c.self.view_is (ap part_of held))))
    _ _ (posts_back _ _ _ _ _ _ c.post.ensures (search rules) c.text.ensures)) refl (search rules)

pub unreachable-requires : goal.unreachable-requires
unreachable-requires g c =
    let one = serving c.args.self (g.B.Nand.state c.args.first.now) (g.D.Engine.sight c.args.first_drive.now)
    c.requires.first_ready c.requires.first_runs c.requires.first_none c.requires.first_stands in
    let two = serving c.args.self (g.C.Nand.state c.args.second.now) (g.E.Engine.sight c.args.second_drive.now)
    c.requires.second_ready c.requires.second_runs c.requires.second_none c.requires.second_stands in
    faults-never (walked g (goal.at.unreachable-requires g c).After-answer_pair-answered one.map two.map one.holds two.holds)
    (ends_back _ _ _ _ _ (sym c.end_by.ensures ∙ c.in-None.is) (search rules) (search rules)) c.new-first_tally.ensures.faults c.new-second_tally.ensures.faults c.in-Err.ensures.fault
