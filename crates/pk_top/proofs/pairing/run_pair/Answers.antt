use Rattle.std.proofs.Common.{◌≡◌, Some, map, inr, ◌∙◌}
use Rattle.pk_mirrorwords.specs.PairTasks.{seen}
use Rattle.pk_top.proofs.Pairs.{pair_tells, pair_refused, pair_whole, short_pair}
use Rattle.pk_top.proofs.pairing.run_pair.Goals as goal

pub ask_pair-requires : goal.ask_pair-requires
ask_pair-requires g c =
    short_pair (map (λ w. w.now) c.args.words.now) (seen c.in-Ok-Some.task) (rw c.in-Ok-Some.field-0-is at c.in-Ok-Some.ensures)

pub returns-in-Ok-Some-clause-tells : goal.returns-in-Ok-Some-clause-tells
returns-in-Ok-Some-clause-tells g c = inr
    (pair_tells (seen c.in-Ok-Some.task) (g.B.Nand.state c.args.first.now) (g.B.Nand.state c.ask_pair.new.first)
    (g.C.Nand.state c.args.second.now) (g.C.Nand.state c.ask_pair.new.second) c.ask_pair.result.0 c.ask_pair.ensures)

pub returns-in-Ok-Some-clause-no_pair : goal.returns-in-Ok-Some-clause-no_pair
returns-in-Ok-Some-clause-no_pair g c = λ task asked.
    pair_refused (seen c.in-Ok-Some.task) (g.B.Nand.state c.args.first.now) (g.B.Nand.state c.ask_pair.new.first)
    (g.C.Nand.state c.args.second.now) (g.C.Nand.state c.ask_pair.new.second) c.ask_pair.result.0 c.ask_pair.ensures

pub returns-in-Ok-Some-clause-whole : goal.returns-in-Ok-Some-clause-whole
returns-in-Ok-Some-clause-whole g c = λ task asked.
    let same : Some (seen c.in-Ok-Some.task) ≡ Some task = rw c.in-Ok-Some.field-0-is at c.in-Ok-Some.ensures ∙ asked in
    let is : seen c.in-Ok-Some.task ≡ task = cc in
    pair_whole task (g.B.Nand.state c.args.first.now) (g.B.Nand.state c.ask_pair.new.first)
    (g.C.Nand.state c.args.second.now) (g.C.Nand.state c.ask_pair.new.second) c.ask_pair.result.0 (rw is at c.ask_pair.ensures)
