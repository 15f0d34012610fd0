use Rattle.std.proofs.Common.{◌≡◌, Some, sym, subst}
use Rattle.pk_base.specs.Shape.{Shape}
use Rattle.pk_nand.specs.Calls.{Loaded}
use Rattle.pk_mirrorwords.specs.PairTasks.{seen}
use Rattle.pk_top.{specs.PairRuns.second_missing, proofs.Pairs.found_pair}
use Rattle.pk_top.proofs.pairing.ask_pair.Goals as goal

pub returns-then-is_same : goal.returns-then-is_same
returns-then-is_same g c =
    let same : c.in-Ok.one ≡ c.in-Ok-load.two = rw c.if-is_same.true at c.is_same.ensures in
    found_pair (seen c.args.task) c.in-Ok.one (g.B.Nand.state c.args.first.now) (g.B.Nand.state c.load.new.board) (g.B.Nand.state c.ask_images.new.first)
    (g.C.Nand.state c.args.second.now) (g.C.Nand.state c.load-in-Ok.new.board) (g.C.Nand.state c.ask_images.new.second) c.ask_images.result.0 c.in-Ok.ensures.found
    (subst (λ (s : Shape). Loaded (g.C.Nand.state c.args.second.now) (g.C.Nand.state c.load-in-Ok.new.board) (Some s)) (sym same) c.in-Ok-load.ensures.found) c.ask_images.ensures

pub returns-in-Err-load : goal.returns-in-Err-load
returns-in-Err-load g c = second_missing c.in-Ok.one c.in-Ok.ensures.found c.in-Err-load.ensures.not_found
