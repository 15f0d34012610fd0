use Rattle.std.{proofs.Common.arith, proofs.Common.rules, specs.Prelude.OnOk, specs.FinMap.remove}
use Rattle.pk_background.{proofs.ReadSteps.running_stopped}
use Rattle.pk_changes.specs.Programming.{TakesQuietly, ReadsQuietly}
use Rattle.pk_core.{specs.Whole.MayTakeBetween, proofs.Later.stays_later, proofs.Whole.Wholes, proofs.Whole.wholes, proofs.Whole.fails_half, proofs.Whole.numbers_then, proofs.Whole.can_take_then}
use Rattle.pk_core.proofs.Whole.{takes_whole, moves_whole, take_spends, unmade, unmade_spends, quiet_from}
use Rattle.pk_core.proofs.storing.take_whole.Given.{Over}
use Rattle.pk_core.proofs.storing.take_whole.Goals.{In-Ok}
use Rattle.pk_core.proofs.storing.take_whole.Goals as goal

pub make_whole-requires : goal.make_whole-requires
make_whole-requires g c = record { may = record { ready = c.requires.can.ready; stands = (c.requires.can.may.0, c.requires.can.may.1.stands) } }

-- ---- the pair is whole

made : (g : Over) (c : In-Ok g) → Wholes c.args.parts.now c.make_whole.new.parts (g.B.Nand.state c.args.board.now) (g.B.Nand.state c.make_whole.new.board)
made g c = wholes c.args.parts.now c.make_whole.new.parts (g.B.Nand.state c.args.board.now) (g.B.Nand.state c.make_whole.new.board)
    c.requires.can.ready c.in-Ok.ensures.finishes c.in-Ok.ensures.rests

pub take_out-requires : goal.take_out-requires
take_out-requires g c =
    let w = made g (goal.at.take_out-requires g c).In-Ok in
    record { can = can_take_then w c.args.key c.args.old c.requires.can; number = numbers_then w c.requires.number }

pub returns-in-Ok : goal.returns-in-Ok
returns-in-Ok g c =
    let w = made g (goal.at.returns-in-Ok g c).In-Ok in
    let e = c.take_out.ensures in
    record {
      step = takes_whole w c.args.key c.args.old c.take_out.new.parts (g.B.Nand.state c.take_out.new.board) c.take_out.result e.step;
      stops = e.stops;
      stays = stays_later w.leads c.take_out.result c.take_out.new.parts e.stays;
      moves = moves_whole w c.take_out.result c.take_out.new.parts e.moves;
      spends = take_spends w (g.B.Nand.state c.take_out.new.board) e.spends;
      programs = λ none.
          let r = c.in-Ok.ensures.rests none in
          quiet_from r.1 r.2 (λ x s. OnOk c.take_out.result (TakesQuietly x c.args.key s (g.B.Nand.state c.take_out.new.board))) e.programs;
      quiet = λ none.
          let r = c.in-Ok.ensures.rests none in
          quiet_from r.1 r.2 (λ x s. OnOk c.take_out.result (ReadsQuietly x c.args.key s (g.B.Nand.state c.take_out.new.board))) e.quiet;
    }

-- ---- the second program failed

pub returns-in-Err : goal.returns-in-Err
returns-in-Err g c =
    let failed = fails_half c.in-Err.fault c.args.parts.now c.make_whole.new.parts (g.B.Nand.state c.args.board.now) (g.B.Nand.state c.make_whole.new.board)
    c.in-Err.ensures.finishes c.in-Err.ensures.rests in
    record {
      step = unmade failed.1 (λ shape m. MayTakeBetween c.args.parts.now shape (g.B.Nand.state c.args.board.now).pages m c.args.key c.args.old)
          (λ m. remove m c.args.key) (λ shape m may. may.stands) c.make_whole.new.parts _ c.in-Err.fault failed.0;
      stops = search rules;
      stays = running_stopped Unit _ c.in-Err.fault failed.0;
      moves = running_stopped Unit _ c.in-Err.fault failed.0;
      spends = unmade_spends failed.1 _ _ (omega arith);
      programs = λ _. tt;
      quiet = λ _. tt;
    }
