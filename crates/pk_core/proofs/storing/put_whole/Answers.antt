use Rattle.std.{proofs.Common.◌∙◌, proofs.Common.sym, proofs.Common.ap, proofs.Common.length, proofs.Common.arith, proofs.Common.rules, specs.Prelude.OnOk, specs.FinMap.insert}
use Rattle.pk_base.specs.Shape.{charge}
use Rattle.pk_background.proofs.ReadSteps.{running_stopped}
use Rattle.pk_changes.specs.Programming.{PutsQuietly}
use Rattle.pk_core.{specs.Programming.ReadsNone, proofs.storing.put_whole.Given.Over}
use Rattle.pk_core.{specs.Whole.MayStore, proofs.Whole.Wholes, proofs.Whole.wholes, proofs.Whole.fails_half, proofs.Whole.unworn_then, proofs.Whole.can_put_then, proofs.Whole.stores_whole}
use Rattle.pk_core.proofs.Whole.{unmade, unmade_spends, quiet_from}
use Rattle.pk_core.proofs.storing.put_whole.Goals.{In-Ok}
use Rattle.pk_core.proofs.storing.put_whole.Goals as goal

pub make_whole-requires : goal.make_whole-requires
make_whole-requires g c = let can = c.requires.can.0.can in record { may = record { ready = can.ready; stands = (can.may.0, can.may.1.stands) } }

-- ---- the pair is whole

made : (g : Over) (c : In-Ok g) → Wholes c.args.parts.now c.make_whole.new.parts (g.B.Nand.state c.args.board.now) (g.B.Nand.state c.make_whole.new.board)
made g c = wholes c.args.parts.now c.make_whole.new.parts (g.B.Nand.state c.args.board.now) (g.B.Nand.state c.make_whole.new.board)
    c.requires.can.0.can.ready c.in-Ok.ensures.finishes c.in-Ok.ensures.rests

pub put_with_space-requires-clause-can : goal.put_with_space-requires-clause-can
put_with_space-requires-clause-can g c =
    let w = made g (goal.at.put_with_space-requires-clause-can g c).In-Ok in
    (can_put_then w c.args.key c.args.value.now c.args.old c.requires.can.0, c.requires.can.1 ∙ ap (λ s. charge s (length c.args.value.now)) (sym w.leads.same_shape))

pub put_with_space-requires-clause-unworn : goal.put_with_space-requires-clause-unworn
put_with_space-requires-clause-unworn g c = unworn_then (made g (goal.at.put_with_space-requires-clause-unworn g c).In-Ok) c.requires.unworn

pub returns-in-Ok : goal.returns-in-Ok
returns-in-Ok g c =
    let w = made g (goal.at.returns-in-Ok g c).In-Ok in
    let e = c.put_with_space.ensures in
    record {
      stores = stores_whole w c.args.key c.args.value.now c.put_with_space.new.parts (g.B.Nand.state c.put_with_space.new.board) c.put_with_space.result e.stores;
      programs = λ none.
          let r = c.in-Ok.ensures.rests none in
          quiet_from r.1 r.2 (λ x s. OnOk c.put_with_space.result (PutsQuietly x c.args.key (charge x.log.shape (length c.args.value.now)) s (g.B.Nand.state c.put_with_space.new.board))) e.programs;
      quiet = λ none.
          let r = c.in-Ok.ensures.rests none in
          quiet_from r.1 r.2 (λ x s. OnOk c.put_with_space.result (ReadsNone x c.args.key (charge x.log.shape (length c.args.value.now)) s (g.B.Nand.state c.put_with_space.new.board))) e.quiet;
    }

-- ---- the second program failed

pub returns-in-Err : goal.returns-in-Err
returns-in-Err g c =
    let failed = fails_half c.in-Err.fault c.args.parts.now c.make_whole.new.parts (g.B.Nand.state c.args.board.now) (g.B.Nand.state c.make_whole.new.board)
    c.in-Err.ensures.finishes c.in-Err.ensures.rests in
    record {
      stores = record {
        step = unmade failed.1 (λ shape m. MayStore c.args.parts.now shape (g.B.Nand.state c.args.board.now).pages m c.args.key c.args.value.now)
            (λ m. insert m c.args.key c.args.value.now) (λ shape m may. may.stands) c.make_whole.new.parts _ c.in-Err.fault failed.0;
        leaves = record { stays = running_stopped Unit _ c.in-Err.fault failed.0; opens = running_stopped Unit _ c.in-Err.fault failed.0; noted = tt; stops = search rules };
        spends = unmade_spends failed.1 _ _ (omega arith);
      };
      programs = λ _. tt;
      quiet = λ _. tt;
    }
