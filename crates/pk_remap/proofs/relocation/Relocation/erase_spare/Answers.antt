use Rattle.std.proofs.Common.{refl, inl, inr}
use Rattle.pk_nand.{specs.BoardState.BoardState, proofs.Effects.works_erase, proofs.Effects.stops_erase}
use Rattle.pk_remap.{proofs.Running.spare_erased, proofs.Running.spare_erase_failed, proofs.Running.next_or_stop, proofs.Stopping.step_done, proofs.Stopping.step_next, specs.Stepping.one_erase}
use Rattle.pk_remap.proofs.relocation.Relocation.erase_spare.Goals as goal

pub returns-in-Ok : goal.returns-in-Ok
returns-in-Ok g c =
    let r = c.args.self.now in
    let board : BoardState = g.N.Nand.state c.args.inner.now in
    let new : BoardState = g.N.Nand.state c.erase.new.self in
    let works = works_erase board new _ c.in-Ok.ensures.ok in
    record {
      steps = λ before runs. rw c.phase_after-self.ensures
          (spare_erased r before board runs c.requires.phase new (rw c.blocks-2.ensures.value at c.in-Ok.ensures.ok));
      counts = step_done r c.requires.runs.0 board c.requires.runs.1 _ new works.rest works.no_fault.2 refl;
      calls = one_erase _ (inl c.in-Ok.ensures.ok);
    }

pub returns-in-Err : goal.returns-in-Err
returns-in-Err g c =
    let r = c.args.self.now in
    let board : BoardState = g.N.Nand.state c.args.inner.now in
    let new : BoardState = g.N.Nand.state c.erase.new.self in
    let failed = rw c.blocks-2.ensures.value at c.in-Err.ensures.err in
    let next = c.take_next.ensures in
    record {
      steps = λ before runs. rw next.next (next_or_stop r before board runs new c.take_next.result
          (spare_erase_failed r before board runs c.requires.phase new failed) failed.stop next.ok next.err);
      counts = rw next.next (step_next r c.requires.runs.0 board c.requires.runs.1 c.take_next.result new (stops_erase board new _ failed).rest
          (spare_erase_failed r c.requires.runs.0 board c.requires.runs.1 c.requires.phase new failed) next.ok);
      calls = one_erase _ (inr c.in-Err.ensures.err);
    }
