use Rattle.std.proofs.Common.{◌≡◌, ◌+◌, suc, refl, ◌∙◌, inl, inr, arith}
use Rattle.pk_nand.{specs.BoardState.BoardState, specs.Calls.after_program, proofs.Writing.shape_is, proofs.Effects.works_program, proofs.Effects.stops_program}
use Rattle.pk_remap.{specs.Relocating.spare_page, specs.Stepping.one_program, specs.Running.relocation_of, proofs.Stopping.step_done, proofs.Stopping.step_next}
use Rattle.pk_remap.proofs.Running.{page_written, page_write_failed, next_or_stop, write_order, write_less}
use Rattle.pk_remap.proofs.relocation.Relocation.write.Goals as goal

pub program-requires-clause-order : goal.program-requires-clause-order
program-requires-clause-order g c =
    let at : c.page_in-at.result ≡ spare_page (relocation_of c.args.self.now) c.args.page = rw c.blocks-2.ensures.value at c.page_in-at.ensures in
    let board : BoardState = g.N.Nand.state c.args.inner.now in
    rw (at, shape_is board _ c.requires.runs.1.goes_on.ready)
    (write_order c.args.self.now c.requires.runs.0 board c.requires.runs.1 c.args.page c.requires.phase)

pub returns-in-Ok : goal.returns-in-Ok
returns-in-Ok g c =
    let r = c.args.self.now in
    let at : c.page_in-at.result ≡ spare_page (relocation_of r) c.args.page = rw c.blocks-2.ensures.value at c.page_in-at.ensures in
    let board : BoardState = g.N.Nand.state c.args.inner.now in
    let new : BoardState = g.N.Nand.state c.program.new.self in
    let next : c.args.page + 1 ≡ suc c.args.page = omega arith in
    let works = works_program board new _ _ c.in-Ok.ensures.ok in
    record {
      steps = λ before runs. rw (c.phase_after-self.ensures, next)
          (page_written r before board runs c.args.page c.requires.phase (write_less r before board runs c.args.page c.requires.phase) new
          (c.in-Ok.ensures.ok ∙ (λ i. after_program board (at i) (c.bytes_for.ensures i))));
      counts = step_done r c.requires.runs.0 board c.requires.runs.1 _ new works.rest works.no_fault.2 refl;
      calls = one_program _ _ (inl c.in-Ok.ensures.ok);
    }

pub returns-in-Err : goal.returns-in-Err
returns-in-Err g c =
    let r = c.args.self.now in
    let at : c.page_in-at.result ≡ spare_page (relocation_of r) c.args.page = rw c.blocks-2.ensures.value at c.page_in-at.ensures in
    let board : BoardState = g.N.Nand.state c.args.inner.now in
    let new : BoardState = g.N.Nand.state c.program.new.self in
    let failed = rw (at, c.bytes_for.ensures) at c.in-Err.ensures.err in
    let next = c.take_next.ensures in
    record {
      steps = λ before runs. rw next.next (next_or_stop r before board runs new c.take_next.result
          (page_write_failed r before board runs c.args.page c.requires.phase (write_less r before board runs c.args.page c.requires.phase) new failed)
          failed.stop next.ok next.err);
      counts = rw next.next
          (step_next r c.requires.runs.0 board c.requires.runs.1 c.take_next.result new (stops_program board new _ _ failed).rest
          (page_write_failed r c.requires.runs.0 board c.requires.runs.1 c.args.page c.requires.phase
          (write_less r c.requires.runs.0 board c.requires.runs.1 c.args.page c.requires.phase) new failed) next.ok);
      calls = one_program _ _ (inr failed);
    }
