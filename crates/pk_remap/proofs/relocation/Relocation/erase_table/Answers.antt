use Rattle.std.proofs.Common.{◌≡◌, ◌+◌, ◌*◌, refl, inl, inr, arith}
use Rattle.pk_nand.{specs.BoardState.BoardState, proofs.Effects.works_erase}
use Rattle.pk_remap.{specs.Stepping.IsOtherTable, specs.Stepping.one_erase, specs.Running.relocation_of, proofs.Running.table_erased, proofs.Running.table_erase_failed, proofs.Running.stopped_as}
use Rattle.pk_remap.{proofs.Stopping.step_done, proofs.Stopping.erase_stops, proofs.relocation.Relocation.erase_table.Given.Over}
use Rattle.pk_remap.proofs.relocation.Relocation.erase_table.Goals.{After-other_table-other}
use Rattle.pk_remap.proofs.relocation.Relocation.erase_table.Goals as goal

other_is : (g : Over) (c : After-other_table-other g) → IsOtherTable (relocation_of c.args.self.now) c.other_table-other.result
other_is g c = let e = c.other_table-other.ensures in record { from = e.from; to = e.to; beside = e.beside }

pub returns-in-Ok : goal.returns-in-Ok
returns-in-Ok g c =
    let r = c.args.self.now in
    let board : BoardState = g.N.Nand.state c.args.inner.now in
    let end : BoardState = g.N.Nand.state c.erase.new.self in
    let other = c.other_table-other.result in
    let none : other * r.shape.block_pages + 0 ≡ other * r.shape.block_pages = omega arith in
    let works = works_erase board end _ c.in-Ok.ensures.ok in
    record {
      steps = λ before runs. rw (c.page_in.ensures, none)
          (table_erased r before board runs c.requires.phase other (other_is g (goal.at.returns-in-Ok g c).After-other_table-other) end c.in-Ok.ensures.ok);
      counts = step_done r c.requires.runs.0 board c.requires.runs.1 _ end works.rest works.no_fault.2 refl;
      calls = one_erase other (inl c.in-Ok.ensures.ok);
    }

pub returns-in-Err : goal.returns-in-Err
returns-in-Err g c =
    let r = c.args.self.now in
    let board : BoardState = g.N.Nand.state c.args.inner.now in
    let end : BoardState = g.N.Nand.state c.erase.new.self in
    let other = c.other_table-other.result in
    let is_other = other_is g (goal.at.returns-in-Err g c).After-other_table-other in
    record {
      steps = λ before runs. rw c.fail_table.ensures.taken
          (stopped_as r before board runs c.fail_table.result _ _ c.fail_table.ensures.fails
          (table_erase_failed r before board runs c.requires.phase other is_other end c.in-Err.ensures.err));
      counts = rw c.fail_table.ensures.taken
          (erase_stops r c.requires.runs.0 board c.requires.runs.1 c.requires.phase other is_other c.fail_table.result c.fail_table.ensures.fails end c.in-Err.ensures.err);
      calls = one_erase other (inr c.in-Err.ensures.err);
    }
