use Rattle.std.proofs.Common.{ℕ, List, length, take, refl, ap, ◌∙◌, inl, inr}
use Rattle.pk_nand.{specs.BoardState.BoardState, proofs.Writing.shape_is, proofs.Effects.works_program}
use Rattle.pk_remap.{specs.Stepping.one_program, proofs.Stopping.step_done, proofs.Stopping.first_stops}
use Rattle.pk_remap.proofs.Running.{first_in_order, first_written, first_failed, stopped_as, refilled, next_bytes}
use Rattle.pk_remap.proofs.relocation.Relocation.first.Goals as goal

pub program_table-requires-clause-order : goal.program_table-requires-clause-order
program_table-requires-clause-order g c =
    let board : BoardState = g.N.Nand.state c.args.inner.now in
    rw (shape_is board _ c.requires.runs.1.goes_on.ready)
    (first_in_order c.args.self.now c.requires.runs.0 board c.requires.runs.1 c.args.page c.requires.phase).1

pub returns-in-Ok : goal.returns-in-Ok
returns-in-Ok g c =
    let r = c.args.self.now in
    let board : BoardState = g.N.Nand.state c.args.inner.now in
    let end : BoardState = g.N.Nand.state c.program_table.new.inner in
    let new : List ℕ = c.program_table.new.buffer in
    let same = next_bytes r c.next_serves-serves.result (take r.shape.page_bytes new) c.program_table.ensures.bytes c.next_serves-serves.ensures.front in
    let buffer = refilled r.copy new (c.program_table.auto.buffer ∙ c.deref_mut.ensures.len) (c.program_table.auto.buffer ∙ ap length c.deref_mut.ensures.value) c.requires.runs.1.room.read_page in
    let works = works_program board end _ _ c.in-Ok.ensures.ok in
    record {
      steps = λ before runs. first_written r before board runs c.args.page c.requires.phase end (take r.shape.page_bytes new)
          c.program_table.ensures.page same c.in-Ok.ensures.ok _ (rw buffer.0 buffer.1);
      counts = step_done r c.requires.runs.0 board c.requires.runs.1 _ end works.rest works.no_fault.2 refl;
      calls = one_program _ _ (inl c.in-Ok.ensures.ok);
    }

pub returns-in-Err : goal.returns-in-Err
returns-in-Err g c =
    let r = c.args.self.now in
    let board : BoardState = g.N.Nand.state c.args.inner.now in
    let end : BoardState = g.N.Nand.state c.program_table.new.inner in
    let new : List ℕ = c.program_table.new.buffer in
    let same = next_bytes r c.next_serves-serves.result (take r.shape.page_bytes new) c.program_table.ensures.bytes c.next_serves-serves.ensures.front in
    let buffer = refilled r.copy new (c.program_table.auto.buffer ∙ c.deref_mut.ensures.len) (c.program_table.auto.buffer ∙ ap length c.deref_mut.ensures.value) c.requires.runs.1.room.read_page in
    record {
      steps = λ before runs. rw c.fail_table.ensures.taken
          (stopped_as r before board runs c.fail_table.result _ _ c.fail_table.ensures.fails
          (first_failed r before board runs c.args.page c.requires.phase end (take r.shape.page_bytes new)
          c.program_table.ensures.page same c.in-Err.ensures.err _ (rw buffer.0 buffer.1)));
      counts = rw c.fail_table.ensures.taken
          (first_stops r c.requires.runs.0 board c.requires.runs.1 c.args.page c.requires.phase c.fail_table.result c.fail_table.ensures.fails
          end (take r.shape.page_bytes new) c.program_table.ensures.page same c.in-Err.ensures.err _);
      calls = one_program _ _ (inr c.in-Err.ensures.err);
    }
