use Rattle.std.proofs.Common.{◌≡◌, ℕ, ◌+◌, ◌*◌, sym, ap, subst, ◌∙◌}
use Rattle.pk_nand.{specs.BoardState.BoardState, specs.Calls.after_program, specs.Operations.InOrder, proofs.Writing.shape_is}
use Rattle.pk_gc.{specs.State.JobState, specs.State.target, specs.State.programmed, specs.Running.IsRunning, proofs.Copying.program_runs, proofs.Copying.in_order, proofs.Copying.target_exists}
use Rattle.pk_gc.proofs.job.ReclaimJob.program.Goals as goal

pub write_page-requires-clause-order : goal.write_page-requires-clause-order
write_page-requires-clause-order g c =
    let may = c.requires.may in
    let held = c.requires.held in
    let job = c.args.self.now in
    let pages : c.block_pages.result ≡ job.shape.block_pages = c.block_pages.ensures.value ∙ ap (λ (s : JobState). s.shape.block_pages) c.self.view_is in
    let at : c.args.course.output * c.block_pages.result + c.args.course.used ≡ target job.shape c.args.course = ap (λ (n : ℕ). c.args.course.output * n + c.args.course.used) pages in
    let here = in_order job.shape c.args.course job.moves job.page (g.B.Nand.state c.args.board.now).pages may.es may.runs held in
    rw (shape_is (g.B.Nand.state c.args.board.now) job.shape c.requires.ready) (subst (λ (k : ℕ). InOrder job.shape (g.B.Nand.state c.args.board.now).pages k) (sym at) here)

pub returns-in-Ok-clause-runs : goal.returns-in-Ok-clause-runs
returns-in-Ok-clause-runs g c es runs =
    let held = c.requires.held in
    let job = c.args.self.now in
    let old = g.B.Nand.state c.args.board.now in
    let exists = target_exists job.shape c.args.course job.moves job.page old.pages es runs held c.requires.ready.flash in
    let done = program_runs job.shape c.args.course job.moves job.page old.pages es runs held exists in
    let pages : c.block_pages.result ≡ job.shape.block_pages = c.block_pages.ensures.value ∙ ap (λ (s : JobState). s.shape.block_pages) c.self.view_is in
    let at : c.args.course.output * c.block_pages.result + c.args.course.used ≡ target job.shape c.args.course = ap (λ (n : ℕ). c.args.course.output * n + c.args.course.used) pages in
    let bytes : c.deref.result.now ≡ job.page = c.deref.ensures.value ∙ ap (λ (s : JobState). s.page) c.self.view_is in
    let ok : g.B.Nand.state c.write_page.new.board ≡ after_program old (target job.shape c.args.course) job.page = c.in-Ok.ensures.ok ∙ (λ i. after_program old (at i) (bytes i)) in
    subst (λ (b : BoardState). IsRunning job.shape (programmed c.args.course) job.moves job.page b.pages es) (sym ok) done
