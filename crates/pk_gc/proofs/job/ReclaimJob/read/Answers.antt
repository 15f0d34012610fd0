use Rattle.std.proofs.Common.{◌≡◌, ℕ, ◌+◌, ◌*◌, ◌++◌, length, take, drop, sym, ap, subst, ◌∙◌}
use Rattle.std.proofs.Math.Seq.{take-append_seam}
use Rattle.pk_base.specs.Page.{page_at, whole}
use Rattle.pk_nand.specs.BoardState.{BoardState}
use Rattle.pk_gc.{specs.State.JobState, specs.State.source, specs.State.read_next, specs.Running.IsRunning, proofs.Copying.read_runs}
use Rattle.pk_gc.proofs.job.ReclaimJob.read.Goals as goal

pub returns-in-Ok-clause-runs : goal.returns-in-Ok-clause-runs
returns-in-Ok-clause-runs g c es runs =
    let job = c.args.self.now in
    let old = g.B.Nand.state c.args.board.now in
    let pages : c.block_pages.result ≡ job.shape.block_pages = c.block_pages.ensures.value ∙ ap (λ (s : JobState). s.shape.block_pages) c.self.view_is in
    let at : c.args.course.victim * c.block_pages.result + c.args.course.seen ≡ source job.shape c.args.course = ap (λ (n : ℕ). c.args.course.victim * n + c.args.course.seen) pages in
    let here : page_at old.pages (source job.shape c.args.course) ≡ whole c.read_page.new.buf = ap (λ (k : ℕ). page_at old.pages k) (sym at) ∙ c.in-Ok.ensures.bytes in
    let done = read_runs job.shape c.args.course job.moves job.page old.pages es runs c.read_page.new.buf c.requires.some here in
    let a = c.read_page.auto.buf in
    let b = c.deref_mut.ensures in
    let size : c.self.inside.page.len ≡ length c.read_page.new.buf = sym (a ∙ b.len) in
    let bytes : take c.self.inside.page.len (c.read_page.new.buf ++ drop (length c.read_page.new.buf) c.self.inside.page.items) ≡ c.read_page.new.buf =
    ap (λ (n : ℕ). take n (c.read_page.new.buf ++ drop (length c.read_page.new.buf) c.self.inside.page.items)) size ∙ take-append_seam _ _ in
    rw bytes (subst (λ (b : BoardState). IsRunning job.shape (read_next c.args.course) job.moves c.read_page.new.buf b.pages es) (sym c.in-Ok.ensures.ok) done)
