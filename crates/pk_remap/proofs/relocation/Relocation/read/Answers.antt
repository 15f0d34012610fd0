use Rattle.std.proofs.Common.{◌≡◌, ◌+◌, ◌*◌, ℕ, List, length, take, refl, sym, ap, ◌∙◌, inl, inr, arith}
use Rattle.pk_base.specs.Page.{page_at}
use Rattle.pk_nand.specs.BoardState.{BoardState}
use Rattle.pk_remap.{specs.Places.place, specs.Places.placed_page, specs.Relocating.block, specs.Running.relocation_of, proofs.Counting.only_read, proofs.Counting.only_read_failed}
use Rattle.pk_remap.proofs.Running.{read_place, page_read, page_torn, page_written_before, page_read_failed, refilled, answer_whole, answer_erased, answer_torn}
use Rattle.pk_remap.proofs.relocation.Relocation.read.Goals.{After-page_in-at}
use Rattle.pk_remap.{specs.Stepping.one_read, proofs.Stopping.step_done, proofs.Stopping.step_read, proofs.relocation.Relocation.read.Given.Over}
use Rattle.pk_remap.proofs.relocation.Relocation.read.Goals as goal

-- the inner page of the page to copy
page_is : (g : Over) (c : After-page_in-at g) → c.page_in-at.result
    ≡ placed_page c.args.self.now.shape (relocation_of c.args.self.now).table (block (relocation_of c.args.self.now) * c.args.self.now.shape.block_pages + c.args.page)
page_is g c =
    let r = c.args.self.now in
    let own = read_place r c.requires.runs.0 (g.N.Nand.state c.args.inner.now) c.requires.runs.1 c.args.page c.requires.phase in
    let at : c.place-block.result ≡ place r.shape (relocation_of r).table (block (relocation_of r)) = rw c.block.ensures at c.place-block.ensures in
    c.page_in-at.ensures ∙ ap (λ (x : ℕ). x * r.shape.block_pages + c.args.page) at ∙ sym own.0

pub page_in-at-requires-clause-block : goal.page_in-at-requires-clause-block
page_in-at-requires-clause-block g c =
    let r = c.args.self.now in
    let at : c.place-block.result ≡ place r.shape (relocation_of r).table (block (relocation_of r)) = rw c.block.ensures at c.place-block.ensures in
    let own = read_place r c.requires.runs.0 (g.N.Nand.state c.args.inner.now) c.requires.runs.1 c.args.page c.requires.phase in
    omega (arith, at, own.2)

pub read_into-requires-clause-exists : goal.read_into-requires-clause-exists
read_into-requires-clause-exists g c =
    let own = read_place c.args.self.now c.requires.runs.0 (g.N.Nand.state c.args.inner.now) c.requires.runs.1 c.args.page c.requires.phase in
    omega (arith, page_is g (goal.at.read_into-requires-clause-exists g c).After-page_in-at, own.1)

pub returns-in-Ok-Whole : goal.returns-in-Ok-Whole
returns-in-Ok-Whole g c =
    let r = c.args.self.now in
    let board : BoardState = g.N.Nand.state c.args.inner.now in
    let end : BoardState = g.N.Nand.state c.read_into.new.inner in
    let new : List ℕ = c.read_into.new.buffer in
    let done = c.in-Ok-Whole.ensures.ok in
    let found = answer_whole (page_at board.pages c.page_in-at.result) (rw c.in-Ok-Whole.field-0-is at c.in-Ok-Whole.ensures.found) in
    let here = ap (page_at board.pages) (sym (page_is g (goal.at.returns-in-Ok-Whole g c).After-page_in-at)) ∙ found.1 in
    let buffer = refilled r.copy new (c.read_into.auto.buffer ∙ c.deref_mut.ensures.len) (c.read_into.auto.buffer ∙ ap length c.deref_mut.ensures.value) c.requires.runs.1.room.read_page in
    let taken : take r.shape.page_bytes new ≡ found.0 = rw c.page_bytes-size.ensures.value at (c.in-Ok-Whole.ensures.bytes ∙ found.2 _) in
    record {
      steps = λ before runs. page_read r before board runs c.args.page c.requires.phase _ found.0 end done here
          (ap (λ (x : List ℕ). take r.shape.page_bytes x) buffer.0 ∙ taken) (rw buffer.0 buffer.1);
      counts = step_done r c.requires.runs.0 board c.requires.runs.1 _ end (only_read board end done) (ap (λ s. s.stop_faults) done) refl;
      calls = one_read c.page_in-at.result (inl done);
    }

pub returns-in-Ok-Erased : goal.returns-in-Ok-Erased
returns-in-Ok-Erased g c =
    let board : BoardState = g.N.Nand.state c.args.inner.now in
    absurd (page_written_before c.args.self.now c.requires.runs.0 board c.requires.runs.1 c.args.page c.requires.phase
    (ap (page_at board.pages) (sym (page_is g (goal.at.returns-in-Ok-Erased g c).After-page_in-at))
    ∙ answer_erased (page_at board.pages c.page_in-at.result) (rw c.in-Ok-Erased.field-0-is at c.in-Ok-Erased.ensures.found)))

pub returns-in-Ok-Torn : goal.returns-in-Ok-Torn
returns-in-Ok-Torn g c =
    let r = c.args.self.now in
    let board : BoardState = g.N.Nand.state c.args.inner.now in
    let end : BoardState = g.N.Nand.state c.read_into.new.inner in
    let new : List ℕ = c.read_into.new.buffer in
    let is = c.in-Ok-Torn.ensures.ok in
    let found = ap (page_at board.pages) (sym (page_is g (goal.at.returns-in-Ok-Torn g c).After-page_in-at))
    ∙ answer_torn (page_at board.pages c.page_in-at.result) (rw c.in-Ok-Torn.field-0-is at c.in-Ok-Torn.ensures.found) in
    let buffer = refilled r.copy new (c.read_into.auto.buffer ∙ c.deref_mut.ensures.len) (c.read_into.auto.buffer ∙ ap length c.deref_mut.ensures.value) c.requires.runs.1.room.read_page in
    record {
      steps = λ before runs. page_torn r before board runs c.args.page c.requires.phase _ (rw buffer.0 buffer.1) end is found;
      counts = step_read r c.requires.runs.0 board c.requires.runs.1 _ c.args.page c.requires.phase end
          (only_read board end is) (ap (λ s. s.stop_faults) is) (ap (λ s. s.shape) is) (ap (λ s. s.pages) is);
      calls = one_read c.page_in-at.result (inl is);
    }

pub returns-in-Err : goal.returns-in-Err
returns-in-Err g c =
    let r = c.args.self.now in
    let board : BoardState = g.N.Nand.state c.args.inner.now in
    let end : BoardState = g.N.Nand.state c.read_into.new.inner in
    let new : List ℕ = c.read_into.new.buffer in
    let failed = c.in-Err.ensures.err in
    let buffer = refilled r.copy new (c.read_into.auto.buffer ∙ c.deref_mut.ensures.len) (c.read_into.auto.buffer ∙ ap length c.deref_mut.ensures.value) c.requires.runs.1.room.read_page in
    record {
      steps = λ before runs. page_read_failed r before board runs c.args.page c.requires.phase _ (rw buffer.0 buffer.1) end c.page_in-at.result failed;
      counts = step_read r c.requires.runs.0 board c.requires.runs.1 _ c.args.page c.requires.phase end
          (only_read_failed board end _ failed) (ap (λ s. s.stop_faults) failed.rest) (ap (λ s. s.shape) failed.rest) (ap (λ s. s.pages) failed.rest);
      calls = one_read c.page_in-at.result (inr failed);
    }
