use Rattle.std.proofs.Common.{◌≡◌, ◌+◌, ◌<◌, ℕ, length, Some, sym, subst}
use Rattle.pk_nand.{specs.BoardState.BoardState, specs.Calls.after_program, specs.Calls.ProgramFailed, specs.Operations.InOrder}
use Rattle.pk_remap.{specs.declared.relocation.Relocation.Relocation as InMemory, specs.Places.inner_shape, specs.Running.HasPageBuffers}
use Rattle.pk_remap.specs.FirstTable.{first_table_bytes, FirstTableWritten, FirstTableFailed}
use Rattle.pk_remap.proofs.Making.{half_ready, second_inside, second_in_order, first_written, second_failed}
use Rattle.pk_remap.proofs.relocation.Relocation.program_again.Goals as goal

pub program_empty-requires-clause-ready : goal.program_empty-requires-clause-ready
program_empty-requires-clause-ready g c =
    let h = c.requires.half.1 in
    half_ready c.args.self.now c.requires.half.0 h.was c.known.ensures c.requires.few h.full (g.N.Nand.state c.args.inner.now) h.board

pub program_empty-requires-clause-exists : goal.program_empty-requires-clause-exists
program_empty-requires-clause-exists g c =
    let h = c.requires.half.1 in
    let half : BoardState = g.N.Nand.state c.args.inner.now in
    let P : ℕ → Type 0 = λ k. k + 1 < length half.pages in
    subst P (sym c.requires.at) (second_inside c.args.self.now c.requires.half.0 h.was c.known.ensures c.requires.few h.full half h.board)

pub program_empty-requires-clause-order : goal.program_empty-requires-clause-order
program_empty-requires-clause-order g c =
    let h = c.requires.half.1 in
    let half : BoardState = g.N.Nand.state c.args.inner.now in
    let P : ℕ → Type 0 = λ k. InOrder (inner_shape c.args.self.now.shape c.args.self.now.spares) half.pages (k + 1) in
    subst P (sym c.requires.at) (second_in_order c.args.self.now c.requires.half.0 h.was c.known.ensures c.requires.few h.full half h.board)

pub returns-in-Ok : goal.returns-in-Ok
returns-in-Ok g c made h =
    let r = c.args.self.now in
    let half : BoardState = g.N.Nand.state c.args.inner.now in
    let new : BoardState = g.N.Nand.state c.program_empty.new.inner in
    let copy = c.program_empty.new.self.copy in
    let T : ℕ → Type 0 = λ k. new ≡ after_program half (k + 1) (first_table_bytes r) in
    let last = subst T c.requires.at c.in-Ok.ensures.ok in
    let room = subst HasPageBuffers c.program_empty.ensures.copy c.program_empty.ensures.room in
    let own = first_written r made h.was c.known.ensures c.requires.few h.full half h.board new last copy room c.requires.none in
    let P : ℕ → Type 0 = λ k. FirstTableWritten r made (record r { copy = copy; number = 1; used = 0; top = k; next = Some (k + 2) }) new in
    let U : InMemory → Type 0 = λ s. FirstTableWritten r made (record s { number = 1; used = 0; top = c.args.page; next = Some (c.args.page + 2) }) new in
    subst U (sym c.program_empty.ensures.copy) (subst P (sym c.requires.at) own)

pub returns-in-Err : goal.returns-in-Err
returns-in-Err g c made h =
    let r = c.args.self.now in
    let half : BoardState = g.N.Nand.state c.args.inner.now in
    let new : BoardState = g.N.Nand.state c.program_empty.new.inner in
    let copy = c.program_empty.new.self.copy in
    let T : ℕ → Type 0 = λ k. ProgramFailed half new (k + 1) (first_table_bytes r) in
    let failed = subst T c.requires.at c.in-Err.ensures.err in
    let room = subst HasPageBuffers c.program_empty.ensures.copy c.program_empty.ensures.room in
    let own = second_failed r made h.was c.known.ensures c.requires.few h.full half h.board new failed copy room c.requires.none in
    let U : InMemory → Type 0 = λ s. FirstTableFailed r made s new in
    subst U (sym c.program_empty.ensures.copy) own
