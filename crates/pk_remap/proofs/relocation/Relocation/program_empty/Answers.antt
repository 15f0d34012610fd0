use Rattle.std.proofs.Common.{◌≡◌, ℕ, List, length, sym, ap, subst, ◌∙◌}
use Rattle.std.specs.Prelude.{OnOk, OnErr}
use Rattle.pk_base.{specs.Shape.Shape, specs.Page.IsPage}
use Rattle.pk_nand.{specs.BoardState.BoardState, specs.Calls.after_program, specs.Calls.ProgramFailed, proofs.Writing.shape_is}
use Rattle.pk_remap.proofs.Running.{refilled}
use Rattle.pk_remap.proofs.relocation.Relocation.program_empty.Goals as goal

pub program_table-requires-clause-order : goal.program_table-requires-clause-order
program_table-requires-clause-order g c = rw (shape_is (g.N.Nand.state c.args.inner.now) _ c.requires.ready) c.requires.order

pub program_table-requires-clause-sized : goal.program_table-requires-clause-sized
program_table-requires-clause-sized g c = sym (ap (λ (s : Shape). s.page_bytes) (shape_is (g.N.Nand.state c.args.inner.now) _ c.requires.ready))

pub returns-clause-full : goal.returns-clause-full
returns-clause-full g c = subst (IsPage c.args.self.now.shape) c.program_table.ensures.bytes c.program_table.ensures.page

pub returns-clause-ok : goal.returns-clause-ok
returns-clause-ok g c =
    let board : BoardState = g.N.Nand.state c.args.inner.now in
    let P : List ℕ → Type 0 = λ b. OnOk c.program_table.result (g.N.Nand.state c.program_table.new.inner ≡ after_program board c.args.page b) in
    subst P c.program_table.ensures.bytes c.program_table.ensures.ok

pub returns-clause-err : goal.returns-clause-err
returns-clause-err g c =
    let board : BoardState = g.N.Nand.state c.args.inner.now in
    let P : List ℕ → Type 0 = λ b. OnErr c.program_table.result (ProgramFailed board (g.N.Nand.state c.program_table.new.inner) c.args.page b) in
    subst P c.program_table.ensures.bytes c.program_table.ensures.err

pub returns-clause-room : goal.returns-clause-room
returns-clause-room g c =
    let r = c.args.self.now in
    let new : List ℕ = c.program_table.new.buffer in
    let room = c.requires.room in
    let buffer = refilled r.copy new (c.program_table.auto.buffer ∙ c.deref_mut.ensures.len) (c.program_table.auto.buffer ∙ ap length c.deref_mut.ensures.value) room.read_page in
    record { fits = room.fits; all = room.all; kept_page = room.kept_page; new_page = room.new_page; read_page = rw buffer.0 buffer.1 }
