use Rattle.std.proofs.Common.{◌≡◌, ◌<◌, ℕ, length, sym, ap, subst, ◌∙◌, arith}
use Rattle.pk_nand.{specs.BoardState.BoardState, specs.Calls.after_program, specs.Calls.ProgramFailed, specs.Operations.InOrder}
use Rattle.pk_remap.{specs.declared.relocation.Relocation.Relocation as InMemory, specs.Newest.first_table_page, specs.Places.inner_shape, specs.Running.HasPageBuffers}
use Rattle.pk_remap.specs.FirstTable.{first_table_bytes, IsHalfMade, FirstTableOutcome, FirstTableFailed}
use Rattle.pk_remap.proofs.relocation.Relocation.write_first_table.{Given.Over, Goals.After-page_in-page, Goals.In-Ok}
use Rattle.pk_remap.{proofs.Making.made_ready, proofs.Making.first_inside, proofs.Making.first_in_order, proofs.Making.first_failed, proofs.Making.outcome_copy}
use Rattle.pk_remap.proofs.relocation.Relocation.write_first_table.Goals as goal

page_is : (g : Over) (c : After-page_in-page g) → c.page_in-page.result ≡ first_table_page c.args.self.now.shape c.args.self.now.spares
page_is g c = let own = rw c.blocks-2.ensures.value at c.page_in-page.ensures in omega (arith, own)

-- the table is in the first page of the pair
half_made : (g : Over) (c : In-Ok g) → c.page_in-page.result ≡ first_table_page c.args.self.now.shape c.args.self.now.spares
    → IsHalfMade c.program_empty.new.self (g.N.Nand.state c.args.inner.now) (g.N.Nand.state c.program_empty.new.inner)
half_made g c at =
    let r = c.args.self.now in
    let board : BoardState = g.N.Nand.state c.args.inner.now in
    let half : BoardState = g.N.Nand.state c.program_empty.new.inner in
    let P : ℕ → Type 0 = λ k. half ≡ after_program board k (first_table_bytes r) in
    let T : InMemory → Type 0 = λ s. IsHalfMade s board half in
    subst T (sym c.program_empty.ensures.copy) (record { was = c.requires.made; full = c.program_empty.ensures.full; board = subst P at c.in-Ok.ensures.ok })

pub program_empty-requires : goal.program_empty-requires
program_empty-requires g c =
    let r = c.args.self.now in
    let board : BoardState = g.N.Nand.state c.args.inner.now in
    let at = sym (page_is g (goal.at.program_empty-requires g c).After-page_in-page) in
    let P : ℕ → Type 0 = λ k. k < length board.pages in
    let Q : ℕ → Type 0 = λ k. InOrder (inner_shape r.shape r.spares) board.pages k in
    record {
      ready = made_ready r board c.requires.made c.known.ensures c.requires.few;
      exists = subst P at (first_inside r board c.requires.made c.known.ensures c.requires.few);
      order = subst Q at (first_in_order r board c.requires.made c.known.ensures c.requires.few);
      few = c.requires.few;
      room = c.requires.room;
    }

pub program_again-requires : goal.program_again-requires
program_again-requires g c =
    let copy = c.program_empty.ensures.copy in
    let at = page_is g (goal.at.program_again-requires g c).After-page_in-page in
    let spares = ap (λ (s : InMemory). s.spares) copy in
    let few = c.requires.few in
    let T : InMemory → Type 0 = λ s. c.page_in-page.result ≡ first_table_page s.shape s.spares in
    record {
      at = subst T (sym copy) at;
      half = (g.N.Nand.state c.args.inner.now, half_made g (goal.at.program_again-requires g c).In-Ok at);
      few = omega (arith, spares, few);
      none = ap (λ (s : InMemory). s.taken) copy ∙ c.requires.none;
      room = c.program_empty.ensures.room;
    }

pub returns-in-Ok : goal.returns-in-Ok
returns-in-Ok g c =
    let r = c.args.self.now in
    let board : BoardState = g.N.Nand.state c.args.inner.now in
    let new : BoardState = g.N.Nand.state c.program_again.new.inner in
    let is_half = half_made g (goal.at.returns-in-Ok g c).In-Ok (page_is g (goal.at.returns-in-Ok g c).After-page_in-page) in
    let U : InMemory → Type 0 = λ s. FirstTableOutcome s board c.program_again.result c.program_again.new.self new in
    outcome_copy r c.program_empty.new.self.copy board c.program_again.result c.program_again.new.self new
    (subst U c.program_empty.ensures.copy (c.program_again.ensures board is_half))

pub returns-in-Err : goal.returns-in-Err
returns-in-Err g c =
    let r = c.args.self.now in
    let board : BoardState = g.N.Nand.state c.args.inner.now in
    let new : BoardState = g.N.Nand.state c.program_empty.new.inner in
    let T : ℕ → Type 0 = λ k. ProgramFailed board new k (first_table_bytes r) in
    let failed = subst T (page_is g (goal.at.returns-in-Err g c).After-page_in-page) c.in-Err.ensures.err in
    let room = subst HasPageBuffers c.program_empty.ensures.copy c.program_empty.ensures.room in
    let U : InMemory → Type 0 = λ s. FirstTableFailed r board s new in
    subst U (sym c.program_empty.ensures.copy)
    (first_failed r board c.requires.made c.known.ensures c.requires.few new failed c.program_empty.new.self.copy room c.requires.none)
