use Rattle.std.proofs.Common.{◌≡◌, ◌+◌, ◌*◌, ◌<◌, ℕ, suc, sym, ap, subst, ◌∙◌, arith, Option}
use Rattle.pk_base.specs.Page.{Flash, page_at}
use Rattle.pk_nand.{specs.BoardState.BoardState, specs.Operations.after_read, specs.Counts.after_reads}
use Rattle.pk_remap.{specs.Table.SpareTable, specs.Newest.table_in, specs.Newest.first_table_page, specs.Searched.table_found, specs.Searched.table_read, proofs.Finding.Found}
use Rattle.pk_remap.proofs.Bounding.{calls_reads, calls_read_failed}
use Rattle.pk_remap.proofs.Searching.{read_table, searched-step, searched-all, search_failed}
use Rattle.pk_remap.proofs.search.newest.Goals as goal

pub loop-i-preserved : goal.loop-i-preserved
loop-i-preserved g c =
    let old : BoardState = g.N.Nand.state c.args.inner.now in
    let now : BoardState = g.N.Nand.state c.loop-i.inner in
    let board : now ≡ after_reads c.loop-i.i old = c.loop-i.invariant.board in
    let pages : now.pages ≡ old.pages = ap (λ s. s.pages) board in
    let shape = c.args.shape.now in
    let at : ℕ = c.page_in-first.result + c.loop-i.i in
    let own : Option SpareTable = table_read shape c.args.spares c.in-Ok.found c.read.new.into in
    let same : own ≡ table_in shape c.args.spares (page_at old.pages at) =
    (λ i. table_read shape c.args.spares (c.in-Ok.ensures.found i) (c.in-Ok.ensures.bytes i))
    ∙ read_table shape c.args.spares (page_at now.pages at) c.loop-i.buf
    ∙ ap (λ (f : Flash). table_in shape c.args.spares (page_at f at)) pages in
    let more = searched-step shape c.args.spares (page_at old.pages) c.page_in-first.result c.loop-i.i
    (table_found c.loop-i.best c.loop-i.serves) own (sym same) c.loop-i.invariant.found in
    let next : suc c.loop-i.i ≡ c.loop-i.i + 1 = omega arith in
    let P : ℕ → Type 0 = λ k. Found shape c.args.spares (page_at old.pages) c.page_in-first.result k
    (table_found c.take_read-best.result c.take_read-best.new.serves) in
    let Q : Option (ℕ × SpareTable) → Type 0 = λ r. Found shape c.args.spares (page_at old.pages) c.page_in-first.result (suc c.loop-i.i) r in
    record {
      found = subst P next (subst Q (sym c.take_read-best.ensures.newer) more);
      board = c.in-Ok.ensures.ok ∙ ap after_read board ∙ ap (λ (k : ℕ). after_reads k old) next;
      few = c.take_read-best.ensures.few c.loop-i.invariant.few;
      room = c.take_read-best.ensures.len ∙ c.loop-i.invariant.room;
      sized = c.read.auto.into ∙ c.loop-i.invariant.sized;
    }

pub returns-clause-found : goal.returns-clause-found
returns-clause-found g c =
    let shape = c.args.shape.now in
    let old : BoardState = g.N.Nand.state c.args.inner.now in
    let count : c.loop-i.i ≡ 2 * shape.block_pages = omega (arith, c.loop-i-test.false, c.loop-i.auto.i-end, c.block_pages-i-end.ensures.value) in
    let place : c.page_in-first.result ≡ (shape.blocks + c.args.spares) * shape.block_pages + 0 = rw c.blocks-2.ensures.value at c.page_in-first.ensures in
    let first : c.page_in-first.result ≡ first_table_page shape c.args.spares = omega (arith, place) in
    let P : ℕ → Type 0 = λ f. Found shape c.args.spares (page_at old.pages) f c.loop-i.i (table_found c.loop-i.best c.loop-i.serves) in
    let Q : ℕ → Type 0 = λ n. Found shape c.args.spares (page_at old.pages)
    (first_table_page shape c.args.spares) n (table_found c.loop-i.best c.loop-i.serves) in
    searched-all shape c.args.spares (page_at old.pages) (table_found c.loop-i.best c.loop-i.serves) (subst Q count (subst P first c.loop-i.invariant.found))

pub returns-in-Err-clause-err : goal.returns-in-Err-clause-err
returns-in-Err-clause-err g c =
    search_failed c.loop-i.i (c.page_in-first.result + c.loop-i.i) (g.N.Nand.state c.args.inner.now) (g.N.Nand.state c.loop-i.inner)
    (g.N.Nand.state c.read.new.self) c.loop-i.invariant.board c.in-Err.ensures.err

pub returns-clause-calls : goal.returns-clause-calls
returns-clause-calls g c =
    let count : c.loop-i.i ≡ 2 * c.args.shape.now.block_pages = omega (arith, c.loop-i-test.false, c.loop-i.auto.i-end, c.block_pages-i-end.ensures.value) in
    calls_reads c.loop-i.i (2 * c.args.shape.now.block_pages) (g.N.Nand.state c.args.inner.now) (g.N.Nand.state c.loop-i.inner) (omega (arith, count)) c.loop-i.invariant.board

pub returns-in-Err-clause-calls : goal.returns-in-Err-clause-calls
returns-in-Err-clause-calls g c =
    let few : c.loop-i.i < 2 * c.args.shape.now.block_pages = omega (arith, c.loop-i-test.true, c.block_pages-i-end.ensures.value) in
    calls_read_failed c.loop-i.i (2 * c.args.shape.now.block_pages) (c.page_in-first.result + c.loop-i.i) (g.N.Nand.state c.args.inner.now) (g.N.Nand.state c.loop-i.inner)
    (g.N.Nand.state c.read.new.self) few c.loop-i.invariant.board c.in-Err.ensures.err
