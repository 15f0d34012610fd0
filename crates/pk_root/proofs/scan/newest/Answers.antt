use Rattle.std.proofs.Common.{◌≡◌, ◌∙◌, ◌*◌, arith, ap}
use Rattle.pk_base.{specs.Shape.root_pages, specs.Page.page_at}
use Rattle.pk_rootfmt.specs.Newest.{newest_root}
use Rattle.pk_root.{specs.Scanned.found_at, proofs.Scanning.Scanned-next, proofs.Scanning.Scanned-end, proofs.Scanning.found_page, proofs.Scanning.found_place, proofs.Scanning.found_grammar}
use Rattle.pk_root.proofs.scan.newest.Given.{Over}
use Rattle.pk_root.proofs.scan.newest.Goals as goal

pub loop-page-preserved : goal.loop-page-preserved
loop-page-preserved g c = record {
  buffer = c.read.auto.into ∙ c.loop-page.invariant.buffer;
  scanned = rw c.in-Ok.ensures.ok (Scanned-next _ _ c.args.into.now.shape c.loop-page.page c.loop-page.best c.newer_read-best.result c.args.into.now c.loop-page.into c.newer_read-best.new.into
      c.in-Ok.found c.loop-page.buf c.read.new.into c.loop-page.invariant.scanned c.in-Ok.ensures.found c.in-Ok.ensures.bytes
      c.newer_read-best.ensures.newer c.newer_read-best.ensures.shape c.newer_read-best.ensures.kept);
}

-- all pages of the root blocks were read
ended : (g : Over) (c : goal.After-loop-page g) → found_at c.loop-page.best c.loop-page.into.root ≡ newest_root c.args.into.now.shape (page_at (g.B.Nand.state c.args.board.now).pages)
ended g c =
    let pages : c.root_pages-pages.result ≡ root_pages c.args.into.now.shape = c.root_pages-pages.ensures.value ∙ ap root_pages c.shape.ensures in
    let all : c.loop-page.page ≡ 2 * c.args.into.now.shape.block_pages = omega (arith, c.loop-page-test.false, c.loop-page.auto.page-end, pages) in
    Scanned-end _ (g.B.Nand.state c.loop-page.board) c.args.into.now.shape c.loop-page.best c.args.into.now c.loop-page.into (rw all at c.loop-page.invariant.scanned)

pub returns-clause-found : goal.returns-clause-found
returns-clause-found g c = found_page c.args.into.now.shape (page_at (g.B.Nand.state c.args.board.now).pages) c.loop-page.into.root c.loop-page.best (ended g c)

pub returns-clause-place : goal.returns-clause-place
returns-clause-place g c = found_place c.args.into.now.shape (page_at (g.B.Nand.state c.args.board.now).pages) c.loop-page.into.root c.loop-page.best (ended g c)

pub returns-clause-grammar : goal.returns-clause-grammar
returns-clause-grammar g c =
    rw c.loop-page.invariant.scanned.shape_is
    (found_grammar c.args.into.now.shape (page_at (g.B.Nand.state c.args.board.now).pages) c.loop-page.into.root c.loop-page.best (ended g c))
