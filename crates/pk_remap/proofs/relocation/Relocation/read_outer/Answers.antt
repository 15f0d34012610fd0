use Rattle.std.proofs.Common.{◌≡◌, sym, ap, ◌∙◌}
use Rattle.pk_base.specs.Page.{page_at}
use Rattle.pk_nand.specs.BoardState.{BoardState}
use Rattle.pk_remap.{specs.Serving.outer_of, proofs.Outer.page_inside, proofs.Outer.outer_page}
use Rattle.pk_remap.proofs.relocation.Relocation.read_outer.Goals as goal

pub read-requires-clause-exists : goal.read-requires-clause-exists
read-requires-clause-exists g c =
    rw c.inner_page.ensures (page_inside c.args.self.now (g.N.Nand.state c.args.inner.now) c.requires.rests c.args.page c.requires.inside)

pub returns-clause-found : goal.returns-clause-found
returns-clause-found g c =
    let board : BoardState = g.N.Nand.state c.args.inner.now in
    let same : page_at (outer_of c.args.self.now board.pages) c.args.page ≡ page_at board.pages c.inner_page.result =
    outer_page c.args.self.now board c.requires.rests c.args.page c.requires.inside ∙ ap (page_at board.pages) (sym c.inner_page.ensures) in
    rw same c.read.ensures.found

pub returns-clause-bytes : goal.returns-clause-bytes
returns-clause-bytes g c =
    let board : BoardState = g.N.Nand.state c.args.inner.now in
    let same : page_at (outer_of c.args.self.now board.pages) c.args.page ≡ page_at board.pages c.inner_page.result =
    outer_page c.args.self.now board c.requires.rests c.args.page c.requires.inside ∙ ap (page_at board.pages) (sym c.inner_page.ensures) in
    rw same c.read.ensures.bytes
