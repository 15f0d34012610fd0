use Rattle.std.{proofs.Common.◌≡◌, proofs.Common.◌/◌, proofs.Common.length, proofs.Common.take, proofs.Common.arith, proofs.lemmas.List.length-take-le}
use Rattle.pk_remap.{specs.Places.place, specs.Running.relocation_of, proofs.Placing.place-below, proofs.Placing.block_of}
use Rattle.pk_remap.proofs.relocation.Relocation.inner_page.Goals as goal

pub page_in-requires-clause-block : goal.page_in-requires-clause-block
page_in-requires-clause-block c =
    let r = c.args.self.now in
    let table = (relocation_of r).table in
    let least = c.known.ensures.block_least in
    let most = c.known.ensures.blocks_most in
    let block = block_of r.shape table (omega (arith, least)) c.args.page c.requires.inside in
    let below = place-below r.shape table (c.args.page / r.shape.block_pages) block in
    let used = c.requires.used in
    let size : length (take r.used r.serves) ≡ r.used = length-take-le r.used r.serves (omega (arith, used, c.requires.all)) in
    let at : c.place-block.result ≡ place r.shape table (c.args.page / r.shape.block_pages) = rw c.block_pages-pages.ensures.value at c.place-block.ensures in
    omega (arith, at, below, size, used, most)
