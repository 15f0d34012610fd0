-- Pages and blocks of a run.
use Rattle.std.{proofs.Common.ℕ, proofs.Common.◌<◌, proofs.Common.◌≤◌, proofs.Common.arith, proofs.lemmas.Grind.div_ceil_times, specs.Int.div_ceil}
use Rattle.pk_base.{specs.Shape.cap, specs.Shape.page_entries, specs.Shape.blocks_of, specs.Shape.run_pages, specs.Shape.run_blocks, proofs.ShapeLemmas.ceil_most}
use Rattle.pk_law_work.specs.Laws.{FewPages, FewBlocks, MergeWithin}

ceil_rises : (x z y : ℕ) → 0 < y → x ≤ z → div_ceil x y ≤ div_ceil z y
ceil_rises x z y some more = ceil_most x y (div_ceil z y) some (omega (arith, (div_ceil_times z y some).0))

pub few_pages : FewPages
few_pages shape level entries is room =
    let page : 512 ≤ shape.page_bytes = is.page_least in
    ceil_most entries (page_entries shape) (cap shape level) (omega arith) room

pub few_blocks : FewBlocks
few_blocks shape level entries is room =
    let block : 8 ≤ shape.block_pages = is.block_least in
    ceil_rises (run_pages shape entries) (cap shape level) shape.block_pages (omega arith) (few_pages shape level entries is room)

pub merge_within : MergeWithin
merge_within shape level unread entries programmed taken others is reads room few =
    let pages : run_pages shape entries ≤ cap shape level = few_pages shape level entries is room in
    let blocks : run_blocks shape entries ≤ blocks_of shape (cap shape level) = few_blocks shape level entries is room in
    omega arith
