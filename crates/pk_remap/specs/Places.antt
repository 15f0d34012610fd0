-- Which inner block has a block of the outer flash.
use Rattle.std.specs.Prelude.{ℕ, zero, suc, ◌+◌, ◌*◌, ◌/◌, ◌%◌, ◌==◌, if◌then◌else◌, List, [], ◌∷◌, ◌++◌, replicate}
use Rattle.pk_base.{specs.Shape.Shape, specs.Shape.page_count, specs.Page.Page, specs.Page.Flash}
use Rattle.pk_remap.{specs.declared.layout.TheConstants.FAILED, specs.Table.SpareTable}

-- the inner flash: after the blocks of the outer flash it has the spares, and after them the two table blocks
abbrev pub inner_shape : Shape → ℕ → Shape
inner_shape shape spares = record shape { blocks = shape.blocks + spares + 2 }

-- of the spares from this one on the last that serves a block, or what was found before
abbrev pub serving : ℕ → List ℕ → ℕ → ℕ → ℕ
serving spare [] block found = found
serving spare (b ∷ bs) block found = serving (suc spare) bs block (if b == block then spare else found)

-- the inner block that has a block of the outer flash: the last spare that serves it, or the block of the same number
abbrev pub place : Shape → SpareTable → ℕ → ℕ
place shape table block = serving shape.blocks table.serves block block

-- the inner page that has a page of the outer flash
abbrev pub placed_page : Shape → SpareTable → ℕ → ℕ
placed_page shape table k = place shape table (k / shape.block_pages) * shape.block_pages + k % shape.block_pages

-- n pages from page k on
abbrev pub pages_from : (ℕ → Page) → ℕ → ℕ → Flash
pages_from at k zero = []
pages_from at k (suc n) = at k ∷ pages_from at (suc k) n

-- the outer flash, by this table
abbrev pub through_by : Shape → SpareTable → (ℕ → Page) → Flash
through_by shape table at = pages_from (λ k. at (placed_page shape table k)) 0 (page_count shape)

-- the next table: this many spares failed, and the one after them serves this block
abbrev pub with_one_more : SpareTable → ℕ → ℕ → SpareTable
with_one_more table failed block = record { number = table.number + 1; serves = table.serves ++ (replicate failed FAILED ++ block ∷ []) }
