-- The numbers of two shapes, and the frames that pin two levels of any shape.
use Rattle.std.proofs.Common.{◌≡◌, ℕ, refl, List, [], ◌∷◌}
use Rattle.pk_base.specs.Shape.{Shape, page_entries, most_pages, greatest, buffer, deepest, meta_blocks, data_blocks, limit, need}

abbrev small : Shape
small = record { page_bytes = 512; block_pages = 16; blocks = 64 }

abbrev large : Shape
large = record { page_bytes = 4096; block_pages = 64; blocks = 512 }

-- entries of a page, most pages and most bytes of a value, entries of a write buffer, pages of run 4, meta blocks, data blocks, most live pages
abbrev numbers : Shape → List ℕ
numbers shape = page_entries shape ∷ most_pages shape ∷ greatest shape ∷ buffer shape ∷ deepest shape ∷ meta_blocks shape ∷ data_blocks shape ∷ limit shape ∷ []

of_small : numbers small ≡ 15 ∷ 4 ∷ 2016 ∷ 30 ∷ 76 ∷ 16 ∷ 42 ∷ 492 ∷ []
unfolding greatest deepest meta_blocks data_blocks limit
of_small = refl

of_large : numbers large ≡ 127 ∷ 16 ∷ 65504 ∷ 254 ∷ 218 ∷ 11 ∷ 495 ∷ 23712 ∷ []
unfolding greatest deepest meta_blocks data_blocks limit
of_large = refl

two_levels : (shape : Shape) → need shape 2 ≡ 36
two_levels shape = refl
