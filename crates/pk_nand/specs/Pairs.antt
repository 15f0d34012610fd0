-- Pairs of pages, of which both are programmed with the same bytes.
use Rattle.std.specs.Prelude.{◌≡◌, ◌⊎◌, ℕ, ◌+◌, ◌-◌, ◌%◌, List, [], ◌∷◌}
use Rattle.pk_base.{specs.Shape.Shape, specs.Page.Page, specs.Page.Flash, specs.Page.page_at, specs.Page.erased, specs.Page.whole, specs.Page.torn, specs.Mark.Mark, specs.Mark.program}
use Rattle.pk_nand.specs.Crash.{SameOutside}

-- the first page of the pair of this page
abbrev pub first_of_pair : Shape → ℕ → ℕ
first_of_pair shape page = page - page % shape.block_pages % 2

-- the programs of a pair from its first page on
abbrev pub programs_of_pair : ℕ → List ℕ → List (ℕ × List ℕ)
programs_of_pair page bytes = (page, bytes) ∷ (page + 1, bytes) ∷ []

-- and their marks
abbrev pub marks_of_pair : ℕ → List ℕ → List Mark
marks_of_pair page bytes = program page bytes ∷ program (page + 1) bytes ∷ []

-- the page holds these bytes or nothing
abbrev pub HoldsAtMost : List ℕ → Page → Type 0
HoldsAtMost bytes page = (page ≡ whole bytes) ⊎ ((page ≡ erased) ⊎ (page ≡ torn))

-- What may be left if the programs of a pair were cut: each of its pages holds the bytes or nothing, and no other page differs.
pub record IsPairCut (page : ℕ) (bytes : List ℕ) (old cut : Flash) : Type 0 where
  pub outside : SameOutside page 2 old cut
  pub first : HoldsAtMost bytes (page_at cut page)
  pub second : HoldsAtMost bytes (page_at cut (page + 1))

-- outside the pair of this page nothing differs
abbrev pub SameOutsidePair : Shape → ℕ → Flash → Flash → Type 0
SameOutsidePair shape page old new = SameOutside (first_of_pair shape page) 2 old new
