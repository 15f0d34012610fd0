-- A pair of pages that is half made, by what is on the flash, and its second program.
use Rattle.std.specs.Prelude.{◌≡◌, ◌⊎◌, ℕ, ◌+◌, ◌<◌, List, slice_set, Some}
use Rattle.pk_base.{specs.Shape.Shape, specs.Shape.epoch_commits, specs.Page.Flash, specs.Page.page_at, specs.Page.commit_page, specs.Page.erased, specs.Page.whole}
use Rattle.pk_rootfmt.{specs.Root.Root, specs.Newest.newest_root}

-- the pair of this first page is that of the newest root, or of a commit of its newest epoch
abbrev pub IsPairUnder : Shape → ℕ × Root → ℕ → Type 0
IsPairUnder shape top page = (page ≡ top.0) ⊎ ((i : ℕ) × (i < epoch_commits shape) × (page ≡ commit_page shape top.1.newest i))

-- The first page of such a pair is Whole, and the second one Erased.
pub record HasHalf (shape : Shape) (flash : Flash) : Type 0 where
  pub top : ℕ × Root
  pub is_newest : newest_root shape (page_at flash) ≡ Some top
  pub page : ℕ
  pub under : IsPairUnder shape top page
  pub bytes : List ℕ
  pub first : page_at flash page ≡ whole bytes
  pub second : page_at flash (page + 1) ≡ erased

-- The second page of that pair got the bytes of the first, and no other page differs; the newest root is the same.
pub record MakesPair (shape : Shape) (old new : Flash) : Type 0 where
  pub half : HasHalf shape old
  pub pages : new ≡ slice_set old (half.page + 1) (whole half.bytes)
  pub same_root : newest_root shape (page_at new) ≡ newest_root shape (page_at old)
