-- How many roots were installed, and when no more are.
use Rattle.std.specs.Prelude.{ℕ, Bool, nat_le, Option, Some, None}
use Rattle.pk_base.{specs.Shape.Shape, specs.Page.Flash, specs.Page.page_at}
use Rattle.pk_rootfmt.{specs.Root.Root, specs.Newest.newest_root}
use Rattle.pk_nand.specs.BoardState.{BoardState, shape_of}
use Rattle.pk_model.specs.declared.wear.TheConstants.{WORN_FROM}

abbrev pub number_of : Option (ℕ × Root) → ℕ
number_of None = 0
number_of (Some top) = top.1.number

-- the number of the newest root; 0 if there is none
unfoldable pub root_number : Shape → Flash → ℕ
root_number shape flash = number_of (newest_root shape (page_at flash))

-- the same of a board
abbrev pub roots : BoardState → ℕ
roots board = root_number (shape_of board) board.pages

-- the numbers of roots are used up
abbrev pub is_worn : BoardState → Bool
is_worn board = nat_le WORN_FROM (roots board)
