-- A search through root pages from the lowest on: the newest root so far.
use Rattle.std.specs.Prelude.{ℕ, List, nat_le, if◌then◌else◌, Bool, false, Option, Some, None}
use Rattle.pk_base.specs.Shape.{Shape}
use Rattle.pk_nand.specs.declared.types.PageRead.{PageRead}
use Rattle.pk_nand.specs.declared.types.PageRead.TheVariants.{Erased, Whole, Torn}
use Rattle.pk_rootfmt.specs.Root.{Root, root_page}

-- the root of a page, if there is one, with the page's number
abbrev pub at_page : ℕ → Option Root → Option (ℕ × Root)
at_page page None = None
at_page page (Some root) = Some (page, root)

-- the root in memory, if it was found in a page
abbrev pub found_at : Option ℕ → Root → Option (ℕ × Root)
found_at None root = None
found_at (Some page) root = Some (page, root)

-- the one with the greater number, of equals the first
abbrev pub newer : Option (ℕ × Root) → Option (ℕ × Root) → Option (ℕ × Root)
newer None later = later
newer (Some first) None = Some first
newer (Some first) (Some later) = if nat_le later.1.number first.1.number then Some first else Some later

-- one was found before, and its number is no less
abbrev pub is_older : Option ℕ → ℕ → ℕ → Bool
is_older None number other = false
is_older (Some page) number other = nat_le other number

-- the root in a page that was read
abbrev pub root_in : Shape → PageRead → List ℕ → Option Root
root_in shape Erased bytes = None
root_in shape Whole bytes = root_page shape bytes
root_in shape Torn bytes = None
