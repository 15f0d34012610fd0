-- What changes after the root blocks leave: the statements.
use Rattle.std.specs.Prelude.{◌≡◌, ℕ, ◌<◌}
use Rattle.pk_base.{specs.Shape.Shape, specs.Shape.root_pages, specs.Page.Flash, specs.Page.page_at}
use Rattle.pk_rootfmt.{specs.Root.Root, specs.Newest.newest_root}
use Rattle.pk_root.{specs.declared.next.Next.Next, specs.Installing.InstallerOnFlash}

-- no page of the root blocks differs
abbrev pub SameFront : Shape → Flash → Flash → Type 0
SameFront shape old new = (k : ℕ) → k < root_pages shape → page_at new k ≡ page_at old k

-- the newest root is that of the pages of the root blocks
abbrev pub NewestBySame : Type 0
NewestBySame = (shape : Shape) (old new : Flash) → SameFront shape old new → newest_root shape (page_at new) ≡ newest_root shape (page_at old)

-- what an installer does next can be done as before
abbrev pub FitsBySame : Type 0
FitsBySame = (shape : Shape) (next : Next) (top : ℕ × Root) (old new : Flash) → SameFront shape old new → InstallerOnFlash shape next top old → InstallerOnFlash shape next top new
