-- The install of a root that may follow the newest one, in three steps: the erase before it, if one is next, and its two programs.
use Rattle.std.specs.Prelude.{◌≡◌, ℕ, ◌+◌, [], slice_set, true, false}
use Rattle.pk_base.{specs.Shape.Shape, specs.Page.Flash, specs.Page.whole as whole_page, specs.Page.SameBehind, specs.Map.Map}
use Rattle.pk_nand.specs.BoardState.{BoardState}
use Rattle.pk_rootfmt.specs.Root.{Root, root_bytes}
use Rattle.pk_model.{specs.Spaces.limits_at, specs.Found.Found, specs.Growth.Reaches, specs.Growth.Goes, specs.Crashes.CrashFinds, specs.Crashes.background, specs.Wear.root_number}
use Rattle.pk_root.{specs.declared.next.Next.Next, specs.declared.next.Next.TheVariants.Again}
use Rattle.pk_root.specs.Installing.{InstallerOnFlash, programs_next, repeats_next, before_pair}
use Rattle.pk_law_steps.{specs.Under.IsUnder, specs.Next.IsNext}

-- ---- the erase

-- the map is under the newest root, and what the installer does next can be done
pub record CanPrepare (shape : Shape) (next : Next) (flash : Flash) (top : ℕ × Root) (found : Found) (m : Map) : Type 0 where
  pub installs : InstallerOnFlash shape next top flash
  pub under : IsUnder shape flash [] top found m

-- The newest root is the former, and the first program of the next one is next; the map is the same, wherever the erase is cut.
pub record IsPrepared (shape : Shape) (old : BoardState) (top : ℕ × Root) (found : Found) (m : Map) (next' : Next) (new : BoardState) : Type 0 where
  pub installs : InstallerOnFlash shape next' top new.pages
  pub programs : programs_next next' ≡ true
  pub under : IsUnder shape new.pages [] top found m
  pub behind : SameBehind shape old.pages new.pages
  pub cuts : Reaches shape old new (CrashFinds shape background old.pages m)

-- so for each of the maps that it might have
abbrev pub Prepares : Shape → Next → BoardState → Next → BoardState → Type 0
Prepares shape next old next' new =
    (top : ℕ × Root) (found : Found) (m : Map) → CanPrepare shape next old.pages top found m → IsPrepared shape old top found m next' new

-- the same of an erase that failed
abbrev pub PrepareBreaks : Shape → Next → BoardState → BoardState → Type 0
PrepareBreaks shape next old new =
    (top : ℕ × Root) (found : Found) (m : Map) → CanPrepare shape next old.pages top found m
    → Goes shape old new (CrashFinds shape background old.pages m)

-- ---- the first program

-- The pair of the newest root is half made: its second program is next. Before its first program the map was under a former root with the same limits.
pub record IsHalf (shape : Shape) (next : Next) (flash : Flash) (m : Map) : Type 0 where
  pub page : ℕ
  pub again : next ≡ Again page
  pub former : ℕ × Root
  pub former_found : Found
  pub was : IsUnder shape (before_pair flash page) [] former former_found m
  pub same_limits : limits_at shape (before_pair flash page) ≡ limits_at shape flash

-- the root may follow the newest one of the flash, and what the installer does next can be done
pub record CanInstall (shape : Shape) (root : Root) (next : Next) (flash : Flash) (top : ℕ × Root) (found then_found : Found) (m : Map) : Type 0 where
  pub installs : InstallerOnFlash shape next top flash
  pub under : IsUnder shape flash [] top found m
  pub follows : IsNext shape flash [] top found root then_found

-- The root is the newest one, and the same map is under it, wherever the program is cut. Its second program is next.
pub record IsInstalled (shape : Shape) (root : Root) (then_found : Found) (m : Map) (old : BoardState) (next' : Next) (new : BoardState) : Type 0 where
  pub page : ℕ
  pub under : IsUnder shape new.pages [] (page, root) then_found m
  pub installs : InstallerOnFlash shape next' (page, root) new.pages
  pub half : IsHalf shape next' new.pages m
  pub number : root_number shape new.pages ≡ root_number shape old.pages + 1
  pub behind : SameBehind shape old.pages new.pages
  pub cuts : Reaches shape old new (CrashFinds shape background old.pages m)

abbrev pub InstallsRoot : Shape → Root → Next → BoardState → Next → BoardState → Type 0
InstallsRoot shape root next old next' new =
    (top : ℕ × Root) (found then_found : Found) (m : Map) → CanInstall shape root next old.pages top found then_found m
    → IsInstalled shape root then_found m old next' new

-- the same of a program that failed
abbrev pub InstallBreaks : Shape → Root → Next → BoardState → BoardState → Type 0
InstallBreaks shape root next old new =
    (top : ℕ × Root) (found then_found : Found) (m : Map) → CanInstall shape root next old.pages top found then_found m
    → Goes shape old new (CrashFinds shape background old.pages m)

-- ---- the second program

-- The root is the newest one of the flash, with its pair half made, and the map is under it, as it was before its first program.
pub record CanRepeat (shape : Shape) (root : Root) (next : Next) (flash : Flash) (top : ℕ × Root) (found : Found) (m : Map) : Type 0 where
  pub installs : InstallerOnFlash shape next top flash
  pub top_is : top.1 ≡ root
  pub under : IsUnder shape flash [] top found m
  pub half : IsHalf shape next flash m

-- The root is the newest one still, with the same map, and its pair is whole: the second page has it as well, and no other page differs. The
-- map is the same, wherever the program is cut.
pub record IsRepeated (shape : Shape) (old : BoardState) (top : ℕ × Root) (found : Found) (m : Map) (next' : Next) (new : BoardState) : Type 0 where
  pub under : IsUnder shape new.pages [] top found m
  pub installs : InstallerOnFlash shape next' top new.pages
  pub whole : repeats_next next' ≡ false
  pub pages : new.pages ≡ slice_set old.pages (top.0 + 1) (whole_page (root_bytes shape top.1))
  pub number : root_number shape new.pages ≡ root_number shape old.pages
  pub behind : SameBehind shape old.pages new.pages
  pub cuts : Reaches shape old new (CrashFinds shape background old.pages m)

abbrev pub RepeatsRoot : Shape → Root → Next → BoardState → Next → BoardState → Type 0
RepeatsRoot shape root next old next' new =
    (top : ℕ × Root) (found : Found) (m : Map) → CanRepeat shape root next old.pages top found m → IsRepeated shape old top found m next' new

-- the same of a program that failed
abbrev pub RepeatBreaks : Shape → Root → Next → BoardState → BoardState → Type 0
RepeatBreaks shape root next old new =
    (top : ℕ × Root) (found : Found) (m : Map) → CanRepeat shape root next old.pages top found m
    → Goes shape old new (CrashFinds shape background old.pages m)
