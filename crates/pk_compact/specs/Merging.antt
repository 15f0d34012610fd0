-- The install of a merge: when its root may be programmed, and what that leaves.
use Rattle.std.specs.Prelude.{◌≡◌, ℕ, ◌+◌, ◌-◌, ◌<◌, ◌≤◌, List, [], ◌==◌, if◌then◌else◌, slice_set}
use Rattle.pk_base.{specs.Shape.Shape, specs.Page.Flash, specs.Page.SameBehind, specs.Map.Map, specs.Merge.room}
use Rattle.pk_nand.specs.BoardState.{BoardState}
use Rattle.pk_rootfmt.{specs.Root.Root, specs.Root.last_number, specs.Held.Held}
use Rattle.pk_model.{specs.Found.Found, specs.Growth.Reaches, specs.Growth.Goes, specs.Crashes.CrashFinds, specs.Crashes.background, specs.Wear.root_number}
use Rattle.pk_root.{specs.declared.next.Next.Next, specs.Installing.InstallerOnFlash}
use Rattle.pk_law_steps.{specs.Under.IsUnder, specs.Merging.IsMerged, specs.Merging.merged_root, specs.Merging.merged_found}
use Rattle.pk_compact.specs.Installing.{IsHalf}

-- the root without the source of a merge into this level: the older epoch, or the run above
abbrev pub without_source : Root → ℕ → Root
without_source root level =
    if level == 1 then record root { older = [] } else record root { counts = slice_set root.counts (level - 2) 0; runs = slice_set root.runs (level - 2) [] }

-- The root in memory is the newest one of the flash, and the output of the next merge, of n entries, is in these blocks.
pub record CanMerge (root : Held) (next : Next) (flash : Flash) (top : ℕ × Root) (found : Found) (m : Map) (level count : ℕ) (taken : List ℕ) : Type 0 where
  pub installs : InstallerOnFlash root.shape next top flash
  pub top_is : top.1 ≡ root.root
  pub under : IsUnder root.shape flash [] top found m
  pub merged : IsMerged root.shape flash [] top found level count taken
  pub few : count ≤ room root.shape level
  pub number : root.root.number < last_number

-- The root of the merge is the newest one, with its pair half made: its run has the output, and the source is empty. The map is the same, wherever
-- the program is cut.
pub record HasMerged (shape : Shape) (old : BoardState) (top : ℕ × Root) (found : Found) (m : Map) (level count : ℕ) (taken : List ℕ) (root' : Root) (next' : Next) (new : BoardState) : Type 0 where
  pub page : ℕ
  pub root_is : root' ≡ merged_root top.1 level count taken
  pub under : IsUnder shape new.pages [] (page, root') (merged_found level found) m
  pub installs : InstallerOnFlash shape next' (page, root') new.pages
  pub half : IsHalf shape next' new.pages m
  pub number : root_number shape new.pages ≡ root_number shape old.pages + 1
  pub behind : SameBehind shape old.pages new.pages
  pub cuts : Reaches shape old new (CrashFinds shape background old.pages m)

-- so for each of the maps that it might have
abbrev pub MergesRoot : Held → Next → BoardState → ℕ → ℕ → List ℕ → Root → Next → BoardState → Type 0
MergesRoot root next old level count taken root' next' new =
    (top : ℕ × Root) (found : Found) (m : Map) → CanMerge root next old.pages top found m level count taken
    → HasMerged root.shape old top found m level count taken root' next' new

-- the same of a program that failed
abbrev pub MergeBreaks : Held → Next → BoardState → ℕ → ℕ → List ℕ → BoardState → Type 0
MergeBreaks root next old level count taken new =
    (top : ℕ × Root) (found : Found) (m : Map) → CanMerge root next old.pages top found m level count taken
    → Goes root.shape old new (CrashFinds root.shape background old.pages m)
