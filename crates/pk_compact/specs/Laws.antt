-- Which blocks nobody reads, and what may be done to them: the statements.
use Rattle.std.specs.Prelude.{◌≡◌, ℕ, ◌/◌, ◌≤◌, List, []}
use Rattle.pk_base.{specs.Shape.Shape, specs.Shape.IsShape, specs.Page.Flash, specs.Map.Map, specs.declared.sizes.TheConstants.ROOT_BLOCKS}
use Rattle.pk_nand.{specs.BoardState.BoardState, specs.Calls.IsReady, specs.Calls.after_program, specs.Calls.ProgramFailed, specs.Operations.after_erase, specs.Operations.EraseFailed}
use Rattle.pk_rootfmt.specs.Root.{Root, named}
use Rattle.pk_model.{specs.Found.Found, specs.Laws.AnyByRecursion, specs.Growth.Reaches, specs.Growth.Goes, specs.Crashes.CrashFinds, specs.Crashes.background}
use Rattle.pk_pool.specs.Blocks.{given_back, Blocks, IsSpare}
use Rattle.pk_law_steps.{specs.Under.IsUnder, specs.Under.IsValuePage, specs.Under.places, specs.Merging.IsMerged, specs.Merging.merged_root, specs.Merging.merged_found, specs.Merging.freed_by}
use Rattle.pk_compact.specs.Freezing.{IsApart}

-- No spare block is read after a merge, if blocks of its source and of its target's former run were freed.
abbrev pub ApartMerged : Type 0
ApartMerged =
    (shape : Shape) (flash : Flash) (pool : Blocks) (top : ℕ × Root) (found : Found) (m : Map) (level count : ℕ) (taken gone : List ℕ) → IsShape shape
    → IsUnder shape flash [] top found m → IsMerged shape flash [] top found level count taken → IsApart shape pool top.1 found
    → ((b : ℕ) → AnyByRecursion (λ c. b ≡ c) taken → IsSpare pool b → ⊥)
    → ((b : ℕ) → AnyByRecursion (λ c. b ≡ c) gone → AnyByRecursion (λ c. b ≡ c) (freed_by level top.1))
    → IsApart shape (given_back pool gone) (merged_root top.1 level count taken) (merged_found level found)

-- a block after the root blocks that the root does not name, and in which no value that counts has a page
pub record IsUnread (shape : Shape) (root : Root) (found : Found) (block : ℕ) : Type 0 where
  pub least : ROOT_BLOCKS ≤ block
  pub unnamed : AnyByRecursion (λ c. block ≡ c) (named root) → ⊥
  pub no_value : (k : ℕ) → k / shape.block_pages ≡ block → IsValuePage shape (places found []) k → ⊥

-- the map is the same at every cut of a call, and the lists match after it
pub record CallLeaves (shape : Shape) (old : BoardState) (top : ℕ × Root) (found : Found) (m : Map) (new : BoardState) : Type 0 where
  pub under : IsUnder shape new.pages [] top found m
  pub cuts : Reaches shape old new (CrashFinds shape background old.pages m)

-- a program in such a block, done or failed, whatever became of the block
abbrev pub ProgramUnread : Type 0
ProgramUnread =
    (shape : Shape) (old new : BoardState) (top : ℕ × Root) (found : Found) (m : Map) (block page : ℕ) (bytes : List ℕ) → IsShape shape → IsReady old shape
    → IsUnder shape old.pages [] top found m → IsUnread shape top.1 found block → page / shape.block_pages ≡ block
    → (new ≡ after_program old page bytes → CallLeaves shape old top found m new)
    × (ProgramFailed old new page bytes → Goes shape old new (CrashFinds shape background old.pages m))

-- an erase of such a block, done or failed
abbrev pub EraseUnread : Type 0
EraseUnread =
    (shape : Shape) (old new : BoardState) (top : ℕ × Root) (found : Found) (m : Map) (block : ℕ) → IsShape shape → IsReady old shape
    → IsUnder shape old.pages [] top found m → IsUnread shape top.1 found block
    → (new ≡ after_erase old block → CallLeaves shape old top found m new)
    × (EraseFailed old new block → Goes shape old new (CrashFinds shape background old.pages m))
