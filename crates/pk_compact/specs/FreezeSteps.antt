-- A freeze in steps: what holds between them, and what each leaves.
use Rattle.std.specs.Prelude.{◌≡◌, ◌≢◌, ◌⊎◌, ℕ, ◌+◌, ◌/◌, ◌<◌, ◌≤◌, List, [], ◌∷◌, ◌++◌, length, Bool, true, false, not, ◌==◌, if◌then◌else◌, slice_get, slice_index, Some, MatchBool}
use Rattle.std.specs.List.{AllByRecursion}
use Rattle.pk_base.{specs.Shape.Shape, specs.Shape.root_pages, specs.Page.Flash, specs.Page.page_at, specs.Page.SameBehind, specs.Map.Map}
use Rattle.pk_base.specs.declared.sizes.TheConstants.{ROOT_BLOCKS, EPOCH_BLOCKS}
use Rattle.pk_law_work.{specs.Rest.Lowers, specs.Rest.steps_of, specs.Jobs.freeze_rest}
use Rattle.pk_plan.specs.declared.owner.Owner.TheVariants.{Journal}
use Rattle.pk_nand.{specs.BoardState.BoardState, specs.Operations.IsErasedBlock}
use Rattle.pk_rootfmt.{specs.Root.Root, specs.Root.named, specs.Root.differ, specs.Root.last_number, specs.Held.Held, specs.Held.two_of}
use Rattle.pk_model.{specs.Found.Found, specs.Laws.AnyByRecursion, specs.Growth.Reaches, specs.Growth.Goes, specs.Crashes.CrashFinds, specs.Crashes.background, specs.Wear.root_number}
use Rattle.pk_pool.{specs.declared.state.BlockState.TheVariants.Owned, specs.Unready.unready}
use Rattle.pk_pool.specs.Blocks.{Blocks, used_by, with_state, given_back, IsSpare, PoolOnFlash}
use Rattle.pk_root.{specs.declared.next.Next.Next, specs.declared.next.Next.TheVariants.Erase, specs.declared.next.Next.TheVariants.Program, specs.declared.next.Next.TheVariants.Again}
use Rattle.pk_root.specs.Installing.{InstallerOnFlash, repeats_next}
use Rattle.pk_law_steps.{specs.Under.IsUnder, specs.Roots.frozen_root, specs.Roots.frozen}
use Rattle.pk_compact.{specs.Freezing.IsApart, specs.Installing.IsHalf, specs.declared.freezing.FreezeJob.FreezeJob}
use Rattle.pk_compact.specs.declared.freezing.FreezeJob.TheVariants.{Idle, HasOne, HasTwo}

-- the blocks that a freeze has taken for the epoch that it begins
abbrev pub taken_by : FreezeJob → List ℕ
taken_by Idle = []
taken_by (HasOne first) = first ∷ []
taken_by (HasTwo first second) = first ∷ second ∷ []

-- the steps of an install that remain: an erase of a root block, if one is next, and the two programs
abbrev pub install_steps : Next → ℕ
install_steps (Erase beside) = 3
install_steps (Program page) = 2
install_steps (Again page) = 1

-- how many steps of a freeze remain; a block that it takes counts twice
abbrev pub freeze_left : FreezeJob → Next → ℕ
freeze_left job next = steps_of (freeze_rest (length (taken_by job)) (install_steps next))

-- a block of the journal after the root blocks, which is Erased, and which the root does not name
pub record IsTaken (shape : Shape) (pool : Blocks) (flash : Flash) (root : Root) (b : ℕ) : Type 0 where
  pub least : ROOT_BLOCKS ≤ b
  pub most : b < shape.blocks
  pub owned : slice_get pool.states b ≡ Some (Owned Journal)
  pub is_erased : IsErasedBlock shape flash b
  pub unnamed : AnyByRecursion (λ c. b ≡ c) (named root) → ⊥

-- The root in memory is the newest one of the flash, under which nothing is frozen; the journal has no blocks but its two and those that the
-- freeze has taken, and the next root can be installed.
pub record IsFreezing (pool : Blocks) (root : Held) (next : Next) (job : FreezeJob) (flash : Flash) (has_entries : Bool) (top : ℕ × Root) (found : Found) (m : Map) : Type 0 where
  pub pool_shape : pool.shape ≡ root.shape
  pub pool_fits : PoolOnFlash pool flash
  pub installs : InstallerOnFlash root.shape next top flash
  pub whole : repeats_next next ≡ false
  pub top_is : top.1 ≡ root.root
  pub under : IsUnder root.shape flash [] top found m
  pub none_older : found.older ≡ []
  pub none_named : root.root.older ≡ []
  pub told : (length found.newest == 0) ≡ not has_entries
  pub number : root.root.number < last_number
  pub room : used_by Journal pool.states ≤ EPOCH_BLOCKS + length (taken_by job)
  pub owned : (b : ℕ) → AnyByRecursion (λ c. b ≡ c) root.root.newest → slice_get pool.states b ≡ Some (Owned Journal)
  pub apart : IsApart root.shape pool root.root found
  pub taken : AllByRecursion (IsTaken root.shape pool flash root.root) (taken_by job)
  pub different : differ (taken_by job) ≡ true

-- no page after the root blocks differs but those of these blocks
abbrev pub SameBut : Shape → List ℕ → Flash → Flash → Type 0
SameBut shape blocks old new =
    (k : ℕ) → root_pages shape ≤ k → (AnyByRecursion (λ b. k / shape.block_pages ≡ b) blocks → ⊥) → page_at new k ≡ page_at old k

-- the pool is as before, or the freeze has one spare block more
abbrev pub TakesOne : Blocks → FreezeJob → Blocks → FreezeJob → Type 0
TakesOne pool job pool' job' =
    ((pool' ≡ pool) × (job' ≡ job)) ⊎ ((b : ℕ) × IsSpare pool b × (pool' ≡ with_state pool b (Owned Journal)) × (taken_by job' ≡ taken_by job ++ b ∷ []))

-- The freeze is one step further; the newest root is the former, and the map is the same, wherever the step is cut.
pub record FreezeGoesOn (pool : Blocks) (root : Held) (next : Next) (job : FreezeJob) (old : BoardState) (has_entries : Bool) (top : ℕ × Root) (found : Found) (m : Map) (pool' : Blocks) (root' : Held) (next' : Next) (job' : FreezeJob) (new : BoardState) : Type 0 where
  pub still : IsFreezing pool' root' next' job' new.pages has_entries top found m
  pub same_root : root' ≡ root
  pub lowers : Lowers (freeze_left job next) (unready pool.states) (freeze_left job' next') (unready pool'.states)
  pub takes : TakesOne pool job pool' job'
  pub some : 0 < length (taken_by job')
  pub elsewhere : SameBut root.shape (taken_by job') old.pages new.pages
  pub cuts : Reaches root.shape old new (CrashFinds root.shape background old.pages m)

-- both blocks of an epoch are the journal's
pub record AreOwned (pool : Blocks) (blocks : List ℕ) : Type 0 where
  pub first : slice_get pool.states (slice_index blocks 0) ≡ Some (Owned Journal)
  pub second : slice_get pool.states (slice_index blocks 1) ≡ Some (Owned Journal)
  pub different : slice_index blocks 1 ≢ slice_index blocks 0

-- The next root is the newest one, with its pair half made: it names an empty epoch in the two blocks, and the former epoch as the older one if that has entries. Otherwise
-- that one's blocks may be freed after the second program: no spare block is read then. The map is the same wherever the step is cut.
pub record FreezeInstalled (pool : Blocks) (root : Held) (next : Next) (job : FreezeJob) (old : BoardState) (has_entries : Bool) (top : ℕ × Root) (found : Found) (m : Map) (pool' : Blocks) (root' : Root) (next' : Next) (job' : FreezeJob) (new : BoardState) : Type 0 where
  pub page : ℕ
  pub first : ℕ
  pub second : ℕ
  pub was : job ≡ HasTwo first second
  pub done : job' ≡ Idle
  pub same_pool : pool' ≡ pool
  pub pool_fits : PoolOnFlash pool' new.pages
  pub lowers : Lowers (freeze_left job next) (unready pool.states) 1 (unready pool'.states)
  pub first_erased : IsErasedBlock root.shape new.pages first
  pub second_erased : IsErasedBlock root.shape new.pages second
  pub root_is : root' ≡ frozen_root top.1 found first second
  pub under : IsUnder root.shape new.pages [] (page, root') (frozen found) m
  pub installs : InstallerOnFlash root.shape next' (page, root') new.pages
  pub half : IsHalf root.shape next' new.pages m
  pub former : AreOwned pool (two_of root.root.newest)
  pub apart : IsApart root.shape (given_back pool (if has_entries then [] else slice_index (two_of root.root.newest) 0 ∷ slice_index (two_of root.root.newest) 1 ∷ [])) root' (frozen found)
  pub number : root_number root.shape new.pages ≡ root_number root.shape old.pages + 1
  pub behind : SameBehind root.shape old.pages new.pages
  pub cuts : Reaches root.shape old new (CrashFinds root.shape background old.pages m)

-- the step was made, for each of the maps for which it might be
abbrev pub FreezeSteps : Blocks → Held → Next → FreezeJob → BoardState → Bool → Bool → Blocks → Held → Next → FreezeJob → BoardState → Type 0
FreezeSteps pool root next job old has_entries done pool' root' next' job' new =
    (top : ℕ × Root) (found : Found) (m : Map) → IsFreezing pool root next job old.pages has_entries top found m
    → MatchBool done (FreezeInstalled pool root next job old has_entries top found m pool' root'.root next' job' new)
    (FreezeGoesOn pool root next job old has_entries top found m pool' root' next' job' new)

-- the same of a step that failed
abbrev pub FreezeStepBreaks : Blocks → Held → Next → FreezeJob → Bool → BoardState → BoardState → Type 0
FreezeStepBreaks pool root next job has_entries old new =
    (top : ℕ × Root) (found : Found) (m : Map) → IsFreezing pool root next job old.pages has_entries top found m
    → Goes root.shape old new (CrashFinds root.shape background old.pages m)
