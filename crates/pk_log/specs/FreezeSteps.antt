-- A freeze of a log in steps: when one may be made, and what it leaves.
use Rattle.std.specs.Prelude.{◌≡◌, ℕ, ◌+◌, ◌<◌, ◌≤◌, List, [], ◌∷◌, length, Bool, true, false, ◌==◌, if◌then◌else◌, slice_get, Some, MatchBool}
use Rattle.std.specs.List.{AllByRecursion}
use Rattle.pk_base.{specs.Page.Flash, specs.Page.SameBehind, specs.Map.Map, specs.declared.sizes.TheConstants.EPOCH_BLOCKS}
use Rattle.pk_law_work.specs.Rest.{Lowers}
use Rattle.pk_plan.specs.declared.owner.Owner.TheVariants.{Journal}
use Rattle.pk_nand.specs.BoardState.{BoardState}
use Rattle.pk_rootfmt.specs.Root.{Root, differ, last_number}
use Rattle.pk_root.{specs.declared.next.Next.Next, specs.Installing.repeats_next}
use Rattle.pk_jrn.specs.Epochs.{started}
use Rattle.pk_model.{specs.Found.Found, specs.Growth.Reaches, specs.Growth.Goes, specs.Crashes.CrashFinds, specs.Crashes.background, specs.Laws.AnyByRecursion, specs.Wear.root_number}
use Rattle.pk_pool.{specs.declared.state.BlockState.TheVariants.Owned, specs.Blocks.Blocks, specs.Blocks.used_by, specs.Blocks.given_back, specs.Blocks.left_by, specs.Blocks.PoolOnFlash}
use Rattle.pk_pool.specs.Unready.{unready}
use Rattle.pk_law_steps.{specs.Under.IsUnder, specs.Roots.frozen, specs.Roots.frozen_root}
use Rattle.pk_compact.{specs.Freezing.IsApart, specs.Installing.IsHalf, specs.declared.freezing.FreezeJob.FreezeJob, specs.declared.freezing.FreezeJob.TheVariants.Idle}
use Rattle.pk_compact.specs.FreezeSteps.{IsTaken, SameBut, TakesOne, taken_by, freeze_left}
use Rattle.pk_log.{specs.State.LogState, specs.Logs.LogOnFlash}

-- Nothing is pending, nothing frozen, and no pair of a root half made; the journal has no blocks but the root's two and those that the freeze has taken, and no spare block
-- of the pool is read.
pub record CanStep (log : LogState) (pool : Blocks) (job : FreezeJob) (flash : Flash) (top : ℕ × Root) (found : Found) (m : Map) : Type 0 where
  pub logs : LogOnFlash log flash top found
  pub whole : repeats_next log.next ≡ false
  pub none_pending : log.pending ≡ []
  pub none_frozen : log.frozen.entries ≡ []
  pub under : IsUnder log.shape flash [] top found m
  pub pool_shape : pool.shape ≡ log.shape
  pub pool_fits : PoolOnFlash pool flash
  pub number : log.root.number < last_number
  pub room : used_by Journal pool.states ≤ EPOCH_BLOCKS + length (taken_by job)
  pub owned : (b : ℕ) → AnyByRecursion (λ c. b ≡ c) log.root.newest → slice_get pool.states b ≡ Some (Owned Journal)
  pub apart : IsApart log.shape pool log.root found
  pub taken : AllByRecursion (IsTaken log.shape pool flash log.root) (taken_by job)
  pub different : differ (taken_by job) ≡ true

-- The freeze is one step further, and the log is as before, but for what its installer does next.
pub record LogGoesOn (log : LogState) (pool : Blocks) (job : FreezeJob) (old : BoardState) (top : ℕ × Root) (found : Found) (m : Map) (log' : LogState) (pool' : Blocks) (job' : FreezeJob) (new : BoardState) : Type 0 where
  pub still : CanStep log' pool' job' new.pages top found m
  pub same_log : log' ≡ record log { next = log'.next }
  pub lowers : Lowers (freeze_left job log.next) (unready pool.states) (freeze_left job' log'.next) (unready pool'.states)
  pub takes : TakesOne pool job pool' job'
  pub some : 0 < length (taken_by job')
  pub elsewhere : SameBut log.shape (taken_by job') old.pages new.pages
  pub cuts : Reaches log.shape old new (CrashFinds log.shape background old.pages m)

-- an empty epoch in these blocks is the newest of this root, and the buffers are exchanged
abbrev pub freeze_begun : LogState → Root → Next → List ℕ → LogState
freeze_begun log root next blocks = record log { root = root; next = next; epoch = started log.shape root.epoch blocks; active = log.frozen; frozen = log.active }

-- The freeze's root was programmed in the first page of its pair, and the log matches the flash: an empty epoch is the newest one, the buffers
-- are exchanged, and the blocks of a former epoch without entries leave. They may be freed after the second program: no spare block is read
-- then.
pub record LogFrozen (log : LogState) (pool : Blocks) (job : FreezeJob) (old : BoardState) (top : ℕ × Root) (found : Found) (m : Map) (log' : LogState) (pool' : Blocks) (job' : FreezeJob) (new : BoardState) : Type 0 where
  pub page : ℕ
  pub first : ℕ
  pub second : ℕ
  pub begun_is : log' ≡ freeze_begun log (frozen_root top.1 found first second) log'.next (first ∷ second ∷ [])
  pub logs : LogOnFlash log' new.pages (page, log'.root) (frozen found)
  pub under : IsUnder log.shape new.pages [] (page, log'.root) (frozen found) m
  pub half : IsHalf log.shape log'.next new.pages m
  pub taken_are : taken_by job ≡ first ∷ second ∷ []
  pub idle : job' ≡ Idle
  pub pool_fits : PoolOnFlash pool' new.pages
  pub pool_is : pool' ≡ left_by Journal pool (if length found.newest == 0 then top.1.newest else [])
  pub apart : IsApart log.shape (given_back pool (if length found.newest == 0 then top.1.newest else [])) log'.root (frozen found)
  pub lowers : Lowers (freeze_left job log.next) (unready pool.states) 1 (unready pool'.states)
  pub number : root_number log.shape new.pages ≡ root_number log.shape old.pages + 1
  pub behind : SameBehind log.shape old.pages new.pages
  pub cuts : Reaches log.shape old new (CrashFinds log.shape background old.pages m)

-- the step was made, for each of the maps for which it might be
abbrev pub LogSteps : LogState → Blocks → FreezeJob → BoardState → Bool → LogState → Blocks → FreezeJob → BoardState → Type 0
LogSteps log pool job old done log' pool' job' new =
    (top : ℕ × Root) (found : Found) (m : Map) → CanStep log pool job old.pages top found m
    → MatchBool done (LogFrozen log pool job old top found m log' pool' job' new) (LogGoesOn log pool job old top found m log' pool' job' new)

-- the same of a step that failed
abbrev pub LogStepBreaks : LogState → Blocks → FreezeJob → BoardState → BoardState → Type 0
LogStepBreaks log pool job old new =
    (top : ℕ × Root) (found : Found) (m : Map) → CanStep log pool job old.pages top found m
    → Goes log.shape old new (CrashFinds log.shape background old.pages m)
