-- A run of a word on a pair of images: the first board from old to new, the second from old' to new'.
use Rattle.std.specs.Prelude.{◌≡◌, ◌≢◌, ◌⊎◌, ℕ, ◌<◌, List, Some, None, true}
use Rattle.pk_base.{specs.Shape.Shape, specs.Map.Map, specs.Refusal.Refusal}
use Rattle.pk_nand.{specs.BoardState.BoardState, specs.Calls.Rose, specs.Calls.Loaded, specs.Calls.longer}
use Rattle.pk_nvme.specs.declared.limits.TheConstants.{NAMESPACE}
use Rattle.pk_model.{specs.Spaces.limits_at, specs.Spaces.in_space, specs.Growth.Goes, specs.Reading.Holds, specs.Reading.Refuses, specs.Wear.is_worn, specs.Wear.roots}
use Rattle.pk_serve.specs.Complete.{NoneRose, far_below}
use Rattle.pk_wordrun.{specs.Told.KeepsInput, specs.declared.end.WordEnd.WordEnd}
use Rattle.pk_mirrorwords.specs.PairTasks.{PairTask, map_left}
use Rattle.pk_mirrorrun.specs.PairTold.{EitherUnread, text_by, HoldsPart, first_limit, KeptFirst, KeptSecond, PairEnds, UsedRoots, most_pair_roots}
use Rattle.pk_top.specs.declared.status.TheConstants.Status.{DONE, OUTPUT, FLASH, MEMORY, NO_DRIVE, WORN}
use Rattle.pk_top.{specs.declared.asking.TheConstants.WORD_FRAMES, specs.Asks.word_status, specs.Loads.LoadRefused, specs.Serves.NotServed, specs.Serves.behind_opening}
use Rattle.pk_top.specs.Statuses.{GivesNothing, Untouched, HasNoDrive}

-- ---- what was done

-- an image that was not found: the load was refused, or it found none
abbrev pub NotFound : BoardState → BoardState → ℕ → Type 0
NotFound old new status = LoadRefused old new status ⊎ ((status ≡ NO_DRIVE.0) × Loaded old new None)

-- Whatever map the first held: every cut of it holds that map or the one after the word, and what was posted is the word's. Every cut of the second
-- holds a map, of which all namespaces but the first are those that it held.
pub record KeepsPair (task : PairTask) (shape : Shape) (loaded new loaded' new' : BoardState) : Type 0 where
  pub first : Goes shape loaded new (λ flash posted. (m : Map) → Holds shape loaded.pages m → KeptFirst task (EitherUnread loaded new loaded' new') shape (limits_at shape loaded.pages) m flash posted)
  pub second : Goes shape loaded' new' (λ flash posted. (m : Map) → Holds shape loaded'.pages m → KeptSecond shape (limits_at shape loaded'.pages) m flash posted)

-- Both drives were opened, their first namespaces have one limit, and the word came to this end.
pub record AskedPair (task : PairTask) (shape : Shape) (loaded new loaded' new' : BoardState) (end : WordEnd) : Type 0 where
  pub start : Map
  pub holds : Holds shape loaded.pages start
  pub other : Map
  pub holds_other : Holds shape loaded'.pages other
  pub one_limit : first_limit shape loaded.pages ≡ first_limit shape loaded'.pages
  pub ends : PairEnds task shape start other (behind_opening shape WORD_FRAMES loaded) new (behind_opening shape WORD_FRAMES loaded') new' end
  pub first_used : UsedRoots start other loaded new
  pub second_used : UsedRoots start other loaded' new'
  pub few : most_pair_roots start other < far_below

-- Both drives were opened, and the limits of their first namespaces differ.
pub record LimitsDiffer (shape : Shape) (loaded new loaded' new' : BoardState) (status : ℕ) : Type 0 where
  pub tells : status ≡ NO_DRIVE.0
  pub start : Map
  pub holds : Holds shape loaded.pages start
  pub other : Map
  pub holds_other : Holds shape loaded'.pages other
  pub differ : first_limit shape loaded.pages ≢ first_limit shape loaded'.pages
  pub first_opened : new ≡ behind_opening shape WORD_FRAMES loaded
  pub second_opened : new' ≡ behind_opening shape WORD_FRAMES loaded'

-- How a word ends on two images of one shape: memory was missing and nothing was done; or the first drive was not opened, and the second not tried;
-- or the second was not opened; or their limits differ; or the word came to an end.
pub data PairOutcome (task : PairTask) (shape : Shape) (loaded new loaded' new' : BoardState) (status : ℕ) : Type 0 where
  no_speaker : status ≡ MEMORY.0 → new ≡ loaded → new' ≡ loaded' → PairOutcome task shape loaded new loaded' new' status
  first_unopened : NotServed shape loaded new status → new' ≡ loaded' → PairOutcome task shape loaded new loaded' new' status
  second_unopened : new ≡ behind_opening shape WORD_FRAMES loaded → NotServed shape loaded' new' status → PairOutcome task shape loaded new loaded' new' status
  limits_differ : LimitsDiffer shape loaded new loaded' new' status → PairOutcome task shape loaded new loaded' new' status
  pair_asked : (end : WordEnd) → status ≡ word_status end → AskedPair task shape loaded new loaded' new' end → PairOutcome task shape loaded new loaded' new' status

-- What was done on two images of one shape, from their loads on. No input was read.
pub record AsksPair (task : PairTask) (shape : Shape) (loaded new loaded' new' : BoardState) (status : ℕ) : Type 0 where
  pub kept : KeepsPair task shape loaded new loaded' new'
  pub first_input : KeepsInput loaded new
  pub second_input : KeepsInput loaded' new'
  pub outcome : PairOutcome task shape loaded new loaded' new' status

-- ---- boards that hold their pages

-- the boards hold no pair: their shapes differ, or the flash of one holds no map, or their limits differ
abbrev pub LacksPair : Shape → Shape → BoardState → BoardState → Type 0
LacksPair shape other old old' =
    (shape ≢ other)
    ⊎ (((refusal : Refusal) × Refuses shape old.pages refusal)
    ⊎ (((refusal : Refusal) × Refuses other old'.pages refusal) ⊎ (first_limit shape old.pages ≢ first_limit other old'.pages)))

-- Two boards that hold their pages from the start, and no pair: the status is that of a missing drive, unless a flash operation failed before that was
-- known, or memory ran out.
abbrev pub PairRefused : BoardState → BoardState → ℕ → Type 0
PairRefused old old' status =
    (shape other : Shape) → old.shape ≡ Some shape → old'.shape ≡ Some other → LacksPair shape other old old'
    → (status ≡ NO_DRIVE.0) ⊎ ((status ≡ MEMORY.0) ⊎ (status ≡ FLASH.0))

-- The word is done on two drives with these limits of the first, of which the first held the map m and the second other: both hold the map after it,
-- the second its first namespace beside the others that it held, and the text is the definition's; or memory was missing, and nothing was done.
abbrev pub PairIsDone : PairTask → Shape → List ℕ → Map → Map → BoardState → BoardState → BoardState → BoardState → ℕ → Type 0
PairIsDone task shape limits m other old new old' new' status =
    ((status ≡ DONE.0) × (new.posted ≡ longer old.posted (text_by shape limits task m)) × Holds shape new.pages (map_left shape limits task m)
    × HoldsPart shape new'.pages (in_space NAMESPACE (map_left shape limits task m)) other)
    ⊎ ((status ≡ MEMORY.0) × Untouched old new × Untouched old' new')

-- On two boards that hold their pages from the start, each a map of one shape, with one limit, far from worn, where no call fails.
abbrev pub PairWhole : PairTask → BoardState → BoardState → BoardState → BoardState → ℕ → Type 0
PairWhole task old new old' new' status =
    (shape : Shape) (m other : Map) → old.shape ≡ Some shape → old'.shape ≡ Some shape → Holds shape old.pages m → Holds shape old'.pages other
    → first_limit shape old.pages ≡ first_limit shape old'.pages → roots old < far_below → roots old' < far_below → NoneRose old new → NoneRose old' new'
    → (Rose old.flash_faults new.flash_faults → ⊥) → (Rose old'.flash_faults new'.flash_faults → ⊥)
    → PairIsDone task shape (limits_at shape old.pages) m other old new old' new' status

-- ---- runs

-- Two images of one shape were found. What is promised of boards that hold their pages from the start is promised of these from their loads on: when
-- the status is that of a missing drive, and completeness.
pub record FoundPair (task : PairTask) (old new old' new' : BoardState) (status : ℕ) : Type 0 where
  pub shape : Shape
  pub loaded : BoardState
  pub loaded' : BoardState
  pub found : Loaded old loaded (Some shape)
  pub found' : Loaded old' loaded' (Some shape)
  pub asks : AsksPair task shape loaded new loaded' new' status
  pub refused : PairRefused loaded loaded' status
  pub complete : PairWhole task loaded new loaded' new' status

-- two images of different shapes were found
pub record OtherShapes (old new old' new' : BoardState) (status : ℕ) : Type 0 where
  pub tells : status ≡ NO_DRIVE.0
  pub shape : Shape
  pub other : Shape
  pub found : Loaded old new (Some shape)
  pub found' : Loaded old' new' (Some other)
  pub differ : shape ≢ other

-- How a run of a word on a pair of images ends: memory for the words was missing and nothing was done; or an image was not found, the first or else
-- the second; or the shapes differ; or two images of one shape were found.
pub data PairRun (task : PairTask) (old new old' new' : BoardState) (status : ℕ) : Type 0 where
  no_pair_memory : status ≡ MEMORY.0 → new ≡ old → new' ≡ old' → PairRun task old new old' new' status
  first_missing : NotFound old new status → new' ≡ old' → PairRun task old new old' new' status
  second_missing : (shape : Shape) → Loaded old new (Some shape) → NotFound old' new' status → PairRun task old new old' new' status
  shapes_differ : OtherShapes old new old' new' status → PairRun task old new old' new' status
  pair_found : FoundPair task old new old' new' status → PairRun task old new old' new' status

-- ---- statuses and their causes

-- both boards have this shape, and the limits of their first namespaces differ
abbrev pub HaveOtherLimits : Shape → BoardState → BoardState → Type 0
HaveOtherLimits shape a b = (a.shape ≡ Some shape) × (b.shape ≡ Some shape) × (first_limit shape a.pages ≢ first_limit shape b.pages)

-- the images have no pair of drives: one has no drive, or their shapes or limits differ
abbrev pub HasNoPair : BoardState → BoardState → Type 0
HasNoPair new new' =
    HasNoDrive new
    ⊎ (HasNoDrive new'
    ⊎ (((shape other : Shape) × (new.shape ≡ Some shape) × (new'.shape ≡ Some other) × (shape ≢ other))
    ⊎ ((shape : Shape) × HaveOtherLimits shape new new')))

-- a program or an erase of either failed; or a flash operation of either, before anything was posted
abbrev pub PairFlashFailed : BoardState → BoardState → BoardState → BoardState → Type 0
PairFlashFailed old new old' new' =
    (Rose old.stop_faults new.stop_faults ⊎ Rose old'.stop_faults new'.stop_faults)
    ⊎ ((Rose old.flash_faults new.flash_faults ⊎ Rose old'.flash_faults new'.flash_faults) × GivesNothing old new)

-- What each status says, and that there is no other.
pub record PairTells (old new old' new' : BoardState) (status : ℕ) : Type 0 where
  pub is_one : (status ≡ DONE.0) ⊎ ((status ≡ OUTPUT.0) ⊎ ((status ≡ FLASH.0) ⊎ ((status ≡ MEMORY.0) ⊎ ((status ≡ NO_DRIVE.0) ⊎ (status ≡ WORN.0)))))
  pub output : status ≡ OUTPUT.0 → Rose old.out_faults new.out_faults
  pub flash : status ≡ FLASH.0 → PairFlashFailed old new old' new'
  pub memory : status ≡ MEMORY.0 → Untouched old new × Untouched old' new'
  pub no_drive : status ≡ NO_DRIVE.0 → HasNoPair new new' × Untouched old new × Untouched old' new'
  pub worn : status ≡ WORN.0 → ((is_worn new ≡ true) ⊎ (is_worn new' ≡ true)) × (new.posted ≡ old.posted)
