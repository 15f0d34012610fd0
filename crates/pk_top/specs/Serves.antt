-- A run of the word `serve`: a session of a drive.
use Rattle.std.specs.Prelude.{◌≡◌, ◌⊎◌, ℕ, List, Some}
use Rattle.pk_base.{specs.Shape.Shape, specs.Page.Flash, specs.Map.Map}
use Rattle.pk_nvme.specs.Command.{Command}
use Rattle.pk_nand.{specs.BoardState.BoardState, specs.Calls.Loaded, specs.Calls.Rose, specs.Counts.after_reads, specs.Effects.OnlyReading}
use Rattle.pk_model.{specs.Spaces.terms_at, specs.Kept.Kept, specs.Kept.rise, specs.Reading.Holds, specs.Script.script, specs.Growth.Goes}
use Rattle.pk_serve.{specs.Ends.Blames, specs.Run.ServedBy, specs.Run.ServedSome, specs.Complete.IsServable, specs.Complete.Complete, specs.Script.Says, specs.declared.end.End.End}
use Rattle.pk_scan.{specs.Reads.opening_reads, specs.Opening.NotOpened, specs.declared.errors.OpenError.OpenError}
use Rattle.pk_top.{specs.declared.status.TheConstants.Status.DONE, specs.declared.status.TheConstants.Status.MEMORY, specs.Ends.end_status, specs.Ends.open_status, specs.Isolates.IsolatesAll}
use Rattle.pk_top.{specs.Loads.NoImage, specs.Loads.WordRun, specs.Statuses.Untouched}

-- ---- the headline

-- Whatever map the flash held at first: a prefix of these commands was served, and what was served is kept.
abbrev pub KeptFrom : Shape → ℕ → BoardState → BoardState → List Command → Flash → List ℕ → Type 0
KeptFrom shape frames loaded new cs flash posted =
    (start : Map) → Holds shape loaded.pages start → Kept shape (terms_at shape loaded.pages frames) start cs (rise loaded.read_faults new.read_faults) posted flash

-- So at every cut of the marks since the load, of the script's commands; and from each state of the trail to the next the tree grows.
abbrev pub KeepsScript : Shape → ℕ → BoardState → BoardState → Type 0
KeepsScript shape frames loaded new =
    (input : List ℕ) → loaded.input ≡ Some input → Goes shape loaded new (KeptFrom shape frames loaded new (script input).0)

-- the same of some commands, also if the input is not recorded
abbrev pub KeepsSome : Shape → ℕ → BoardState → BoardState → Type 0
KeepsSome shape frames loaded new = (cs : List Command) × Goes shape loaded new (KeptFrom shape frames loaded new cs)

-- ---- outcomes

-- The drive was not opened: nothing was done but reads, and the status says why.
pub record NotServed (shape : Shape) (loaded new : BoardState) (status : ℕ) : Type 0 where
  pub error : OpenError
  pub tells : status ≡ open_status error
  pub reason : NotOpened shape loaded new error
  pub only_reads : OnlyReading loaded new

-- the board after the reads of opening
abbrev pub behind_opening : Shape → ℕ → BoardState → BoardState
behind_opening shape frames loaded = after_reads (opening_reads shape loaded.pages frames) loaded

-- The drive was opened, and served its map to this end.
pub record ServedTo (shape : Shape) (frames : ℕ) (loaded new : BoardState) (end : End) : Type 0 where
  pub start : Map
  pub holds : Holds shape loaded.pages start
  pub blames : Blames (behind_opening shape frames loaded) new end
  pub says : (input : List ℕ) → loaded.input ≡ Some input → Says new input end
  pub served : (input : List ℕ) → loaded.input ≡ Some input → ServedBy shape (terms_at shape loaded.pages frames) start (behind_opening shape frames loaded) new input end
  pub served_some : ServedSome shape (terms_at shape loaded.pages frames) start (behind_opening shape frames loaded) new end

-- ---- completeness

-- On a drive that is far from worn, if no call fails: a script that is whole was served, its records were posted, and the flash holds the map
-- after it; or memory was missing, and nothing was done.
abbrev pub ServesAll : Shape → ℕ → BoardState → BoardState → ℕ → Type 0
ServesAll shape frames loaded new status =
    (start : Map) → Holds shape loaded.pages start → (input : List ℕ) → loaded.input ≡ Some input
    → IsServable loaded new (script input).0 (script input).1 → (Rose loaded.flash_faults new.flash_faults → ⊥)
    → ((status ≡ DONE.0) × Complete shape (terms_at shape loaded.pages frames) start loaded new (script input).0) ⊎ ((status ≡ MEMORY.0) × Untouched loaded new)

-- the same of a board that holds its pages from the start
abbrev pub ServesWhole : ℕ → BoardState → BoardState → ℕ → Type 0
ServesWhole frames old new status = (shape : Shape) → old.shape ≡ Some shape → ServesAll shape frames old new status

-- ---- a run

-- What was done on an image of this shape, from its load on.
pub record RunServes (shape : Shape) (frames : ℕ) (loaded new : BoardState) (status : ℕ) : Type 0 where
  pub kept : KeepsScript shape frames loaded new
  pub kept_untold : KeepsSome shape frames loaded new
  pub complete : ServesAll shape frames loaded new status
  pub isolated : IsolatesAll shape frames loaded new status
  pub outcome : NotServed shape loaded new status ⊎ ((end : End) × (status ≡ end_status end) × ServedTo shape frames loaded new end)

-- an image of this shape was found
pub record ServesFound (frames : ℕ) (old new : BoardState) (status : ℕ) : Type 0 where
  pub shape : Shape
  pub loaded : BoardState
  pub found : Loaded old loaded (Some shape)
  pub serves : RunServes shape frames loaded new status

-- It needs an image, and serves the input on it.
abbrev pub ServeRun : ℕ → BoardState → BoardState → ℕ → Type 0
ServeRun frames old new status = WordRun (NoImage old new status) (ServesFound frames old new status) old new status
