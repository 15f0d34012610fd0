-- Runs of words on a pair one after another, each on what the cuts of the one before left of both boards.
use Rattle.std.specs.Prelude.{◌≡◌, ◌⊎◌, ℕ, ◌<◌, List, [], ◌∷◌, ◌++◌, Some}
use Rattle.pk_base.{specs.Shape.Shape, specs.Page.Flash, specs.Mark.Mark, specs.Map.Map}
use Rattle.pk_nand.{specs.BoardState.BoardState, specs.Cut.Cut, specs.Calls.Rose}
use Rattle.pk_nvme.specs.declared.limits.TheConstants.{NAMESPACE}
use Rattle.pk_model.{specs.Spaces.limits_at, specs.Spaces.limit_of, specs.Reading.Holds, specs.Wear.roots}
use Rattle.pk_serve.specs.Complete.{NoneRose, far_below}
use Rattle.pk_mirrorwords.specs.PairTasks.{PairTask, map_left}
use Rattle.pk_mirrorrun.specs.PairTold.{EitherUnread, KeptFirst, KeptSecond}
use Rattle.pk_top.specs.PairRuns.{PairRun, PairIsDone}

-- One board of a run: before it and at its end, the marks that were made, and the flash and the posted bytes at the cut.
pub record CutBoard : Type 0 where
  pub old : BoardState
  pub new : BoardState
  pub marks : List Mark
  pub left : Flash
  pub posted : List ℕ

-- It holds its pages from the start and records its trail, and was stopped at a cut of its marks.
pub record IsCut (shape : Shape) (b : CutBoard) : Type 0 where
  pub shape_is : b.old.shape ≡ Some shape
  pub before : List Mark
  pub trail : b.old.trail ≡ Some before
  pub more : b.new.trail ≡ Some (before ++ b.marks)
  pub cut : Cut shape b.old.pages b.marks b.left b.posted

-- A run of a word on a pair: both boards, and the status.
pub record PairSession : Type 0 where
  pub task : PairTask
  pub first : CutBoard
  pub second : CutBoard
  pub status : ℕ

-- It is what `run_pair` promises of the word. Each board was stopped at some cut of its own.
pub record IsPairRun (shape : Shape) (r : PairSession) : Type 0 where
  pub runs : PairRun r.task r.first.old r.first.new r.second.old r.second.new r.status
  pub first : IsCut shape r.first
  pub second : IsCut shape r.second

-- What it made of the maps that the two drives held: the first holds that map or the one after the word, which it is if a byte of the word's text was
-- posted; the second holds some map, which differs from its own in the first namespace alone. The limits of both are the same.
pub record LeavesMaps (shape : Shape) (limits limits' : List ℕ) (r : PairSession) (m n m' n' : Map) : Type 0 where
  pub first : KeptFirst r.task (EitherUnread r.first.old r.first.new r.second.old r.second.new) shape limits m r.first.left r.first.posted
  pub first_is : (m' ≡ m) ⊎ (m' ≡ map_left shape limits r.task m)
  pub first_holds : Holds shape r.first.left m'
  pub second : KeptSecond shape limits' n r.second.left r.second.posted
  pub second_holds : Holds shape r.second.left n'

-- from maps to maps
abbrev pub KeptThroughPair : Shape → List ℕ → List ℕ → Map → Map → List PairSession → Map → Map → Type 0
KeptThroughPair shape limits limits' m n [] m' n' = (m' ≡ m) × (n' ≡ n)
KeptThroughPair shape limits limits' m n (r ∷ runs) m' n' =
    (next also : Map) × LeavesMaps shape limits limits' r m n next also × KeptThroughPair shape limits limits' next also runs m' n'

-- from flashes to flashes
abbrev pub PairRunOn : Shape → Flash → Flash → List PairSession → Flash → Flash → Type 0
PairRunOn shape one two [] end also = (end ≡ one) × (also ≡ two)
PairRunOn shape one two (r ∷ runs) end also =
    IsPairRun shape r × (r.first.old.pages ≡ one) × (r.second.old.pages ≡ two) × PairRunOn shape r.first.left r.second.left runs end also

-- Two flashes hold these maps, within these limits.
pub record PairStands (shape : Shape) (limits limits' : List ℕ) (one two : Flash) (m n : Map) : Type 0 where
  pub holds : Holds shape one m
  pub holds' : Holds shape two n
  pub limits_are : limits_at shape one ≡ limits
  pub limits_are' : limits_at shape two ≡ limits'

-- A further run of any word on two flashes that hold these maps resyncs the second and does the word, if their first namespaces have one limit, both
-- are far from worn and no call fails; or memory was missing, and nothing was done.
abbrev pub RunsAgain : Shape → List ℕ → List ℕ → Flash → Flash → Map → Map → Type 0
RunsAgain shape limits limits' one two m n =
    limit_of limits NAMESPACE ≡ limit_of limits' NAMESPACE
    → (task : PairTask) (old new old' new' : BoardState) (status : ℕ) → PairRun task old new old' new' status → old.shape ≡ Some shape → old'.shape ≡ Some shape
    → old.pages ≡ one → old'.pages ≡ two → roots old < far_below → roots old' < far_below → NoneRose old new → NoneRose old' new'
    → (Rose old.flash_faults new.flash_faults → ⊥) → (Rose old'.flash_faults new'.flash_faults → ⊥)
    → PairIsDone task shape limits m n old new old' new' status

-- On two drives, after any runs of words on the pair, each board of each cut anywhere: each run began from what the one before it left of both drives,
-- and a further run resyncs.
abbrev pub PairKeptThroughRuns : Type 0
PairKeptThroughRuns =
    (shape : Shape) (limits limits' : List ℕ) (one two : Flash) (m n : Map) (runs : List PairSession) (end also : Flash)
    → PairStands shape limits limits' one two m n → PairRunOn shape one two runs end also
    → (m' n' : Map) × PairStands shape limits limits' end also m' n' × KeptThroughPair shape limits limits' m n runs m' n' × RunsAgain shape limits limits' end also m' n'
