-- Runs of the program one after another, each on what a cut of the one before left.
use Rattle.std.specs.Prelude.{◌≡◌, ℕ, List, [], ◌∷◌, ◌++◌, Option, Some, None}
use Rattle.std.specs.FinMap.{empty}
use Rattle.pk_base.{specs.Shape.Shape, specs.Page.Flash, specs.Mark.Mark, specs.Map.Map}
use Rattle.pk_nand.{specs.BoardState.BoardState, specs.Cut.Cut}
use Rattle.pk_model.{specs.Spaces.terms_at, specs.Spaces.limits_at, specs.Kept.Kept, specs.Kept.rise, specs.Reading.Holds, specs.Script.script}
use Rattle.pk_top.{specs.Makes.IsMade, specs.Resting.Rests, specs.Serves.ServeRun, specs.Serves.behind_opening, specs.Asks.AskRun, specs.declared.asking.TheConstants.WORD_FRAMES}
use Rattle.pk_top.specs.Words.{Word, make, serve, ask, assemble, show, word_of}
use Rattle.pk_call.specs.Meter.{meter}
use Rattle.pk_wordrun.specs.Tasks.{Task, KeptTask}

-- A run of the program: its words, its input, the board before it and at its end, its status, the marks that it made, and the flash and the
-- posted bytes at its cut.
pub record ProgramRun : Type 0 where
  pub words : List (List ℕ)
  pub input : List ℕ
  pub old : BoardState
  pub new : BoardState
  pub status : ℕ
  pub marks : List Mark
  pub left : Flash
  pub posted : List ℕ

-- It is what `run` promises of these words, on a board that holds its pages and records its input and its trail; it was stopped at a cut of its marks.
pub record IsRun (shape : Shape) (r : ProgramRun) : Type 0 where
  pub serves : (frames : ℕ) → word_of r.words ≡ Some (serve frames) → ServeRun frames r.old r.new r.status
  pub asks : (task : Task) → word_of r.words ≡ Some (ask task) → AskRun task r.old r.new r.status
  pub rests : Rests (word_of r.words) r.old r.new
  pub shape_is : r.old.shape ≡ Some shape
  pub input : r.old.input ≡ Some r.input
  pub before : List Mark
  pub trail : r.old.trail ≡ Some before
  pub more : r.new.trail ≡ Some (before ++ r.marks)
  pub cut : Cut shape r.old.pages r.marks r.left r.posted

-- What a run that was cut made of a map. One that serves: the map after a prefix of the commands of its script, with every one of which a byte
-- was posted. One that asks: a map that the flash holds, and what its word keeps. Another one does not change the map.
abbrev pub LeavesMap : Option Word → Shape → ProgramRun → Map → Map → Type 0
LeavesMap (Some (serve frames)) shape r m m' =
    (kept : Kept shape (terms_at shape r.old.pages frames) m (script r.input).0 (rise r.old.read_faults r.new.read_faults) r.posted r.left) × (m' ≡ kept.map_left)
LeavesMap (Some (ask task)) shape r m m' = KeptTask task (meter (behind_opening shape WORD_FRAMES r.old)) (meter r.new) shape (terms_at shape r.old.pages WORD_FRAMES) m r.left r.posted
LeavesMap (Some (make other limits)) shape r m m' = m' ≡ m
LeavesMap (Some assemble) shape r m m' = m' ≡ m
LeavesMap (Some show) shape r m m' = m' ≡ m
LeavesMap None shape r m m' = m' ≡ m

-- from map to map, each of which the flash held at the cut of the run, and the limits of its namespaces are these
abbrev pub KeptThrough : Shape → List ℕ → Map → List ProgramRun → Map → Type 0
KeptThrough shape limits m [] m' = m' ≡ m
KeptThrough shape limits m (r ∷ runs) m' =
    (next : Map) × LeavesMap (word_of r.words) shape r m next × Holds shape r.left next × (limits_at shape r.left ≡ limits) × KeptThrough shape limits next runs m'

-- from flash to flash
abbrev pub RunOn : Shape → Flash → List ProgramRun → Flash → Type 0
RunOn shape start [] end = end ≡ start
RunOn shape start (r ∷ runs) end = IsRun shape r × (r.old.pages ≡ start) × RunOn shape r.left runs end

-- On a made drive, after any runs of any words, each cut anywhere: each kept what the one before left, from the empty map on, and the end holds the
-- last map; the limits of the namespaces are always those that the drive was made with.
abbrev pub KeptThroughRuns : Type 0
KeptThroughRuns =
    (shape : Shape) (limits : List ℕ) (made : BoardState) (runs : List ProgramRun) (end : Flash) → IsMade shape limits made → RunOn shape made.pages runs end
    → (m : Map) × Holds shape end m × (limits_at shape end ≡ limits) × KeptThrough shape limits empty runs m
