-- Runs of the program one after another over a flash with spare blocks, each on what a cut of the one before left of the inner flash.
use Rattle.std.specs.Prelude.{◌≡◌, ℕ, ◌≤◌, Bool, true, false, List, [], ◌∷◌, Some}
use Rattle.std.specs.FinMap.{empty}
use Rattle.pk_base.{specs.Shape.Shape, specs.Page.Flash, specs.Mark.Mark, specs.Map.Map}
use Rattle.pk_nand.{specs.BoardState.BoardState, specs.Cut.Cut}
use Rattle.pk_model.{specs.Spaces.limits_at, specs.Reading.Holds}
use Rattle.pk_remap.{specs.Through.through, specs.Loading.loaded_remap, specs.Remapped.outer_pages}
use Rattle.pk_top.{specs.Makes.IsMade, specs.Runs.RunsOver, specs.Words.word_of, specs.Sessions.ProgramRun, specs.Sessions.LeavesMap}

-- A run over a flash with spare blocks: whether its image was loaded, its words, its input, the room of its log, the inner board before it, the outer board at its end, its status,
-- the marks of the outer flash that it made, the inner flash at its cut and the outer flash that this shows, and the bytes that were posted.
pub record SparedRun : Type 0 where
  pub loaded : Bool
  pub words : List (List ℕ)
  pub input : List ℕ
  pub log : ℕ
  pub inner : BoardState
  pub new : BoardState
  pub status : ℕ
  pub marks : List Mark
  pub inner_left : Flash
  pub left : Flash
  pub posted : List ℕ

-- as a run over the outer flash that the inner pages showed
abbrev pub outer_run : Shape → ℕ → SparedRun → ProgramRun
outer_run shape spares r = record {
  words = r.words;
  input = r.input;
  old = loaded_remap r.log spares shape r.inner;
  new = r.new;
  status = r.status;
  marks = r.marks;
  left = r.left;
  posted = r.posted;
}

-- It is what `run_spared` promises of these words, on an inner board that records its input, with room for a log; it was stopped where the inner flash
-- shows a cut of the marks of the outer one.
pub record IsSparedRun (shape : Shape) (spares : ℕ) (r : SparedRun) : Type 0 where
  pub runs : RunsOver r.words (loaded_remap r.log spares shape r.inner) r.new r.status
  pub input : r.inner.input ≡ Some r.input
  pub logs : 1 ≤ r.log
  pub trail : r.new.trail ≡ Some r.marks
  pub shown : through shape spares r.inner_left ≡ Some r.left
  pub cut : Cut shape (outer_pages shape spares r.inner.pages) r.marks r.left r.posted

-- Its image was not loaded, and it left the inner pages.
pub record IsSparedRefusal (shape : Shape) (spares : ℕ) (r : SparedRun) : Type 0 where
  pub same : r.inner_left ≡ r.inner.pages
  pub shown : through shape spares r.inner_left ≡ Some r.left

abbrev pub IsSparedIf : Bool → Shape → ℕ → SparedRun → Type 0
IsSparedIf true shape spares r = IsSparedRun shape spares r
IsSparedIf false shape spares r = IsSparedRefusal shape spares r

-- from inner flash to inner flash
abbrev pub SparedRunOn : Shape → ℕ → Flash → List SparedRun → Flash → Type 0
SparedRunOn shape spares start [] end = end ≡ start
SparedRunOn shape spares start (r ∷ runs) end =
    IsSparedIf r.loaded shape spares r × (r.inner.pages ≡ start) × SparedRunOn shape spares r.inner_left runs end

-- what a run made of a map; one whose image was not loaded made nothing of it
abbrev pub LeavesMapIf : Bool → Shape → ℕ → SparedRun → Map → Map → Type 0
LeavesMapIf true shape spares r m next = LeavesMap (word_of r.words) shape (outer_run shape spares r) m next
LeavesMapIf false shape spares r m next = next ≡ m

-- from map to map, each of which the outer flash held at the cut of the run, and the limits of its namespaces are these
abbrev pub KeptThroughSpared : Shape → ℕ → List ℕ → Map → List SparedRun → Map → Type 0
KeptThroughSpared shape spares limits m [] m' = m' ≡ m
KeptThroughSpared shape spares limits m (r ∷ runs) m' =
    (next : Map) × LeavesMapIf r.loaded shape spares r m next × Holds shape r.left next × (limits_at shape r.left ≡ limits) × KeptThroughSpared shape spares limits next runs m'

-- On a drive that was made on a flash with spare blocks, after any runs of any words, each cut anywhere: each kept what the one before left, from the
-- empty map on, and the outer flash that the inner pages show at the end holds the last map.
abbrev pub KeptThroughSparedRuns : Type 0
KeptThroughSparedRuns =
    (shape : Shape) (spares : ℕ) (limits : List ℕ) (made : BoardState) (start : Flash) (runs : List SparedRun) (end : Flash) → IsMade shape limits made
    → through shape spares start ≡ Some made.pages → SparedRunOn shape spares start runs end
    → (last : Flash) × (m : Map) × (through shape spares end ≡ Some last) × Holds shape last m × (limits_at shape last ≡ limits) × KeptThroughSpared shape spares limits empty runs m
