-- Runs of the program one after another over an image and its log, each on what a crash of the one before left of both.
use Rattle.std.specs.Prelude.{◌≡◌, ℕ, List, [], ◌∷◌, ◌++◌, take, Some}
use Rattle.std.specs.FinMap.{empty}
use Rattle.pk_base.{specs.Shape.Shape, specs.Page.Flash, specs.Mark.Mark, specs.Mark.all_posted, specs.Map.Map}
use Rattle.pk_nand.specs.BoardState.{BoardState}
use Rattle.pk_model.{specs.Spaces.limits_at, specs.Reading.Holds}
use Rattle.pk_redo.specs.Image.{ReadAs}
use Rattle.pk_file.specs.Logged.{AfterPrefix}
use Rattle.pk_durable.specs.Durable.{opened_marks}
use Rattle.pk_top.{specs.Makes.IsMade, specs.Runs.RunsOver, specs.Words.word_of, specs.Sessions.ProgramRun, specs.Sessions.LeavesMap}

-- A run as it is seen from outside: its words, its input, the bytes that it read of the log and of the image as it opened them, its status, the bytes that
-- it sent, and the bytes that a crash after it left of both.
pub record DurableRun : Type 0 where
  pub words : List (List ℕ)
  pub input : List ℕ
  pub log : List ℕ
  pub image : List ℕ
  pub status : ℕ
  pub sent : List ℕ
  pub log_left : List ℕ
  pub image_left : List ℕ

-- It is what `run` promises of these words, on a board that has the pages that both files were read as and records its input and its trail. What was
-- left of both is read as the pages after the first of its marks, at least those before the posts that were sent.
pub record IsDurableRun (shape : Shape) (r : DurableRun) : Type 0 where
  pub old : BoardState
  pub new : BoardState
  pub runs : RunsOver r.words old new r.status
  pub shape_is : old.shape ≡ Some shape
  pub input_is : old.input ≡ Some r.input
  pub opened : ReadAs shape r.log r.image old.pages
  pub marks : List Mark
  pub trail : old.trail ≡ Some (opened_marks r.log r.image)
  pub more : new.trail ≡ Some (opened_marks r.log r.image ++ marks)
  pub durable : ℕ
  pub sent_is : r.sent ≡ all_posted (take durable marks)
  pub left : Flash
  pub left_is : ReadAs shape r.log_left r.image_left left
  pub from_front : AfterPrefix shape old.pages marks durable left

-- from bytes of both files to bytes of both
abbrev pub DurableRunOn : Shape → List ℕ → List ℕ → List DurableRun → List ℕ → List ℕ → Type 0
DurableRunOn shape log image [] log' image' = (log' ≡ log) × (image' ≡ image)
DurableRunOn shape log image (r ∷ runs) log' image' = IsDurableRun shape r × (r.log ≡ log) × (r.image ≡ image) × DurableRunOn shape r.log_left r.image_left runs log' image'

-- What a run that was cut made of a map, as `LeavesMap` says it of a cut at which more may have been posted than was sent; what was left of both files
-- is read as pages that hold the next map, in namespaces with these limits.
pub record DurableStep (shape : Shape) (limits : List ℕ) (r : DurableRun) (m next : Map) : Type 0 where
  pub run : ProgramRun
  pub same_words : run.words ≡ r.words
  pub same_input : run.input ≡ r.input
  pub opened : ReadAs shape r.log r.image run.old.pages
  pub unsent : List ℕ
  pub sent_first : r.sent ++ unsent ≡ run.posted
  pub leaves : LeavesMap (word_of r.words) shape run m next
  pub left_is : ReadAs shape r.log_left r.image_left run.left
  pub holds : Holds shape run.left next
  pub same_limits : limits_at shape run.left ≡ limits

-- from map to map
abbrev pub KeptThroughDurable : Shape → List ℕ → Map → List DurableRun → Map → Type 0
KeptThroughDurable shape limits m [] m' = m' ≡ m
KeptThroughDurable shape limits m (r ∷ runs) m' = (next : Map) × DurableStep shape limits r m next × KeptThroughDurable shape limits next runs m'

-- On an image and its log that are read as a made drive, after any runs of any words, each on what a crash of the one before left of both: each kept what
-- the one before left, from the empty map on, and what the last one left is read as pages that hold the last map.
abbrev pub KeptThroughDurableRuns : Type 0
KeptThroughDurableRuns =
    (shape : Shape) (limits : List ℕ) (made : BoardState) (log image : List ℕ) (runs : List DurableRun) (log' image' : List ℕ) → IsMade shape limits made
    → ReadAs shape log image made.pages → DurableRunOn shape log image runs log' image'
    → (last : Flash) × (m : Map) × ReadAs shape log' image' last × Holds shape last m × (limits_at shape last ≡ limits) × KeptThroughDurable shape limits empty runs m
