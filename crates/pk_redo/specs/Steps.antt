-- The steps in a batch: what is done to the pages of an image, one step after another.
use Rattle.std.specs.Prelude.{◌≡◌, ◌⊎◌, ℕ, ◌+◌, ◌-◌, ◌/◌, ◌<◌, ◌≤◌, nat_lt, if◌then◌else◌, List, [], ◌∷◌, ◌++◌, length, map}
use Rattle.pk_base.{specs.Shape.Shape, specs.Shape.page_count, specs.Fields.padded}
use Rattle.pk_base.specs.Mark.{Mark, program, erase, post}
use Rattle.pk_redo.specs.declared.step.TheConstants.{STEP_BYTES, ERASES}
use Rattle.pk_redo.specs.declared.step.Step.{Step}
use Rattle.pk_redo.specs.declared.step.Step.TheVariants.{Program, Erase}
use Rattle.pk_redo.specs.Bytes.{bytes_at, number_in}

-- ---- one step

-- the length of the front, which follows the number of the page or block
abbrev pub front_len : List ℕ → ℕ → ℕ
front_len log at = number_in log (at + 4)

-- where the next step is
abbrev pub after_step : List ℕ → ℕ → ℕ
after_step log at = at + STEP_BYTES + front_len log at

-- a page and a front that fits it, or a block and no front
abbrev pub CanBeStep : Shape → ℕ → ℕ → Type 0
CanBeStep shape number len = ((number < page_count shape) × (len ≤ shape.page_bytes)) ⊎ ((ERASES ≤ number) × (number - ERASES < shape.blocks) × (len ≡ 0))

-- a whole step is at this place
pub record IsStep (shape : Shape) (log : List ℕ) (at : ℕ) : Type 0 where
  pub headed : at + STEP_BYTES ≤ length log
  pub can_be : CanBeStep shape (number_in log at) (front_len log at)
  pub within : after_step log at ≤ length log

-- what it does: it programs a page, whose bytes are the front and zeros, or erases a block
abbrev pub mark_of_numbers : Shape → List ℕ → ℕ → ℕ → ℕ → Mark
mark_of_numbers shape log number at len = if nat_lt number ERASES then program number (padded shape.page_bytes (bytes_at log at len)) else erase (number - ERASES)

abbrev pub mark_at : Shape → List ℕ → ℕ → Mark
mark_at shape log at = mark_of_numbers shape log (number_in log at) (at + STEP_BYTES) (front_len log at)

-- the same of a step that was read
abbrev pub step_mark : Shape → List ℕ → Step → Mark
step_mark shape log (Program page at len) = program page (padded shape.page_bytes (bytes_at log at len))
step_mark shape log (Erase block) = erase block

abbrev pub step_marks : Shape → List ℕ → List Step → List Mark
step_marks shape log steps = map (step_mark shape log) steps

-- ---- steps one after another

-- these steps stand one after another, from one place on up to another
abbrev pub AreSteps : Shape → List ℕ → ℕ → List Mark → ℕ → Type 0
AreSteps shape log at [] to = at ≡ to
AreSteps shape log at (mark ∷ marks) to = IsStep shape log at × (mark ≡ mark_at shape log at) × AreSteps shape log (after_step log at) marks to

-- the bytes of a batch are these steps
abbrev pub BodySays : Shape → List ℕ → List Mark → Type 0
BodySays shape body marks = AreSteps shape body 0 marks (length body)

-- those of batches, one batch after another
abbrev pub BodiesSay : Shape → List (List ℕ) → List Mark → Type 0
BodiesSay shape [] marks = marks ≡ []
BodiesSay shape (body ∷ later) marks = (first rest : List Mark) × BodySays shape body first × BodiesSay shape later rest × (marks ≡ first ++ rest)

-- ---- the pages that steps set

abbrev pub SetBy : Shape → Mark → ℕ → Type 0
SetBy shape (program at bytes) k = k ≡ at
SetBy shape (erase block) k = k / shape.block_pages ≡ block
SetBy shape (post bytes) k = ⊥

-- one of them sets this page
abbrev pub Sets : Shape → List Mark → ℕ → Type 0
Sets shape [] k = ⊥
Sets shape (mark ∷ marks) k = SetBy shape mark k ⊎ Sets shape marks k

-- ---- laws

-- Bytes are read as one list of steps.
abbrev pub StepsReadOnce : Type 0
StepsReadOnce = (shape : Shape) (bodies : List (List ℕ)) (one other : List Mark) → BodiesSay shape bodies one → BodiesSay shape bodies other → one ≡ other
