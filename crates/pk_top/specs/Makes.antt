-- A run of the word `make`.
use Rattle.std.{specs.Prelude.◌≡◌, specs.Prelude.◌⊎◌, specs.Prelude.ℕ, specs.Prelude.List, specs.Prelude.Some, specs.Prelude.None, specs.FinMap.empty}
use Rattle.pk_base.specs.Shape.{Shape}
use Rattle.pk_nand.{specs.BoardState.BoardState, specs.Calls.Loaded, specs.Calls.Made, specs.Calls.ProgramsFailed, specs.Calls.after_programs, specs.Pairs.programs_of_pair}
use Rattle.pk_rootfmt.{specs.Held.first_with, specs.Root.root_bytes, specs.Root.written_limits}
use Rattle.pk_model.{specs.Reading.Holds, specs.Spaces.limits_at}
use Rattle.pk_top.specs.declared.status.TheConstants.Status.{DONE, FLASH, IMAGE_EXISTS}
use Rattle.pk_top.specs.Loads.{MakeRefused, WordRun}

-- the first root of a drive whose namespaces have these limits
abbrev pub made_root : Shape → List ℕ → List ℕ
made_root shape limits = root_bytes shape (first_with (written_limits shape limits))

-- The flash of an image that was made holds the empty map and has these limits, by two programs with the same root.
pub record Formatted (shape : Shape) (limits : List ℕ) (made new : BoardState) (status : ℕ) : Type 0 where
  pub tells : status ≡ DONE.0
  pub holds : Holds shape new.pages empty
  pub limits_are : limits_at shape new.pages ≡ limits
  pub programs : new ≡ after_programs made (programs_of_pair 0 (made_root shape limits))

-- An image of this shape was made; its flash was formatted, or a program of that failed.
pub record MadeImage (shape : Shape) (limits : List ℕ) (loaded new : BoardState) (status : ℕ) : Type 0 where
  pub made : BoardState
  pub is_made : Made loaded made shape
  pub formats : Formatted shape limits made new status ⊎ ((status ≡ FLASH.0) × ProgramsFailed made new (programs_of_pair 0 (made_root shape limits)))

-- What was done if there was no image.
abbrev pub Makes : Shape → List ℕ → BoardState → BoardState → ℕ → Type 0
Makes shape limits loaded new status = MakeRefused loaded new status ⊎ MadeImage shape limits loaded new status

-- there was none
pub record MakesNew (shape : Shape) (limits : List ℕ) (old new : BoardState) (status : ℕ) : Type 0 where
  pub loaded : BoardState
  pub none : Loaded old loaded None
  pub makes : Makes shape limits loaded new status

-- there was one
pub record FoundImage (old new : BoardState) (status : ℕ) : Type 0 where
  pub tells : status ≡ IMAGE_EXISTS.0
  pub shape : Shape
  pub found : Loaded old new (Some shape)

-- It makes an image if there is none.
abbrev pub MakeRun : Shape → List ℕ → BoardState → BoardState → ℕ → Type 0
MakeRun shape limits old new status = WordRun (MakesNew shape limits old new status) (FoundImage old new status) old new status

-- a drive of this shape with the empty map in namespaces with these limits
pub record IsMade (shape : Shape) (limits : List ℕ) (board : BoardState) : Type 0 where
  pub shape_is : board.shape ≡ Some shape
  pub holds : Holds shape board.pages empty
  pub limits_are : limits_at shape board.pages ≡ limits
