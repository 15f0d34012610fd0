-- What the status of a run says of the board.
use Rattle.std.specs.Prelude.{◌≡◌, ◌⊎◌, ℕ, None, Some, IsSome}
use Rattle.pk_base.{specs.Shape.Shape, specs.Refusal.Refusal}
use Rattle.pk_nand.{specs.BoardState.BoardState, specs.Calls.Rose}
use Rattle.pk_model.specs.Reading.{Refuses}
use Rattle.pk_top.specs.declared.status.TheConstants.Status.{WORDS, INPUT, OUTPUT, FLASH, MEMORY, NO_DRIVE, IMAGE_EXISTS}

-- nothing was taken from the input, and nothing was posted
pub record GivesNothing (old new : BoardState) : Type 0 where
  pub input : new.input ≡ old.input
  pub posted : new.posted ≡ old.posted

-- Nothing was taken or posted, nothing was programmed or erased, and no flash operation failed; a board that held its pages from the start
-- holds them still.
pub record Untouched (old new : BoardState) : Type 0 where
  pub gives : GivesNothing old new
  pub trail : new.trail ≡ old.trail
  pub sound : new.flash_faults ≡ old.flash_faults
  pub held : IsSome old.shape → (new.pages ≡ old.pages) × (new.shape ≡ old.shape)

-- A program or an erase failed; or a flash operation failed before anything was taken or posted.
abbrev pub FlashFailed : BoardState → BoardState → Type 0
FlashFailed old new = Rose old.stop_faults new.stop_faults ⊎ (Rose old.flash_faults new.flash_faults × GivesNothing old new)

-- There is no image, or the board says that it is damaged, or its flash holds no map.
abbrev pub HasNoDrive : BoardState → Type 0
HasNoDrive board =
    (board.shape ≡ None) ⊎ (IsSome board.bad ⊎ ((shape : Shape) × (refusal : Refusal) × (board.shape ≡ Some shape) × Refuses shape board.pages refusal))

-- If a word of the table was obeyed: what the statuses of failures say.
pub record Tells (old new : BoardState) (status : ℕ) : Type 0 where
  pub no_words : status ≡ WORDS.0 → ⊥
  pub input : status ≡ INPUT.0 → Rose old.in_faults new.in_faults
  pub output : status ≡ OUTPUT.0 → Rose old.out_faults new.out_faults
  pub flash : status ≡ FLASH.0 → FlashFailed old new
  pub memory : status ≡ MEMORY.0 → (new.flash_faults ≡ old.flash_faults) × GivesNothing old new
  pub no_drive : status ≡ NO_DRIVE.0 → HasNoDrive new × Untouched old new
  pub made : status ≡ IMAGE_EXISTS.0 → IsSome new.shape × Untouched old new

-- The status of a text that was turned to an end: none of words, flash, memory, a missing drive or one that is there.
pub record IsServed (status : ℕ) : Type 0 where
  pub no_words : status ≡ WORDS.0 → ⊥
  pub no_memory : status ≡ MEMORY.0 → ⊥
  pub no_drive : status ≡ NO_DRIVE.0 → ⊥
  pub no_made : status ≡ IMAGE_EXISTS.0 → ⊥
