-- A load or a make of an image that was refused.
use Rattle.std.specs.Prelude.{◌≡◌, ◌≢◌, ℕ, Some, None, IsSome}
use Rattle.pk_nand.{specs.BoardState.BoardState, specs.Calls.Rose, specs.Calls.Loaded, specs.Calls.LoadFailed, specs.Calls.MakeFailed, specs.declared.types.LoadFault.LoadFault}
use Rattle.pk_nand.specs.declared.types.LoadFault.TheVariants.{Fault, BadImage, Memory}
use Rattle.pk_top.specs.declared.status.TheConstants.Status.{FLASH, MEMORY, NO_DRIVE}

-- its status
abbrev pub load_status : LoadFault → ℕ
load_status Fault = FLASH.0
load_status (BadImage at) = NO_DRIVE.0
load_status Memory = MEMORY.0

-- why: a flash operation failed exactly if the refusal says so, and a damaged image is one that the board says to be damaged
abbrev pub HasReason : BoardState → BoardState → LoadFault → Type 0
HasReason old new Fault = Rose old.flash_faults new.flash_faults
HasReason old new (BadImage at) = (new.flash_faults ≡ old.flash_faults) × (new.bad ≡ Some at) × (IsSome old.shape → ⊥)
HasReason old new Memory = new.flash_faults ≡ old.flash_faults

-- A load was refused.
pub record LoadRefused (old new : BoardState) (status : ℕ) : Type 0 where
  pub fault : LoadFault
  pub tells : status ≡ load_status fault
  pub reason : HasReason old new fault
  pub failed : LoadFailed old new

-- An image was not made; a make never says that an image is damaged.
pub record MakeRefused (old new : BoardState) (status : ℕ) : Type 0 where
  pub fault : LoadFault
  pub tells : status ≡ load_status fault
  pub not_bad : (at : ℕ) → fault ≢ BadImage at
  pub failed : MakeFailed old new
  pub rose : fault ≡ Fault → Rose old.flash_faults new.flash_faults
  pub same : fault ≢ Fault → new.flash_faults ≡ old.flash_faults

-- A load found no image, and the word needs one.
pub record NoImage (old new : BoardState) (status : ℕ) : Type 0 where
  pub tells : status ≡ NO_DRIVE.0
  pub found : Loaded old new None

-- How a run of a word on a board ends: memory for the words was missing and nothing was done; or the load was refused; or it found no image; or it
-- found one. Of the last two the word says what it then does.
pub data WordRun (Missing Found : Type 0) (old new : BoardState) (status : ℕ) : Type 0 where
  no_memory : status ≡ MEMORY.0 → new ≡ old → WordRun Missing Found old new status
  not_loaded : LoadRefused old new status → WordRun Missing Found old new status
  no_image : Missing → WordRun Missing Found old new status
  has_image : Found → WordRun Missing Found old new status
