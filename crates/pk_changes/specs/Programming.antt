-- How many pages a step inside a command programs.
use Rattle.std.specs.Prelude.{◌≡◌, ℕ, ◌+◌, true, false}
use Rattle.pk_base.specs.Key.{Key}
use Rattle.pk_nand.{specs.BoardState.BoardState, specs.Counts.counted_by}
use Rattle.pk_log.specs.State.{needs_freeze}
use Rattle.pk_values.specs.State.{fits_open}
use Rattle.pk_call.specs.Moving.{commits_for}
use Rattle.pk_parts.specs.Parts.{Parts, sight_of}

-- This many programs were made, and no erase.
pub record Programs (count : ℕ) (old new : BoardState) : Type 0 where
  pub programs : new.programs ≡ counted_by count old.programs
  pub erases : new.erases ≡ old.erases

-- If a value of n pages has room in the open block, it was written there, and a commit was made if the journal page is full.
abbrev pub FillsQuietly : Parts → ℕ → BoardState → BoardState → Type 0
FillsQuietly d count old new = fits_open d.log.shape d.values count ≡ true → Programs (count + commits_for d.log.shape (sight_of d)) old new

-- so it was if the key needs no freeze
abbrev pub PutsQuietly : Parts → Key → ℕ → BoardState → BoardState → Type 0
PutsQuietly d k count old new = needs_freeze d.log k ≡ false → FillsQuietly d count old new

-- if the key needs no freeze, nothing but a commit programs a page
abbrev pub TakesQuietly : Parts → Key → BoardState → BoardState → Type 0
TakesQuietly d k old new = needs_freeze d.log k ≡ false → Programs (commits_for d.log.shape (sight_of d)) old new

-- nor is a page read
abbrev pub ReadsQuietly : Parts → Key → BoardState → BoardState → Type 0
ReadsQuietly d k old new = needs_freeze d.log k ≡ false → new.reads ≡ old.reads
