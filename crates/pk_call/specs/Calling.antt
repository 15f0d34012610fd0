-- How many flash operations were made.
use Rattle.std.specs.Prelude.{◌≡◌, ℕ, ◌+◌, ◌≤◌, ◌==◌, ◌||◌, not, Bool, if◌then◌else◌}
use Rattle.pk_base.specs.Shape.{Shape, most_calls}
use Rattle.pk_nvme.specs.declared.opcode.TheConstants.{STORE, DELETE, TICK}
use Rattle.pk_nand.{specs.BoardState.BoardState, specs.Counts.counted_by}

-- At most this many flash operations were made, failed ones included.
pub record FewCalls (most : ℕ) (old new : BoardState) : Type 0 where
  pub reads_made : ℕ
  pub programs_made : ℕ
  pub erases_made : ℕ
  pub few : reads_made + programs_made + erases_made ≤ most
  pub reads : new.reads ≡ counted_by reads_made old.reads
  pub programs : new.programs ≡ counted_by programs_made old.programs
  pub erases : new.erases ≡ counted_by erases_made old.erases

-- most calls of a command: of a Tick one for each step
abbrev pub most_calls_of : Shape → ℕ → ℕ → ℕ
most_calls_of shape opcode size = if opcode == TICK then size else most_calls shape

-- a command that neither changes the map nor makes background steps
abbrev pub only_looks : ℕ → Bool
only_looks opcode = not (opcode == STORE || opcode == DELETE || opcode == TICK)
