-- What a commit does, for every map that the drive may represent.
use Rattle.std.specs.Prelude.{◌≡◌, ◌≢◌, ◌≤◌, ℕ, [], Bool, true, false}
use Rattle.pk_base.{specs.Shape.Shape, specs.Shape.commit_programs, specs.Map.Map}
use Rattle.pk_nand.{specs.BoardState.BoardState, specs.Calls.Rose, specs.Counts.counted_by, specs.Effects.NoFault}
use Rattle.pk_model.{specs.Spaces.Terms, specs.Wear.roots}
use Rattle.pk_call.{specs.Sight.Sight, specs.Call.KeepsMap, specs.Drive.HoldsMap, specs.Moving.Commits, specs.Steady.Steadies}

-- At least n of the programs of a commit were made, the failed one included, and no other call.
pub record ProgramsOfCommit (least : ℕ) (old new : BoardState) : Type 0 where
  pub made : ℕ
  pub some : least ≤ made
  pub most : made ≤ commit_programs
  pub programs : new.programs ≡ counted_by made old.programs
  pub erases : new.erases ≡ old.erases
  pub reads : new.reads ≡ old.reads

-- so if entries are pending
abbrev pub CommitPrograms : ℕ → BoardState → BoardState → Sight → Type 0
CommitPrograms least old new before =
    (shape : Shape) (terms : Terms) (m : Map) → HoldsMap shape terms old before m → before.pending ≢ [] → ProgramsOfCommit least old new

-- What it leaves: the same map and nothing pending; if nothing was pending it did nothing.
pub record AnswersCommit (old new : BoardState) (before after : Sight) (stopped : Bool) : Type 0 where
  pub stands : stopped ≡ false → KeepsMap old new before after
  pub none : stopped ≡ false → after.pending ≡ []
  pub idle : before.pending ≡ [] → (stopped ≡ false) × (new ≡ old) × (after ≡ before)

-- What is counted: reads, faults, roots and programs.
pub record CountsPrograms (old new : BoardState) (before : Sight) (stopped : Bool) : Type 0 where
  pub reads : new.reads ≡ old.reads
  pub read_faults : new.read_faults ≡ old.read_faults
  pub stop : stopped ≡ true → Rose old.stop_faults new.stop_faults
  pub sound : stopped ≡ false → NoFault old new
  pub flash_up : old.flash_faults ≤ new.flash_faults
  pub program : CommitPrograms 1 old new before
  pub programs : stopped ≡ false → CommitPrograms commit_programs old new before
  pub installs : roots new ≡ roots old

-- What is seen of the drive.
pub record ShowsCommit (old new : BoardState) (before after : Sight) (stopped : Bool) : Type 0 where
  pub seen : stopped ≡ false → Commits before after
  pub steady : stopped ≡ false → Steadies old new before after
