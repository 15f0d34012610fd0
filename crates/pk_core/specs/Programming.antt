-- How many pages a Store or a Delete programs that waits for nothing.
use Rattle.std.specs.Prelude.{◌≡◌, ℕ, ◌+◌, ◌-◌, ◌≤◌, List, [], true, false}
use Rattle.pk_nvme.{specs.declared.status.TheConstants.SUCCESSFUL_COMPLETION, specs.Command.key, specs.Seen.command_of, specs.declared.request.Request.Request}
use Rattle.pk_base.{specs.Key.Key, specs.Shape.charge}
use Rattle.pk_nand.specs.BoardState.{BoardState}
use Rattle.pk_log.specs.State.{needs_freeze}
use Rattle.pk_values.specs.State.{fits_open}
use Rattle.pk_call.{specs.Moving.commits_for, specs.declared.types.Outcome.Outcome}
use Rattle.pk_parts.specs.Parts.{Parts, sight_of, is_half}
use Rattle.pk_changes.specs.Programming.{Programs, ReadsQuietly}

-- nor if besides a value of n pages has room in the open block
abbrev pub ReadsNone : Parts → Key → ℕ → BoardState → BoardState → Type 0
ReadsNone d k count old new = fits_open d.log.shape d.values count ≡ true → ReadsQuietly d k old new

-- A Store that was answered so, with no pair half made, whose key needs no freeze and whose value has room in the open block, made the programs of its value and
-- of a commit, and the reads of a lookup.
abbrev pub QuietStore : Parts → BoardState → BoardState → Request → List ℕ → Outcome → Type 0
QuietStore d old new r value o =
    o.status ≡ SUCCESSFUL_COMPLETION → is_half d ≡ false → needs_freeze d.log (key (command_of r value)) ≡ false → fits_open d.log.shape d.values (charge d.log.shape r.size) ≡ true
    → Programs (charge d.log.shape r.size + commits_for d.log.shape (sight_of d)) old new × (o.reads ≤ 4 - d.levels.pinned)

-- the same of a Delete, of which nothing but a commit programs a page
abbrev pub QuietDelete : Parts → BoardState → BoardState → Request → Outcome → Type 0
QuietDelete d old new r o =
    o.status ≡ SUCCESSFUL_COMPLETION → is_half d ≡ false → needs_freeze d.log (key (command_of r [])) ≡ false → Programs (commits_for d.log.shape (sight_of d)) old new × (o.reads ≤ 4 - d.levels.pinned)
