-- A step of a reclaim whose flash operation failed.
use Rattle.std.specs.Prelude.{◌≡◌, ◌⊎◌, ℕ, ◌+◌, ◌*◌, true, false}
use Rattle.pk_nand.{specs.BoardState.BoardState, specs.Calls.ProgramFailed, specs.Operations.ReadFailed, specs.declared.types.Fault.Fault}
use Rattle.pk_nand.specs.declared.types.Fault.TheVariants.{Reading, Stopped}
use Rattle.pk_pool.specs.Taking.{FailsToErase}
use Rattle.pk_gc.{specs.declared.course.Course.Course, specs.declared.course.Phase.Phase, specs.State.JobState, specs.State.source, specs.State.target, specs.Victims.AreDead, specs.Stepping.Hands}
use Rattle.pk_gc.specs.declared.course.Phase.TheVariants.{Idle, Copies, Commits, GivesBack}
use Rattle.pk_gc.specs.Committing.{FailsToAdd, entries_left}
use Rattle.pk_jrn.specs.Appends.{FailsToEnd}

-- a page of a value was to be read, and this failed
pub record FailsToRead (c : Course) (old new : BoardState) (e : Fault) : Type 0 where
  pub fault : e ≡ Reading
  pub free : c.held ≡ false
  pub page : ℕ
  pub failed : ReadFailed old new page

-- the program of the page that was read failed
pub record FailsToCopy (c : Course) (job : JobState) (old new : BoardState) (e : Fault) : Type 0 where
  pub fault : e ≡ Stopped
  pub held : c.held ≡ true
  pub failed : ProgramFailed old new (target job.shape c) job.page

-- no value remained to be copied, the moves had room, and the first program of their commit failed
pub record FailsToCommit (c : Course) (job : JobState) (h : Hands) (old new : BoardState) (e : Fault) : Type 0 where
  pub fault : e ≡ Stopped
  pub whole : c.left ≡ 0
  pub dead : AreDead h.live.heads (source job.shape c) (c.victim * job.shape.block_pages + job.shape.block_pages)
  pub adds : FailsToAdd (entries_left h.live.heads job.moves) h.active h.epoch old new

-- the erase of the output failed; or a read, or the program of a copied page or of the moves; or their second program; a block is freed
-- without a call
abbrev pub BreaksIn : Phase → JobState → Hands → BoardState → BoardState → Fault → Type 0
BreaksIn Idle job h old new e = (e ≡ Stopped) × FailsToErase h.pool old new
BreaksIn (Copies c) job h old new e = FailsToRead c old new e ⊎ (FailsToCopy c job old new e ⊎ FailsToCommit c job h old new e)
BreaksIn (Commits victim) job h old new e = (e ≡ Stopped) × FailsToEnd h.epoch job.entries old new
BreaksIn (GivesBack victim) job h old new e = ⊥

abbrev pub JobBroken : JobState → Hands → BoardState → BoardState → Fault → Type 0
JobBroken job h old new e = BreaksIn job.phase job h old new e
