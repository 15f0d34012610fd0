-- Steps inside a command, each of which keeps the map: a commit, a freeze, the write of a value.
use Rattle.std.specs.Prelude.{◌≡◌, ◌⊎◌, ℕ, List, [], length, Result, Ok}
use Rattle.pk_base.{specs.Key.Key, specs.Shape.Shape, specs.Page.Flash, specs.Page.page_at, specs.Map.Map}
use Rattle.pk_segfmt.specs.Value.{value_at}
use Rattle.pk_rootfmt.specs.Root.{Root}
use Rattle.pk_plan.specs.declared.owner.Owner.TheVariants.{Values}
use Rattle.pk_nand.{specs.declared.types.Fault.Fault, specs.BoardState.BoardState, specs.Calls.IsReady}
use Rattle.pk_pool.specs.Blocks.{used_by}
use Rattle.pk_model.{specs.Found.Found, specs.Reading.reading, specs.Laws.IsPageOf, specs.Growth.Reaches, specs.Growth.Goes, specs.Crashes.CrashFinds, specs.Crashes.commit, specs.Steps.Step}
use Rattle.pk_law_steps.specs.Under.{IsValuePage, places}
use Rattle.pk_parts.{specs.Parts.Parts, specs.Parts.frames_of, specs.Parts.settled_parts, specs.Agreeing.DriveOnFlashWith, specs.Agreeing.IsWhole, specs.Agreeing.IsHalfAtMost}

-- The drive agrees with these pages, for this map with the pending entries, and no pair is half made.
pub record StandsFor (d : Parts) (shape : Shape) (flash : Flash) (m : Map) : Type 0 where
  pub top : ℕ × Root
  pub found : Found
  pub without : Map
  pub with : DriveOnFlashWith d shape flash top found without m
  pub whole : IsWhole d

-- The same as if the blocks that leave were free; at most one pair is half made.
pub record StandsBetween (d : Parts) (shape : Shape) (flash : Flash) (m : Map) : Type 0 where
  pub top : ℕ × Root
  pub found : Found
  pub without : Map
  pub with : DriveOnFlashWith (settled_parts d) shape flash top found without m
  pub course : IsHalfAtMost d flash top found without

-- The map with the pending entries is the same. The flash holds what it held, or that map; and so it does at every cut.
pub record Keeps (before after : Parts) (shape : Shape) (m : Map) (old new : BoardState) : Type 0 where
  pub stands : StandsFor after shape new.pages m
  -- and so are the places of its values
  pub same_places : (was : StandsFor before shape old.pages m) → places stands.found after.log.pending ≡ places was.found before.log.pending
  pub still : (reading shape new.pages [] ≡ reading shape old.pages []) ⊎ (reading shape new.pages [] ≡ Ok m)
  pub cuts : Reaches shape old new (CrashFinds shape commit old.pages m)

-- the same of a step after which a pair may be half made
pub record KeepsBetween (before after : Parts) (shape : Shape) (m : Map) (old new : BoardState) : Type 0 where
  pub stands : StandsBetween after shape new.pages m
  pub same_places : (was : StandsFor before shape old.pages m) → places stands.found after.log.pending ≡ places was.found before.log.pending
  pub still : (reading shape new.pages [] ≡ reading shape old.pages []) ⊎ (reading shape new.pages [] ≡ Ok m)
  pub cuts : Reaches shape old new (CrashFinds shape commit old.pages m)

-- for every map that the drive represented
abbrev pub KeepsAll : Parts → Parts → BoardState → BoardState → Type 0
KeepsAll before after old new = (shape : Shape) (m : Map) → StandsFor before shape old.pages m → Keeps before after shape m old new

abbrev pub KeepsAllBetween : Parts → Parts → BoardState → BoardState → Type 0
KeepsAllBetween before after old new = (shape : Shape) (m : Map) → StandsFor before shape old.pages m → KeepsBetween before after shape m old new

-- the same of a step that stopped the drive
abbrev pub BreaksAll : Parts → BoardState → BoardState → Type 0
BreaksAll before old new = (shape : Shape) (m : Map) → StandsFor before shape old.pages m → Goes shape old new (CrashFinds shape commit old.pages m)

-- ---- steps

-- what a step inside a command requires: a board that is ready, and on it the drive represents some map
pub record MayStep (d : Parts) (board : BoardState) : Type 0 where
  pub ready : IsReady board d.log.shape
  pub stands : (m : Map) × StandsFor d d.log.shape board.pages m

-- what a commit requires: the same, if a pair may be half made
pub record MayCommit (d : Parts) (board : BoardState) : Type 0 where
  pub ready : IsReady board d.log.shape
  pub stands : (m : Map) × StandsBetween d d.log.shape board.pages m

-- a step that keeps the map
abbrev pub StepKeeps : {T : Type 0} → Parts → Parts → ℕ → BoardState → BoardState → Result T Fault → Type 0
StepKeeps {T} before after most old new result =
    Step (λ (x : T). KeepsAll before after old new) (BreaksAll before old new) before.log.shape most old new result

-- nothing differs but the pending entries, and the epoch that took them
abbrev pub OnlyCommits : Parts → Parts → Type 0
OnlyCommits before after = after ≡ record before { log = record before.log { epoch = after.log.epoch; pending = after.log.pending } }

-- nothing differs but the index; it has as many frames, and as many blocks are for values
pub record LeavesValues (before after : Parts) : Type 0 where
  pub rest : after ≡ record before { log = after.log; levels = after.levels; arena = after.arena; schedule = after.schedule; pool = after.pool }
  pub frames : frames_of after ≡ frames_of before
  pub same_shape : after.log.shape ≡ before.log.shape
  pub as_many : used_by Values after.pool.states ≡ used_by Values before.pool.states

-- ---- values

-- From this page on there is a value of this key that is not in the map yet: in a block for values, in pages of no other value.
pub record IsWritten (d : Parts) (shape : Shape) (flash : Flash) (key : Key) (value : List ℕ) (page : ℕ) : Type 0 where
  pub there : value_at shape (page_at flash) key (record { page = page; len = length value }) ≡ Ok value
  pub apart : (top : ℕ × Root) (found : Found) (without all : Map) → DriveOnFlashWith d shape flash top found without all
      → (k : ℕ) → IsPageOf shape k (record { page = page; len = length value }) → IsValuePage shape (places found d.log.pending) k → ⊥
