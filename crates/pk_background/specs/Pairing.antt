-- The second program of a pair that is half made.
use Rattle.std.specs.Prelude.{◌≡◌, ℕ, ◌<◌, ◌≤◌, true, false, Result, Ok, Err, IsOk}
use Rattle.pk_base.{specs.Shape.Shape, specs.Map.Map}
use Rattle.pk_plan.specs.declared.owner.Owner.TheVariants.{Values}
use Rattle.pk_pool.specs.Blocks.{used_by}
use Rattle.pk_nand.{specs.declared.types.Fault.Fault, specs.declared.types.Fault.TheVariants.Stopped, specs.BoardState.BoardState, specs.Calls.IsReady}
use Rattle.pk_nand.specs.Effects.{OneProgram, Works, Stops}
use Rattle.pk_model.{specs.Growth.Grows, specs.Growth.Reaches, specs.Growth.Goes, specs.Crashes.CrashFinds, specs.Crashes.background, specs.Wear.roots}
use Rattle.pk_root.specs.Installing.{repeats_next}
use Rattle.pk_call.specs.Half.{MakesPair}
use Rattle.pk_gc.specs.declared.course.Phase.TheVariants.{Commits, GivesBack}
use Rattle.pk_schedule.specs.Steps.{LessIsLeft}
use Rattle.pk_reclaim.specs.Space.{Falls, HasRoom as HasSpace}
use Rattle.pk_parts.{specs.Parts.Parts, specs.Parts.index_of, specs.Parts.is_half, specs.Parts.commits_in, specs.Parts.sight_of, specs.Moves.StandsFor, specs.Moves.StandsBetween, specs.Staying.Stays}
use Rattle.pk_background.specs.Reclaiming.{LeavesIndex, space_of}

-- The drive represents some map on its board, and a pair is half made.
pub record MayFinishHalf (d : Parts) (board : BoardState) : Type 0 where
  pub ready : IsReady board d.log.shape
  pub stands : (m : Map) × StandsBetween d d.log.shape board.pages m
  pub half : is_half d ≡ true

-- The drive represents the same map, by the same lists, and no pair is half made; the map is the same wherever the program is cut.
pub record Finished (before after : Parts) (shape : Shape) (m : Map) (old new : BoardState) : Type 0 where
  pub stands : StandsFor after shape new.pages m
  pub same_found : (was : StandsBetween before shape old.pages m) → stands.found ≡ was.found
  pub cuts : Reaches shape old new (CrashFinds shape background old.pages m)
  pub grows : Grows shape old.pages new.pages

-- The pair is whole, by one program of its second page. Of the log no more differs than what its installer does next, and that its epoch is whole; of all else no
-- more than the blocks that left, which are free, and how far the reclaim is.
pub record FinishesHalf (before after : Parts) (old new : BoardState) : Type 0 where
  pub finished : (shape : Shape) (m : Map) → StandsBetween before shape old.pages m → Finished before after shape m old new
  pub log : after.log ≡ record before.log { next = after.log.next; epoch = record before.log.epoch { half = after.log.epoch.half } }
  pub rest : after ≡ record before { log = after.log; pool = after.pool; reclaim = after.reclaim }
  pub counted : used_by Values after.pool.states ≡ used_by Values before.pool.states
  pub stays : Stays before after
  pub lowers : (sight_of after).work < (sight_of before).work
  pub works : Works old new
  pub program : OneProgram old new
  pub pair : MakesPair before.log.shape old.pages new.pages
  pub same_roots : roots new ≡ roots old
  pub ready : IsReady new before.log.shape

-- The program failed.
pub record FailsToFinish (before : Parts) (old new : BoardState) : Type 0 where
  pub fails : (shape : Shape) (m : Map) → StandsBetween before shape old.pages m → Goes shape old new (CrashFinds shape background old.pages m)
  pub stops : Stops old new
  pub program : OneProgram old new
  pub no_root : roots new ≤ roots old
  pub ready : IsReady new before.log.shape

-- the pair is whole, or its program failed
abbrev pub FinishesOr : Parts → Parts → BoardState → BoardState → Result Unit Fault → Type 0
FinishesOr before after old new (Ok u) = FinishesHalf before after old new
FinishesOr before after old new (Err e) = (e ≡ Stopped) × (after.log.pending ≡ before.log.pending) × FailsToFinish before old new

-- ---- of a root

-- The second program of the newest root was made: less remains to empty the frozen buffer.
pub record FinishesRoot (before after : Parts) (old new : BoardState) : Type 0 where
  pub finishes : FinishesHalf before after old new
  pub less : LessIsLeft (index_of before) (index_of after)
  pub same_reclaim : after.reclaim ≡ before.reclaim
  pub same_epoch : after.log.epoch ≡ before.log.epoch

abbrev pub FinishesRootOr : Parts → Parts → BoardState → BoardState → Result Unit Fault → Type 0
FinishesRootOr before after old new (Ok u) = FinishesRoot before after old new
FinishesRootOr before after old new (Err e) = (e ≡ Stopped) × (after.log.pending ≡ before.log.pending) × FailsToFinish before old new

-- what was done if the pair of the newest root was half made, and nothing otherwise
pub record SettlesOr (before after : Parts) (old new : BoardState) (result : Result Unit Fault) : Type 0 where
  pub half : repeats_next before.log.next ≡ true → FinishesRootOr before after old new result
  pub whole : repeats_next before.log.next ≡ false → IsOk result × (after ≡ before) × (new ≡ old)

-- ---- of the commit of a reclaim's moves

-- The second program of the commit was made: the victim can be freed, and less of the reclaim remains.
pub record FinishesCommit (before after : Parts) (old new : BoardState) : Type 0 where
  pub finishes : FinishesHalf before after old new
  pub victim : ℕ
  pub was : before.reclaim.phase ≡ Commits victim
  pub phase : after.reclaim.phase ≡ GivesBack victim
  pub leaves : LeavesIndex before after
  pub falls : Falls (space_of before) (space_of after)
  pub room : HasSpace (space_of after)

abbrev pub FinishesCommitOr : Parts → Parts → BoardState → BoardState → Result Unit Fault → Type 0
FinishesCommitOr before after old new (Ok u) = FinishesCommit before after old new
FinishesCommitOr before after old new (Err e) = (e ≡ Stopped) × (after.log.pending ≡ before.log.pending) × FailsToFinish before old new

pub record CommitsOr (before after : Parts) (old new : BoardState) (result : Result Unit Fault) : Type 0 where
  pub half : commits_in before.reclaim.phase ≡ true → FinishesCommitOr before after old new result
  pub whole : commits_in before.reclaim.phase ≡ false → IsOk result × (after ≡ before) × (new ≡ old)
