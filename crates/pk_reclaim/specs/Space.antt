-- The space of a drive: its journal, the places of its values, its blocks, and the reclaim that makes room for values.
use Rattle.std.specs.Prelude.{◌≡◌, ◌⊎◌, ℕ, ◌-◌, ◌≤◌, List, [], ◌++◌, slice_get, true, false, Some, unwrap_or}
use Rattle.std.specs.List.{concat}
use Rattle.pk_base.{specs.Shape.data_blocks, specs.Shape.most_pages, specs.Page.Flash, specs.Key.Key, specs.Entry.Place, specs.Map.Map}
use Rattle.pk_law_work.specs.Rest.{whole_reclaim, left_of, Lowers}
use Rattle.pk_plan.specs.declared.owner.Owner.TheVariants.{Journal, Meta, Values}
use Rattle.pk_pool.{specs.declared.state.BlockState.TheVariants.Owned, specs.Blocks.Blocks, specs.Blocks.NoneLeaves, specs.Blocks.used_by, specs.Unready.unready}
use Rattle.pk_rootfmt.specs.Root.{Root}
use Rattle.pk_model.{specs.Found.Found, specs.Laws.AnyByRecursion}
use Rattle.pk_law_steps.{specs.Under.IsUnder, specs.Under.places, specs.Roots.committed}
use Rattle.pk_law_moves.specs.Moves.{entries_of}
use Rattle.pk_gc.{specs.declared.course.Phase.Phase, specs.Cuts.IsHalfMoved, specs.State.JobState, specs.State.left_in, specs.Stepping.runs_in, specs.Stepping.IsHalfCommitted}
use Rattle.pk_gc.specs.declared.course.Phase.TheVariants.{Idle, Copies, Commits, GivesBack}
use Rattle.pk_gc.specs.Standing.{held_blocks, ReclaimOnFlash}
use Rattle.pk_values.{specs.State.ValuesState, specs.State.needs_reclaim, specs.Placed.ValuesOnFlash}
use Rattle.pk_log.{specs.State.LogState, specs.Logs.LogOnFlash}

-- the log, where values lie, the blocks, and the reclaim
pub record ReclaimParts : Type 0 where
  pub log : LogState
  pub values : ValuesState
  pub pool : Blocks
  pub job : JobState

abbrev pub reclaim_parts : LogState → ValuesState → Blocks → JobState → ReclaimParts
reclaim_parts log values pool job = record { log = log; values = values; pool = pool; job = job }

-- no value needs a reclaim before it
abbrev pub HasRoom : ReclaimParts → Type 0
HasRoom x = (count : ℕ) → count ≤ most_pages x.log.shape → needs_reclaim x.log.shape x.values x.pool count ≡ false

-- The commit of a reclaim's moves is half made: before its first program the map was on a former flash, without the moves, and the second
-- program can be made. There is room for every value.
pub record HalfMoves (x : ReclaimParts) (flash : Flash) (top : ℕ × Root) (found : Found) (m : Map) : Type 0 where
  pub former : Flash
  pub was : Found
  pub moves : List (Key × Place)
  pub blocks : List ℕ
  pub half : IsHalfMoved x.log.shape x.log.epoch former flash top was m moves blocks
  pub entries_are : x.job.entries ≡ entries_of moves
  pub found_is : found ≡ committed was (entries_of moves)
  pub can : IsHalfCommitted x.job x.log.epoch former flash
  pub room : HasRoom x

-- in all other phases of a reclaim no commit is half made
abbrev pub HalfIn : Phase → ReclaimParts → Flash → ℕ × Root → Found → Map → Type 0
HalfIn Idle x flash top found m = x.log.epoch.half ≡ false
HalfIn (Copies c) x flash top found m = x.log.epoch.half ≡ false
HalfIn (Commits victim) x flash top found m = HalfMoves x flash top found m
HalfIn (GivesBack victim) x flash top found m = x.log.epoch.half ≡ false

-- The log matches the flash, whose map this is, with nothing pending. The values are in blocks of their own, next to them a reclaim as far
-- as it has come, and the root names blocks of the journal and of runs alone. No block leaves.
pub record SpaceOnFlash (x : ReclaimParts) (flash : Flash) (top : ℕ × Root) (found : Found) (m : Map) : Type 0 where
  pub logs : LogOnFlash x.log flash top found
  pub none_pending : x.log.pending ≡ []
  pub under : IsUnder x.log.shape flash [] top found m
  pub placed : ValuesOnFlash x.log.shape x.values x.pool (held_blocks x.job.phase) flash (places found [])
  pub reclaim : ReclaimOnFlash x.log.shape x.job x.values.live x.pool flash (places found [])
  pub half : HalfIn x.job.phase x flash top found m
  pub journal : (b : ℕ) → AnyByRecursion (λ c. b ≡ c) (top.1.newest ++ top.1.older) → slice_get x.pool.states b ≡ Some (Owned Journal)
  pub runs : (b : ℕ) → AnyByRecursion (λ c. b ≡ c) (concat top.1.runs) → slice_get x.pool.states b ≡ Some (Owned Meta)
  pub none_leaves : NoneLeaves x.pool

-- a reclaim runs, or may begin: all data blocks are in use but the one that is kept for it
abbrev pub IsTurn : ReclaimParts → Type 0
IsTurn x = (runs_in x.job.phase ≡ true) ⊎ (used_by Values x.pool.states ≡ data_blocks x.log.shape - 1)

-- what a step of a reclaim asks
pub record MayReclaim (x : ReclaimParts) (flash : Flash) (top : ℕ × Root) (found : Found) (m : Map) : Type 0 where
  pub stands : SpaceOnFlash x flash top found m
  pub turn : IsTurn x

-- ---- what remains of it

-- what remains before a step: a whole reclaim if none runs, but for two steps, which a block that is taken counts
abbrev pub left_before : ReclaimParts → ℕ
left_before x = left_of (whole_reclaim x.log.shape - 2) (left_in x.log.shape x.values.live.heads x.job.phase)

-- and after it: nothing if none runs
abbrev pub left_behind : ReclaimParts → ℕ
left_behind x = unwrap_or (left_in x.log.shape x.values.live.heads x.job.phase) 0

-- less remains; a block that is taken counts twice
abbrev pub Falls : ReclaimParts → ReclaimParts → Type 0
Falls x x' = Lowers (left_before x) (unready x.pool.states) (left_behind x') (unready x'.pool.states)
