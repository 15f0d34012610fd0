-- What a step of a reclaim does to the space of a drive, and what it leaves of the flash.
use Rattle.std.specs.Prelude.{◌≡◌, ◌≢◌, ℕ, ◌+◌, ◌/◌, ◌<◌, List, [], ◌++◌, length, slice_get, slice_set, true, false, Some, Result, Err}
use Rattle.pk_base.{specs.Key.Key, specs.Shape.Shape, specs.Shape.root_pages, specs.Page.Flash, specs.Page.page_at, specs.Page.whole as whole_page, specs.Entry.Entry, specs.Entry.Place, specs.Map.Map}
use Rattle.pk_law_work.specs.Backlog.{is_tight}
use Rattle.pk_nand.{specs.BoardState.BoardState, specs.Calls.Rose, specs.Effects.OneProgram, specs.Effects.OnlyReading, specs.declared.types.Fault.Fault}
use Rattle.pk_nand.specs.declared.types.Fault.TheVariants.{Reading}
use Rattle.pk_plan.specs.declared.owner.Owner.TheVariants.{Journal, Meta, Values}
use Rattle.pk_pool.{specs.declared.state.BlockState.TheVariants.Owned, specs.Blocks.Blocks, specs.Blocks.used_by}
use Rattle.pk_rootfmt.specs.Root.{Root}
use Rattle.pk_jrn.specs.Epochs.{left_of, next_page, before_half}
use Rattle.pk_model.{specs.Found.Found, specs.Laws.AnyByRecursion, specs.Growth.Reaches, specs.Growth.Goes, specs.Crashes.CrashFinds, specs.Crashes.background}
use Rattle.pk_law_steps.specs.Under.{places}
use Rattle.pk_law_moves.specs.Moves.{entries_of, moved}
use Rattle.pk_gc.{specs.declared.course.Course.Course, specs.declared.course.Phase.Phase, specs.declared.reclaimed.Reclaimed.Reclaimed, specs.Stepping.runs_in}
use Rattle.pk_gc.specs.declared.course.Phase.TheVariants.{Idle, Copies, Commits, GivesBack}
use Rattle.pk_gc.specs.declared.reclaimed.Reclaimed.TheVariants.{Worked, NeedsFreeze, Ended}
use Rattle.pk_gc.specs.Committing.{HasRoom as MovesHaveRoom, entries_left}
use Rattle.pk_reclaim.specs.Space.{ReclaimParts, SpaceOnFlash, MayReclaim, Falls, HasRoom}

-- these entries in the newest epoch
abbrev pub with_newest : Found → List Entry → Found
with_newest found newest = record found { newest = newest }

-- What is not for values is unchanged: the blocks of the journal and of runs, all pages of runs and root blocks, and those of the journal
-- but for the newest epoch.
pub record KeepsOthers (shape : Shape) (root : Root) (pool : Blocks) (old : Flash) (pool' : Blocks) (new : Flash) : Type 0 where
  pub shape_is : pool'.shape ≡ pool.shape
  pub journal : (b : ℕ) → slice_get pool.states b ≡ Some (Owned Journal) → slice_get pool'.states b ≡ Some (Owned Journal)
  pub journal_used : used_by Journal pool'.states ≡ used_by Journal pool.states
  pub meta : (b : ℕ) → slice_get pool.states b ≡ Some (Owned Meta) → slice_get pool'.states b ≡ Some (Owned Meta)
  pub meta_used : used_by Meta pool'.states ≡ used_by Meta pool.states
  pub low : (k : ℕ) → k < root_pages shape → page_at new k ≡ page_at old k
  pub meta_pages : (k : ℕ) → slice_get pool.states (k / shape.block_pages) ≡ Some (Owned Meta) → page_at new k ≡ page_at old k
  pub journal_pages : (k : ℕ) → slice_get pool.states (k / shape.block_pages) ≡ Some (Owned Journal)
      → (AnyByRecursion (λ b. k / shape.block_pages ≡ b) root.newest → ⊥) → page_at new k ≡ page_at old k

-- the second program of the moves' commit writes no further entry
abbrev pub StillIn : Phase → Found → List Entry → Type 0
StillIn Idle found newest = Unit {0}
StillIn (Copies c) found newest = Unit {0}
StillIn (Commits victim) found newest = newest ≡ found.newest
StillIn (GivesBack victim) found newest = Unit {0}

-- The map is the same, wherever the step is cut. Some values have moved, all in one commit of the newest epoch; no other entry was written.
pub record SpaceMoves (x : ReclaimParts) (old : BoardState) (top : ℕ × Root) (found : Found) (m : Map) (x' : ReclaimParts) (new : BoardState) : Type 0 where
  pub moves : List (Key × Place)
  pub newest : List Entry
  pub newest_is : newest ≡ found.newest ++ entries_of moves
  pub still : StillIn x.job.phase found newest
  pub then_places : places (with_newest found newest) [] ≡ moved moves (places found [])
  pub as_many : length (places (with_newest found newest) []) ≡ length (places found [])
  pub stands : SpaceOnFlash x' new.pages top (with_newest found newest) m
  pub others : KeepsOthers x.log.shape top.1 x.pool old.pages x'.pool new.pages
  pub cuts : Reaches x.log.shape old new (CrashFinds x.log.shape background old.pages m)

-- for whatever is there
abbrev pub ReclaimMoves : ReclaimParts → BoardState → ReclaimParts → BoardState → Type 0
ReclaimMoves x old x' new = (top : ℕ × Root) (found : Found) (m : Map) → MayReclaim x old.pages top found m → SpaceMoves x old top found m x' new

-- of the log only the entries of the active buffer and the commits of the newest epoch may differ
abbrev pub KeepsLog : ReclaimParts → ReclaimParts → Type 0
KeepsLog x x' = x'.log ≡ record x.log {
  active = record x.log.active { entries = x'.log.active.entries };
  epoch = record x.log.epoch { used = x'.log.epoch.used; half = x'.log.epoch.half };
}

-- ---- by its answer

-- from the first program of the moves' commit on there is room for every value
abbrev pub RoomIn : Phase → ReclaimParts → Type 0
RoomIn Idle x = Unit {0}
RoomIn (Copies c) x = Unit {0}
RoomIn (Commits victim) x = HasRoom x
RoomIn (GivesBack victim) x = HasRoom x

-- The second program gives the second page of the epoch's last commit the bytes of the first, and leaves all but the epoch, which is whole
-- then, and the phase and the page of the reclaim.
pub record MakesWhole (victim : ℕ) (x : ReclaimParts) (old : BoardState) (x' : ReclaimParts) (new : BoardState) : Type 0 where
  pub bytes : List ℕ
  pub first : page_at old.pages (next_page (before_half x.log.epoch)) ≡ whole_page bytes
  pub pages : new.pages ≡ slice_set old.pages (next_page (before_half x.log.epoch) + 1) (whole_page bytes)
  pub phase : x'.job.phase ≡ GivesBack victim
  pub log : x'.log ≡ record x.log { epoch = record x.log.epoch { half = false } }
  pub values : x'.values ≡ x.values
  pub pool : x'.pool ≡ x.pool

abbrev pub PairIn : Phase → ReclaimParts → BoardState → ReclaimParts → BoardState → Type 0
PairIn Idle x old x' new = Unit {0}
PairIn (Copies c) x old x' new = Unit {0}
PairIn (Commits victim) x old x' new = MakesWhole victim x old x' new
PairIn (GivesBack victim) x old x' new = Unit {0}

-- a commit that is half made is made whole by its second program alone, whether or not it fails
abbrev pub RepeatsIn : Phase → BoardState → BoardState → Result Reclaimed Fault → Type 0
RepeatsIn Idle old new result = Unit {0}
RepeatsIn (Copies c) old new result = Unit {0}
RepeatsIn (Commits victim) old new result = OneProgram old new × (result ≢ Err Reading)
RepeatsIn (GivesBack victim) old new result = Unit {0}

-- while values are copied the log is the same
abbrev pub LogIn : Phase → ReclaimParts → ReclaimParts → Type 0
LogIn Idle x x' = Unit {0}
LogIn (Copies c) x x' = x'.log ≡ x.log
LogIn (Commits victim) x x' = Unit {0}
LogIn (GivesBack victim) x x' = Unit {0}

-- A step was made of a reclaim that runs now.
pub record Works (x : ReclaimParts) (old : BoardState) (x' : ReclaimParts) (new : BoardState) : Type 0 where
  pub moves : ReclaimMoves x old x' new
  pub falls : Falls x x'
  pub runs : runs_in x'.job.phase ≡ true
  pub log : LogIn x'.job.phase x x'
  pub room : RoomIn x'.job.phase x'
  pub pair : PairIn x.job.phase x old x' new

-- if the moves were committed before, the log is the same, and values are where they were; otherwise there is room for every value
abbrev pub RoomBehind : Phase → ReclaimParts → ReclaimParts → Type 0
RoomBehind Idle x x' = HasRoom x'
RoomBehind (Copies c) x x' = HasRoom x'
RoomBehind (Commits victim) x x' = ⊥
RoomBehind (GivesBack victim) x x' = (x'.log ≡ x.log) × (x'.values ≡ x.values)

-- A block was freed, and no reclaim runs now.
pub record SpaceReclaimEnded (x : ReclaimParts) (old : BoardState) (x' : ReclaimParts) (new : BoardState) : Type 0 where
  pub moves : ReclaimMoves x old x' new
  pub falls : Falls x x'
  pub idle : x'.job.phase ≡ Idle
  pub given : used_by Values x'.pool.states + 1 ≡ used_by Values x.pool.states
  pub room : RoomBehind x.job.phase x x'

-- The moves of a reclaim find no room, in the active buffer or in the newest epoch, and nothing was done.
pub record WantsFreeze (x : ReclaimParts) (old : BoardState) (x' : ReclaimParts) (new : BoardState) : Type 0 where
  pub same : x' ≡ x
  pub board : new ≡ old
  pub course : Course
  pub copies : x.job.phase ≡ Copies course
  pub no_room : MovesHaveRoom x.log.active x.log.epoch (entries_left x.values.live.heads x.job.moves) → ⊥
  pub tight : is_tight x.log.shape (length x.log.active.entries) (left_of x.log.epoch) ≡ true

abbrev pub Does : ReclaimParts → BoardState → ReclaimParts → BoardState → Reclaimed → Type 0
Does x old x' new Worked = Works x old x' new
Does x old x' new NeedsFreeze = WantsFreeze x old x' new
Does x old x' new Ended = SpaceReclaimEnded x old x' new

-- ---- a call failed

-- A read failed: no more differs than the bytes of a page that is to be read again, and the step can be made again.
pub record Unread (x : ReclaimParts) (old : BoardState) (x' : ReclaimParts) (new : BoardState) : Type 0 where
  pub rest : x' ≡ record x { job = record x.job { page = x'.job.page } }
  pub again : (top : ℕ × Root) (found : Found) (m : Map) → MayReclaim x old.pages top found m → MayReclaim x' new.pages top found m
  pub only : OnlyReading old new
  pub read : Rose old.read_faults new.read_faults
  pub flash : Rose old.flash_faults new.flash_faults

-- a program or an erase failed: the map is the same, wherever it was cut
abbrev pub ReclaimBroken : ReclaimParts → BoardState → BoardState → Type 0
ReclaimBroken x old new =
    (top : ℕ × Root) (found : Found) (m : Map) → MayReclaim x old.pages top found m
    → Goes x.log.shape old new (CrashFinds x.log.shape background old.pages m)
