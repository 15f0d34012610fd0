-- What each part of a step asks, and what it answers.
use Rattle.std.specs.Prelude.{◌≡◌, ℕ, ◌-◌, ◌*◌, ◌<◌, List, [], ◌∷◌, ◌++◌, length, Option, MatchOption}
use Rattle.pk_base.{specs.Key.Key, specs.Shape.Shape, specs.Shape.charge, specs.Shape.dense, specs.Page.Flash, specs.Entry.Entry, specs.Entry.Place}
use Rattle.pk_nand.{specs.BoardState.BoardState, specs.Operations.after_read, specs.Operations.ReadFailed, specs.declared.types.Fault.Fault}
use Rattle.pk_nand.specs.declared.types.Fault.TheVariants.{Reading, Stopped}
use Rattle.pk_live.{specs.Values.Values, specs.Values.IsClosed, specs.Values.block_sum, specs.declared.open_block.OpenBlock.OpenBlock}
use Rattle.pk_buf.specs.Table.{Table}
use Rattle.pk_jrn.specs.Epochs.{JournalEpoch, AreBlocks, EpochOnFlash}
use Rattle.pk_pool.specs.Blocks.{Blocks, IsOwned, PoolOnFlash}
use Rattle.pk_gc.{specs.declared.course.Course.Course, specs.declared.course.Phase.TheVariants.Idle, specs.declared.course.Phase.TheVariants.Copies, specs.declared.course.Phase.TheVariants.Commits}
use Rattle.pk_gc.{specs.declared.moves.Move.Move, specs.declared.reclaimed.Reclaimed.Reclaimed, specs.declared.reclaimed.Committed.Committed, specs.Victims.IsFull, specs.Committing.FailsToAdd}
use Rattle.pk_gc.specs.declared.reclaimed.Reclaimed.TheVariants.{Worked, NeedsFreeze, Ended}
use Rattle.pk_gc.specs.declared.reclaimed.Committed.TheVariants.{None as NoneLeft, NeedsFreeze as NoRoom, All}
use Rattle.pk_gc.{specs.State.JobState, specs.State.CanGoAll, specs.State.heads_all, specs.State.begun_at, specs.Running.IsRunning, specs.Running.IsNextValue, specs.Running.begun_move}
use Rattle.pk_gc.specs.Stepping.{Hands, moved_in, handed_over, victim_given}

-- the parts that a step is handed
abbrev pub hands_of : Values → Option OpenBlock → Blocks → Table → JournalEpoch → Hands
hands_of live front pool active epoch =
    record { live = live; front = front; pool = pool; active = active; epoch = epoch }

-- No reclaim runs, and one may begin.
pub record MayStart (job : JobState) (live : Values) (front : Option OpenBlock) (pool : Blocks)
    (flash : Flash) : Type 0 where
  pub none : job.phase ≡ Idle
  pub shape_is : pool.shape ≡ job.shape
  pub full : IsFull job.shape live front pool
  pub fits : PoolOnFlash pool flash

-- The values of a victim are being copied.
pub record MayCopy (c : Course) (job : JobState) (flash : Flash) : Type 0 where
  pub phase_is : job.phase ≡ Copies c
  pub es : List (Key × Place)
  pub runs : IsRunning job.shape c job.moves job.page flash es

-- a copy that runs does so with this course and page, too, after what was done to the flash
abbrev pub ReclaimRunsOn : Course → JobState → Flash → Course → List ℕ → Flash → Type 0
ReclaimRunsOn c job flash c' page' flash' =
    (es : List (Key × Place)) → IsRunning job.shape c job.moves job.page flash es
    → IsRunning job.shape c' job.moves page' flash' es

-- The next value begins at this page, and there is room for its move.
pub record MayBegin (c : Course) (job : JobState) (flash : Flash) (page : ℕ) : Type 0 where
  pub phase_is : job.phase ≡ Copies c
  pub whole : c.left ≡ 0
  pub room : length job.moves < dense job.shape
  pub es : List (Key × Place)
  pub key : Key
  pub place : Place
  pub runs : IsRunning job.shape c job.moves job.page flash es
  pub next : IsNextValue job.shape c flash es page key place

-- the copy if the value that begins at this page, of this length, is noted
abbrev pub begun_course : Course → Shape → ℕ → ℕ → Course
begun_course c shape page len =
    begun_at c (page - c.victim * shape.block_pages) (charge shape len)

abbrev pub begun_moves : Course → JobState → ℕ → Key → ℕ → List Move
begun_moves c job page key len = job.moves ++ begun_move job.shape c page key len ∷ []

-- The first page of the value that begins at this page was read, and the value is noted.
pub record ReadsFirst (c : Course) (job : JobState) (page : ℕ) (old : BoardState)
    (job' : JobState) (new : BoardState) : Type 0 where
  pub job_is : (es : List (Key × Place)) (key : Key) (place : Place)
      → IsNextValue job.shape c old.pages es page key place
      → job' ≡ record job {
        phase = Copies (begun_course c job.shape page place.len);
        moves = begun_moves c job page key place.len;
        entries = [];
        page = job'.page;
      }
  pub board : new ≡ after_read old
  pub runs : (es : List (Key × Place)) (key : Key) (place : Place)
      → IsRunning job.shape c job.moves job.page old.pages es
      → IsNextValue job.shape c old.pages es page key place
      → IsRunning job.shape (begun_course c job.shape page place.len)
      (begun_moves c job page key place.len) job'.page new.pages es

-- The read of this page failed.
pub record CannotRead (page : ℕ) (old new : BoardState) (e : Fault) : Type 0 where
  pub fault : e ≡ Reading
  pub failed : ReadFailed old new page

-- an epoch of this shape is on the flash
pub record IsEpoch (shape : Shape) (e : JournalEpoch) (flash : Flash) : Type 0 where
  pub shape_is : e.shape ≡ shape
  pub fits : EpochOnFlash e flash
  pub blocks : AreBlocks e.shape e.blocks

-- The first program of a commit of these entries failed, and the epoch is unchanged.
pub record CannotAdd (es : List Entry) (active : Table) (epoch : JournalEpoch) (old : BoardState)
    (epoch' : JournalEpoch) (new : BoardState) (e : Fault) : Type 0 where
  pub fault : e ≡ Stopped
  pub kept : epoch' ≡ epoch
  pub adds : FailsToAdd es active epoch old new

-- the job as before; if the commit of its moves is half made, with these entries and in its page
abbrev pub IsBehindCommit : Committed → ℕ → List Entry → JobState → JobState → Type 0
IsBehindCommit All victim es job job' = job' ≡ record job { phase = Commits victim; entries = es; page = job'.page }
IsBehindCommit _ victim es job job' = job' ≡ job

-- The output may take the victim's place, by what became of the moves.
pub record CanFinish (committed : Committed) (c : Course) (job : JobState) (live : Values)
    (front : Option OpenBlock) (pool : Blocks) (active : Table) : Type 0 where
  pub goes : committed ≡ All
      → CanGoAll live.block_pages active.capacity live.heads active.entries job.moves
  pub none : committed ≡ NoneLeft → heads_all live.heads job.moves ≡ live.heads
  pub closed : IsClosed live c.victim
  pub empty : block_sum (heads_all live.heads job.moves) live.block_pages c.victim ≡ 0
  pub owned : IsOwned pool c.victim
  pub open_exists : MatchOption front (Unit {0}) (λ o. o.block < length live.closed)

-- what the end made of job and parts, by what became of the moves
abbrev pub ReclaimFinished : Committed → Course → JobState → Hands → JobState → Hands → Reclaimed → Type 0
ReclaimFinished NoneLeft c job h job' h' r =
    (r ≡ Ended) × (job' ≡ record job { phase = Idle; entries = [] })
    × (h' ≡ victim_given c.victim (handed_over c h))
ReclaimFinished NoRoom c job h job' h' r = (r ≡ NeedsFreeze) × (job' ≡ job) × (h' ≡ h)
ReclaimFinished All c job h job' h' r =
    (r ≡ Worked) × (job' ≡ job) × (h' ≡ handed_over c (moved_in job h))
