-- A step of a reclaim: when it may be made, and what it does.
use Rattle.std.specs.Prelude.{◌≡◌, ◌⊎◌, ℕ, ◌+◌, ◌-◌, ◌*◌, ◌<◌, ◌≤◌, List, [], ◌∷◌, ◌++◌, length, slice_index, slice_set, Bool, true, false, Option, Some, MatchOption}
use Rattle.std.specs.List.{AllByRecursion}
use Rattle.pk_base.{specs.Key.Key, specs.Shape.charge, specs.Shape.dense, specs.Shape.page_entries, specs.Page.Flash, specs.Entry.Place, specs.EntryChecks.IsEntry}
use Rattle.pk_nand.{specs.BoardState.BoardState, specs.Calls.after_program, specs.Operations.after_read}
use Rattle.pk_live.{specs.Values.Values, specs.Values.IsClosed, specs.Values.block_sum, specs.declared.open_block.OpenBlock.OpenBlock, specs.OpenBlocks.closed_with}
use Rattle.pk_buf.specs.Table.{Table}
use Rattle.pk_jrn.{specs.Epochs.JournalEpoch, specs.Appends.IsHalfMade, specs.Appends.EndsCommit}
use Rattle.pk_pool.{specs.declared.state.BlockState.TheVariants.Free, specs.Blocks.Blocks, specs.Blocks.IsOwned, specs.Blocks.with_state}
use Rattle.pk_gc.{specs.declared.course.Course.Course, specs.declared.course.Phase.Phase, specs.declared.reclaimed.Reclaimed.Reclaimed, specs.Victims.IsFull, specs.Victims.AreDead}
use Rattle.pk_gc.specs.declared.course.Phase.TheVariants.{Idle, Copies, Commits, GivesBack}
use Rattle.pk_gc.specs.declared.reclaimed.Reclaimed.TheVariants.{Worked, NeedsFreeze, Ended}
use Rattle.pk_gc.specs.State.{JobState, CanGoAll, heads_all, entries_all, source, target, read_next, programmed, begun_at}
use Rattle.pk_gc.{specs.Running.IsRunning, specs.Running.IsNextValue, specs.Running.begun_move, specs.Beginning.Begins}
use Rattle.pk_gc.specs.Committing.{Refuses, Adds, HasRoom, entries_left}

-- the parts that a step is handed: the live values, the open block, the blocks, the active buffer and the newest epoch
pub record Hands : Type 0 where
  pub live : Values
  pub front : Option OpenBlock
  pub pool : Blocks
  pub active : Table
  pub epoch : JournalEpoch

-- The output may replace the victim once the remaining moves are made: the victim is closed, and no live page remains in it then.
pub record CanEnd (c : Course) (job : JobState) (h : Hands) : Type 0 where
  pub goes : HasRoom h.active h.epoch (entries_left h.live.heads job.moves) → CanGoAll h.live.block_pages h.active.capacity h.live.heads h.active.entries job.moves
  pub closed : IsClosed h.live c.victim
  pub empty : block_sum (heads_all h.live.heads job.moves) h.live.block_pages c.victim ≡ 0
  pub none : entries_left h.live.heads job.moves ≡ [] → heads_all h.live.heads job.moves ≡ h.live.heads
  pub owned : IsOwned h.pool c.victim
  pub open_exists : MatchOption h.front (Unit {0}) (λ o. o.block < length h.live.closed)

-- the hands if the moves that remain are made
abbrev pub moved_in : JobState → Hands → Hands
moved_in job h = record h {
  live = record h.live { heads = heads_all h.live.heads job.moves };
  active = record h.active { entries = entries_all h.live.heads h.active.entries job.moves };
}

-- the hands if the victim is closed no more, and the output is the open block
abbrev pub handed_over : Course → Hands → Hands
handed_over c h = record h {
  live = record h.live { closed = closed_with h.front (slice_set h.live.closed c.victim false) };
  front = Some (record { block = c.output; used = c.used });
}

-- the hands if the victim is freed
abbrev pub victim_given : ℕ → Hands → Hands
victim_given victim h = record h { pool = with_state h.pool victim Free }

-- The remaining moves are in the epoch from the first program of its next commit on, and the output is the open block.
pub record CommitsMoves (c : Course) (job : JobState) (h : Hands) (old : BoardState) (job' : JobState) (h' : Hands) (new : BoardState) : Type 0 where
  pub job_is : job' ≡ record job { phase = Commits c.victim; entries = entries_left h.live.heads job.moves; page = job'.page }
  pub adds : Adds (entries_left h.live.heads job.moves) h.active h.epoch old h'.epoch new
  pub hands : h' ≡ record (handed_over c (moved_in job h)) { epoch = h'.epoch }

-- No move remained, and the victim was freed without a flash operation.
pub record EndsWithout (c : Course) (job : JobState) (h : Hands) (old : BoardState) (job' : JobState) (h' : Hands) (new : BoardState) : Type 0 where
  pub job_is : job' ≡ record job { phase = Idle; entries = [] }
  pub none : entries_left h.live.heads job.moves ≡ []
  pub hands : h' ≡ victim_given c.victim (handed_over c h)
  pub board : new ≡ old

-- what a commit of the moves did, by its answer
abbrev pub Finishes : Course → JobState → Hands → BoardState → JobState → Hands → BoardState → Reclaimed → Type 0
Finishes c job h old job' h' new Worked = CommitsMoves c job h old job' h' new
Finishes c job h old job' h' new NeedsFreeze = (job' ≡ job) × (h' ≡ h) × Refuses (entries_left h.live.heads job.moves) h.active h.epoch old h'.epoch new
Finishes c job h old job' h' new Ended = EndsWithout c job h old job' h' new

-- ---- steps

-- A value begins at the first head that was not seen, and is to be copied next; if there is no head, the moves can be made.
pub record CanGoOn (c : Course) (job : JobState) (h : Hands) (flash : Flash) : Type 0 where
  pub es : List (Key × Place)
  pub runs : IsRunning job.shape c job.moves job.page flash es
  pub no_half : h.epoch.half ≡ false
  pub next : c.left ≡ 0 → (page : ℕ) → source job.shape c ≤ page → page < c.victim * job.shape.block_pages + job.shape.block_pages → 0 < slice_index h.live.heads page → AreDead h.live.heads (source job.shape c) page
      → (length job.moves < dense job.shape) × ((key : Key) × (place : Place) × IsNextValue job.shape c flash es page key place × (slice_index h.live.heads page ≡ charge job.shape place.len))
  pub end : c.left ≡ 0 → AreDead h.live.heads (source job.shape c) (c.victim * job.shape.block_pages + job.shape.block_pages) → CanEnd c job h

-- The first page of the epoch's last commit is programmed with the job's entries, and its second page can be.
pub record IsHalfCommitted (job : JobState) (e : JournalEpoch) (former flash : Flash) : Type 0 where
  pub some : 1 ≤ length job.entries
  pub most : length job.entries ≤ page_entries job.shape
  pub each : AllByRecursion (IsEntry job.shape) job.entries
  pub half : IsHalfMade e job.entries former flash

-- a reclaim may start, its copy can go on, the commit of its moves can be made whole, or its victim can be freed
abbrev pub CanStepIn : Phase → JobState → Hands → Flash → Type 0
CanStepIn Idle job h flash = IsFull job.shape h.live h.front h.pool
CanStepIn (Copies c) job h flash = CanGoOn c job h flash
CanStepIn (Commits victim) job h flash = (former : Flash) × IsHalfCommitted job h.epoch former flash
CanStepIn (GivesBack victim) job h flash = IsOwned h.pool victim

abbrev pub CanStep : JobState → Hands → Flash → Type 0
CanStep job h flash = CanStepIn job.phase job h flash

-- the page that was read is programmed
pub record ProgramsHeld (c : Course) (job : JobState) (old : BoardState) (job' : JobState) (new : BoardState) : Type 0 where
  pub held : c.held ≡ true
  pub job_is : job' ≡ record job { phase = Copies (programmed c); entries = [] }
  pub board : new ≡ after_program old (target job.shape c) job.page

-- the next page of the value is read
pub record ReadsNext (c : Course) (job : JobState) (old : BoardState) (job' : JobState) (new : BoardState) : Type 0 where
  pub free : c.held ≡ false
  pub some : 0 < c.left
  pub job_is : job' ≡ record job { phase = Copies (read_next c); entries = []; page = job'.page }
  pub board : new ≡ after_read old
  pub runs : (es : List (Key × Place)) → IsRunning job.shape c job.moves job.page old.pages es → IsRunning job.shape (read_next c) job.moves job'.page new.pages es

-- the first page of the next value is read
pub record BeginsValue (c : Course) (job : JobState) (h : Hands) (old : BoardState) (job' : JobState) (new : BoardState) : Type 0 where
  pub free : c.held ≡ false
  pub whole : c.left ≡ 0
  pub page : ℕ
  pub head : 0 < slice_index h.live.heads page
  pub inside : (source job.shape c ≤ page) × (page < c.victim * job.shape.block_pages + job.shape.block_pages)
  pub first : AreDead h.live.heads (source job.shape c) page
  pub job_is : (es : List (Key × Place)) (key : Key) (place : Place) → IsNextValue job.shape c old.pages es page key place
      → job' ≡ record job { phase = Copies (begun_at c (page - c.victim * job.shape.block_pages) (charge job.shape place.len)); moves = job.moves ++ begun_move job.shape c page key place.len ∷ []; entries = []; page = job'.page }
  pub board : new ≡ after_read old
  pub runs : (es : List (Key × Place)) (key : Key) (place : Place) → IsRunning job.shape c job.moves job.page old.pages es → IsNextValue job.shape c old.pages es page key place
      → IsRunning job.shape (begun_at c (page - c.victim * job.shape.block_pages) (charge job.shape place.len)) (job.moves ++ begun_move job.shape c page key place.len ∷ []) job'.page new.pages es

-- no value remains to be copied, and the end is tried
pub record Tries (c : Course) (job : JobState) (h : Hands) (old : BoardState) (job' : JobState) (h' : Hands) (new : BoardState) (r : Reclaimed) : Type 0 where
  pub free : c.held ≡ false
  pub whole : c.left ≡ 0
  pub dead : AreDead h.live.heads (source job.shape c) (c.victim * job.shape.block_pages + job.shape.block_pages)
  pub finishes : Finishes c job h old job' h' new r

-- a step of a reclaim that runs: a copy, or the end
abbrev pub ReclaimGoesOn : Course → JobState → Hands → BoardState → JobState → Hands → BoardState → Reclaimed → Type 0
ReclaimGoesOn c job h old job' h' new r =
    ((r ≡ Worked) × (h' ≡ h) × (ProgramsHeld c job old job' new ⊎ (ReadsNext c job old job' new ⊎ BeginsValue c job h old job' new)))
    ⊎ Tries c job h old job' h' new r

-- the second page of the moves' commit is programmed
pub record EndsMoves (victim : ℕ) (job : JobState) (h : Hands) (old : BoardState) (job' : JobState) (h' : Hands) (new : BoardState) (r : Reclaimed) : Type 0 where
  pub answer : r ≡ Worked
  pub job_is : job' ≡ record job { phase = GivesBack victim; entries = []; page = job'.page }
  pub ends : EndsCommit h.epoch job.entries old h'.epoch new
  pub hands : h' ≡ record h { epoch = h'.epoch }

-- the victim is freed
pub record GivesVictim (victim : ℕ) (job : JobState) (h : Hands) (old : BoardState) (job' : JobState) (h' : Hands) (new : BoardState) (r : Reclaimed) : Type 0 where
  pub answer : r ≡ Ended
  pub job_is : job' ≡ record job { phase = Idle; entries = [] }
  pub hands : h' ≡ victim_given victim h
  pub board : new ≡ old

abbrev pub StepsIn : Phase → JobState → Hands → BoardState → JobState → Hands → BoardState → Reclaimed → Type 0
StepsIn Idle job h old job' h' new r = Begins job h.live h.front h.pool old job' h'.live h'.front h'.pool new r × (h'.active ≡ h.active) × (h'.epoch ≡ h.epoch)
StepsIn (Copies c) job h old job' h' new r = ReclaimGoesOn c job h old job' h' new r
StepsIn (Commits victim) job h old job' h' new r = EndsMoves victim job h old job' h' new r
StepsIn (GivesBack victim) job h old job' h' new r = GivesVictim victim job h old job' h' new r

-- what a step did, by what the reclaim was to do
abbrev pub Steps : JobState → Hands → BoardState → JobState → Hands → BoardState → Reclaimed → Type 0
Steps job h old job' h' new r = StepsIn job.phase job h old job' h' new r

-- whether a reclaim runs
abbrev pub runs_in : Phase → Bool
runs_in Idle = false
runs_in (Copies c) = true
runs_in (Commits victim) = true
runs_in (GivesBack victim) = true
