-- The commit of the moves that remain.
use Rattle.std.specs.Prelude.{◌≡◌, ◌≢◌, ℕ, ◌+◌, ◌<◌, ◌≤◌, List, [], length, count_by}
use Rattle.pk_base.specs.Entry.{Entry}
use Rattle.pk_nand.specs.BoardState.{BoardState}
use Rattle.pk_buf.specs.Table.{Table}
use Rattle.pk_jrn.{specs.Epochs.JournalEpoch, specs.Epochs.left_of as commits_left, specs.Appends.BeginsCommit, specs.Appends.FailsToBegin}
use Rattle.pk_law_moves.specs.Moves.{entries_of}
use Rattle.pk_gc.{specs.declared.moves.Move.Move, specs.declared.reclaimed.Committed.Committed, specs.State.placed_at, specs.State.left_of, specs.State.is_new}
use Rattle.pk_gc.specs.declared.reclaimed.Committed.TheVariants.{None, NeedsFreeze, All}

-- the entries of the moves whose old place is still live
abbrev pub entries_left : List ℕ → List Move → List Entry
entries_left heads moves = entries_of (placed_at (left_of heads moves))

-- how many of these entries have a key that the buffer does not hold
abbrev pub new_keys : Table → List Entry → ℕ
new_keys active es = count_by (is_new active.entries) es

-- the buffer has room for the entries, and the epoch a commit
abbrev pub HasRoom : Table → JournalEpoch → List Entry → Type 0
HasRoom active e es = (length active.entries + new_keys active es ≤ active.capacity) × (0 < commits_left e)

-- nothing is done to the epoch and the board
pub record EpochRests (e : JournalEpoch) (old : BoardState) (e' : JournalEpoch) (new : BoardState) : Type 0 where
  pub kept : e' ≡ e
  pub same : new ≡ old

-- There are entries, and no room for them.
pub record Refuses (es : List Entry) (active : Table) (e : JournalEpoch) (old : BoardState) (e' : JournalEpoch) (new : BoardState) : Type 0 where
  pub some : es ≢ []
  pub no_room : HasRoom active e es → ⊥
  pub rests : EpochRests e old e' new

-- There are entries, with room for them, and the first program of the epoch's next commit was made with them.
pub record Adds (es : List Entry) (active : Table) (e : JournalEpoch) (old : BoardState) (e' : JournalEpoch) (new : BoardState) : Type 0 where
  pub some : es ≢ []
  pub room : HasRoom active e es
  pub begins : BeginsCommit e es old e' new

-- There were entries, with room for them, and this program failed.
pub record FailsToAdd (es : List Entry) (active : Table) (e : JournalEpoch) (old new : BoardState) : Type 0 where
  pub some : es ≢ []
  pub room : HasRoom active e es
  pub fails : FailsToBegin e es old new

-- what became of these entries, by the answer
abbrev pub BecameOf : List Entry → Table → JournalEpoch → BoardState → JournalEpoch → BoardState → Committed → Type 0
BecameOf es active e old e' new None = (es ≡ []) × EpochRests e old e' new
BecameOf es active e old e' new NeedsFreeze = Refuses es active e old e' new
BecameOf es active e old e' new All = Adds es active e old e' new
