-- What memory keeps of a journal.
use Rattle.std.specs.Prelude.{ℕ, ◌+◌, List, [], ◌∷◌, ◌++◌, length, Bool, ◌&&◌, ◌||◌, not, ◌==◌, Option, is_some}
use Rattle.std.specs.FinMap.Entries.{find, put}
use Rattle.pk_base.{specs.Choices.or_else, specs.Key.Key, specs.Key.key_cmp, specs.Shape.Shape, specs.Entry.Entry, specs.Entry.Place, specs.Entry.key_of}
use Rattle.pk_rootfmt.{specs.Root.Root, specs.Held.Held}
use Rattle.pk_root.{specs.declared.next.Next.Next, specs.declared.next.Next.TheVariants.Erase}
use Rattle.pk_buf.specs.Table.{Table}
use Rattle.pk_jrn.specs.Epochs.{JournalEpoch, left_of}

-- The shape, the newest root and what its installer does next, the epoch that is written, the buffers of the newest and of the
-- older epoch, and the entries that wait for a commit, which the buffer of the newest epoch has already.
pub record LogState : Type 0 where
  pub shape : Shape
  pub root : Root
  pub next : Next
  pub epoch : JournalEpoch
  pub active : Table
  pub frozen : Table
  pub pending : List Entry

-- after a root that was found in this page, nothing is pending
abbrev pub opened : Held → ℕ → JournalEpoch → Table → Table → LogState
opened held page epoch active frozen = record { shape = held.shape; root = held.root; next = Erase page; epoch = epoch; active = active; frozen = frozen; pending = [] }

-- what the buffers say of a key: the active one, or else the frozen one
abbrev pub entry_of : LogState → Key → Option (Option Place)
entry_of log key = or_else (find key_cmp key log.active.entries) (find key_cmp key log.frozen.entries)

-- a buffer is full and has no entry of the key
abbrev pub is_full_for : Table → Key → Bool
is_full_for table key = (length table.entries == table.capacity) && not (is_some (find key_cmp key table.entries))

-- A further entry of this key needs a freeze before it: the active buffer is full for it, or the entry would be the first one
-- pending and the epoch takes no more commits.
abbrev pub needs_freeze : LogState → Key → Bool
needs_freeze log key = is_full_for log.active key || ((length log.pending == 0) && (left_of log.epoch == 0))

-- with one more entry that waits
abbrev pub pushed : LogState → Entry → LogState
pushed log e = record log { active = record log.active { entries = put key_cmp (key_of e) e.1 log.active.entries }; pending = log.pending ++ e ∷ [] }

-- with all pending entries in the next commit of the epoch
abbrev pub all_committed : LogState → LogState
all_committed log = record log { epoch = record log.epoch { used = log.epoch.used + 1 }; pending = [] }
