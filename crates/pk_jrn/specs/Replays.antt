-- An epoch that is read from a flash into a write buffer.
use Rattle.std.specs.Prelude.{◌≡◌, ◌⊎◌, ℕ, zero, suc, ◌+◌, ◌<◌, ◌≤◌, Bool, true, false, List, [], ◌∷◌, length, reverse, Some, Ok, Err}
use Rattle.std.{specs.FinMap.Entries.put, specs.List.AllByRecursion}
use Rattle.pk_base.{specs.Key.key_cmp, specs.Shape.Shape, specs.Shape.buffer, specs.Shape.epoch_commits, specs.Entry.Entry, specs.Entry.key_of, specs.EntryChecks.IsEntry, specs.Firsts.firsts}
use Rattle.pk_base.{specs.Page.Page, specs.Page.Flash, specs.Page.page_at, specs.Page.commit_page, specs.Page.commit_at, specs.Refusal.damaged}
use Rattle.pk_space.specs.Entries.{in_spaces}
use Rattle.pk_jrnfmt.{specs.Page.journal_entries, specs.Epoch.epoch}
use Rattle.pk_buf.specs.Table.{Table}
use Rattle.pk_nand.{specs.BoardState.BoardState, specs.Calls.Rose, specs.Counts.after_reads}
use Rattle.pk_jrn.{specs.declared.error.ReplayError.ReplayError, specs.declared.error.ReplayError.TheVariants.Damaged, specs.declared.error.ReplayError.TheVariants.Fault, specs.Epochs.HasCommit}
use Rattle.pk_pair.specs.Pairs.{reads_of_pair, PairReadFailed}

-- a write buffer that holds these entries, of which the later one of a key counts
abbrev pub buffer_of : Shape → List Entry → Table
buffer_of shape es = record { capacity = buffer shape; entries = firsts (reverse es) }

-- the reads of the commits before an index
abbrev pub reads_before : Shape → (ℕ → Page) → List ℕ → ℕ → ℕ
reads_before shape at blocks zero = 0
reads_before shape at blocks (suc i) = reads_before shape at blocks i + reads_of_pair (at (commit_page shape blocks i))

module _ (shape : Shape) (spaces number : ℕ) (blocks : List ℕ) where
  -- n commits were replayed: they are those before the first that has no page that is Whole, and the buffer holds the epoch's entries
  pub record Replayed (flash : Flash) (used : ℕ) (into : Table) : Type 0 where
    pub entries : List Entry
    pub read : epoch shape spaces (page_at flash) number blocks ≡ Ok entries
    pub held : into ≡ buffer_of shape entries
    pub each : AllByRecursion (IsEntry shape) entries
    pub within : used ≤ epoch_commits shape
    pub before : (j : ℕ) → j < used → HasCommit shape flash blocks j
    pub ends : used < epoch_commits shape → HasCommit shape flash blocks used → ⊥

  -- the reading of the epoch refuses with this page, after which nothing was read
  pub record ReplayRefused (old new : BoardState) (page : ℕ) : Type 0 where
    pub index : ℕ
    pub within : index < epoch_commits shape
    pub page_is : page ≡ (commit_at shape (page_at old.pages) blocks index).0
    pub read : epoch shape spaces (page_at old.pages) number blocks ≡ Err (damaged page)
    pub board : new ≡ after_reads (reads_before shape (page_at old.pages) blocks (index + 1)) old

  -- a read failed, after others that did not
  pub record ReplayFailed (old new : BoardState) : Type 0 where
    pub made : ℕ
    pub within : made < epoch_commits shape
    pub before : (j : ℕ) → j < made → HasCommit shape old.pages blocks j
    pub failed : PairReadFailed (after_reads (reads_before shape (page_at old.pages) blocks made) old) new (commit_page shape blocks made)
    pub flash : Rose old.flash_faults new.flash_faults
    pub read : Rose old.read_faults new.read_faults

  -- the cause of each refusal
  abbrev pub Refused : BoardState → BoardState → ReplayError → Type 0
  Refused old new (Damaged page) = ReplayRefused old new page
  Refused old new Fault = ReplayFailed old new

-- ---- inside

-- a table of entries after writes, one after another
abbrev pub puts : List Entry → List Entry → List Entry
puts [] table = table
puts (e ∷ es) table = puts es (put key_cmp (key_of e) e.1 table)

-- The entry was written, for which there was room; or there was none, and nothing was done.
abbrev pub PutOrFull : Table → Entry → Bool → Table → Type 0
PutOrFull old e true new = (new ≡ record old { entries = put key_cmp (key_of e) e.1 old.entries }) × (length new.entries ≤ old.capacity)
PutOrFull old e false new = (new ≡ old) × (old.capacity < length (put key_cmp (key_of e) e.1 old.entries))

-- The entries were written, for all of which there was room; or there is no room for all of them.
abbrev pub PutsOrFull : Table → List Entry → Bool → Table → Type 0
PutsOrFull old es true new = (new ≡ record old { entries = puts es old.entries }) × (length new.entries ≤ old.capacity)
PutsOrFull old es false new = (new.capacity ≡ old.capacity) × (old.capacity < length (puts es old.entries))

-- The entries of the epoch's commit of this index were written; or the bytes are none, or have an entry of another namespace, or there is no room for
-- all its entries.
abbrev pub TakesPage : Shape → ℕ → ℕ → ℕ → List ℕ → Table → Bool → Table → Type 0
TakesPage shape spaces number index page old true new =
    (es : List Entry) × (journal_entries shape number index page ≡ Some es) × (in_spaces spaces es ≡ true) × PutsOrFull old es true new
TakesPage shape spaces number index page old false new =
    (new.capacity ≡ old.capacity)
    × ((es : List Entry) → journal_entries shape number index page ≡ Some es → (in_spaces spaces es ≡ false) ⊎ (old.capacity < length (puts es old.entries)))
