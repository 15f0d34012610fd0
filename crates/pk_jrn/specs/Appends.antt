-- Entries that are added to an epoch.
use Rattle.std.specs.Prelude.{◌≡◌, ◌⊎◌, ℕ, ◌+◌, ◌≤◌, true, false, List, ◌++◌, Some}
use Rattle.pk_base.{specs.Page.Flash, specs.Page.page_at, specs.Page.whole, specs.Entry.Entry}
use Rattle.pk_jrnfmt.{specs.Epoch.may_follow, specs.Page.journal_bytes, specs.Page.journal_entries}
use Rattle.pk_nand.{specs.BoardState.BoardState, specs.Calls.after_program, specs.Calls.ProgramFailed, specs.Crash.SameOutside, specs.Crash.Reached, specs.Crash.Went}
use Rattle.pk_nand.specs.Pairs.{programs_of_pair, IsPairCut}
use Rattle.pk_jrn.specs.Epochs.{JournalEpoch, EpochOnFlash, next_page, before_half, Reads}

-- the bytes of the pages of the epoch's next commit, with these entries
abbrev pub next_bytes : JournalEpoch → List Entry → List ℕ
next_bytes e new = journal_bytes e.shape e.number e.used new

-- the programs of its next commit, with these entries
abbrev pub programs_of_commit : JournalEpoch → List Entry → List (ℕ × List ℕ)
programs_of_commit e new = programs_of_pair (next_page e) (next_bytes e new)

-- whatever the entries of the epoch were, if the new ones may follow them, they do now
abbrev pub AddsAll : JournalEpoch → List Entry → Flash → Flash → Type 0
AddsAll e new old flash =
    (spaces : ℕ) (before : List Entry) → Reads e spaces old before → may_follow e.shape spaces before new ≡ true → Reads e spaces flash (before ++ new)

-- whatever the entries of the epoch were, if the new ones may follow them: they are these still, or the new ones follow them, all of them
abbrev pub AddsAllOrNone : JournalEpoch → List Entry → Flash → Flash → Type 0
AddsAllOrNone e new old flash =
    (spaces : ℕ) (before : List Entry) → Reads e spaces old before → may_follow e.shape spaces before new ≡ true
    → Reads e spaces flash before ⊎ Reads e spaces flash (before ++ new)

-- What a cut of a commit leaves: no page but the two of the epoch's next commit differs, and all of the entries were added, or none.
pub record IsCommitCut (e : JournalEpoch) (new : List Entry) (old flash : Flash) : Type 0 where
  pub outside : SameOutside (next_page e) 2 old flash
  pub entries : AddsAllOrNone e new old flash

-- from one state of a board to a later one, every cut of the marks between them leaves this
abbrev pub CommitReached : JournalEpoch → List Entry → BoardState → BoardState → Type 0
CommitReached e new old now = Reached old now (λ flash _. IsCommitCut e new old.pages flash)

-- the same if the call may have stopped
abbrev pub CommitWent : JournalEpoch → List Entry → BoardState → BoardState → Type 0
CommitWent e new old now = Went old now (λ flash _. IsCommitCut e new old.pages flash)

-- ---- a commit in two calls

-- the bytes of the pages of the epoch's last commit, with these entries
abbrev pub last_bytes : JournalEpoch → List Entry → List ℕ
last_bytes e new = next_bytes (before_half e) new

-- The epoch's last commit is half made, of these entries: they are added already, and only its second page remains to be programmed. Before its
-- first page was, the epoch was on this flash.
pub record IsHalfMade (e : JournalEpoch) (new : List Entry) (former flash : Flash) : Type 0 where
  pub is_half : e.half ≡ true
  pub some : 1 ≤ e.used
  pub more : e.takes_more ≡ true
  pub stood : EpochOnFlash (before_half e) former
  pub fits : EpochOnFlash e flash
  pub cut : IsPairCut (next_page (before_half e)) (last_bytes e new) former flash
  pub here : page_at flash (next_page (before_half e)) ≡ whole (last_bytes e new)

-- the first program was made: the entries are added, and the second program is next
pub record BeginsCommit (e : JournalEpoch) (new : List Entry) (old : BoardState) (e' : JournalEpoch) (now : BoardState) : Type 0 where
  pub epoch_is : e' ≡ record e { used = e.used + 1; half = true }
  pub program : now ≡ after_program old (next_page e) (next_bytes e new)
  pub spells : journal_entries e.shape e.number e.used (next_bytes e new) ≡ Some new
  pub half : IsHalfMade e' new old.pages now.pages
  pub list : AddsAll e new old.pages now.pages
  pub cuts : CommitReached e new old now

-- the second program was made; its cuts are seen from the flash before the first
pub record EndsCommit (e : JournalEpoch) (new : List Entry) (old : BoardState) (e' : JournalEpoch) (now : BoardState) : Type 0 where
  pub epoch_is : e' ≡ record e { half = false }
  pub program : now ≡ after_program old (next_page (before_half e) + 1) (last_bytes e new)
  pub fits : EpochOnFlash e' now.pages
  pub list : (former : Flash) → IsHalfMade e new former old.pages → AddsAll (before_half e) new former now.pages
  pub cuts : (former : Flash) → IsHalfMade e new former old.pages → Reached old now (λ flash _. IsCommitCut (before_half e) new former flash)

-- the first program failed
pub record FailsToBegin (e : JournalEpoch) (new : List Entry) (old now : BoardState) : Type 0 where
  pub failed : ProgramFailed old now (next_page e) (next_bytes e new)
  pub spells : journal_entries e.shape e.number e.used (next_bytes e new) ≡ Some new
  pub cuts : CommitWent e new old now

-- the second program failed
pub record FailsToEnd (e : JournalEpoch) (new : List Entry) (old now : BoardState) : Type 0 where
  pub failed : ProgramFailed old now (next_page (before_half e) + 1) (last_bytes e new)
  pub cuts : (former : Flash) → IsHalfMade e new former old.pages → Went old now (λ flash _. IsCommitCut (before_half e) new former flash)
