-- An epoch of the journal: its commits, how many it has, and how it matches a flash.
use Rattle.std.specs.Prelude.{◌≡◌, ◌≢◌, ℕ, ◌-◌, ◌*◌, ◌<◌, ◌≤◌, Bool, true, false, if◌then◌else◌, List, length, slice_index, Ok}
use Rattle.pk_base.{specs.Shape.Shape, specs.Shape.epoch_pages, specs.Shape.epoch_commits, specs.Entry.Entry}
use Rattle.pk_base.specs.Page.{Flash, page_at, erased, whole, page_in, commit_page, commit_at}
use Rattle.pk_nand.specs.Operations.{IsErasedBlock}
use Rattle.pk_jrnfmt.specs.Epoch.{epoch}

-- Its number, its blocks in their order, how many commits it has, and whether it takes more. The last commit may be half made: of its pages
-- the first one is programmed and not yet the second.
pub record JournalEpoch : Type 0 where
  pub shape : Shape
  pub number : ℕ
  pub blocks : List ℕ
  pub used : ℕ
  pub takes_more : Bool
  pub half : Bool

-- an epoch without a commit
abbrev pub started : Shape → ℕ → List ℕ → JournalEpoch
started shape number blocks = record { shape = shape; number = number; blocks = blocks; used = 0; takes_more = true; half = false }

-- an epoch as it is found at opening: it takes no more commits
abbrev pub found_at_opening : Shape → ℕ → List ℕ → ℕ → JournalEpoch
found_at_opening shape number blocks used = record { shape = shape; number = number; blocks = blocks; used = used; takes_more = false; half = false }

-- how many more commits it takes
abbrev pub left_of : JournalEpoch → ℕ
left_of e = if e.takes_more then epoch_commits e.shape - e.used else 0

-- the pages of its commits that are programmed
abbrev pub pages_of : JournalEpoch → ℕ
pages_of e = if e.half then 2 * e.used - 1 else 2 * e.used

-- the first page of its next commit
abbrev pub next_page : JournalEpoch → ℕ
next_page e = commit_page e.shape e.blocks e.used

-- the epoch before its last commit was begun
abbrev pub before_half : JournalEpoch → JournalEpoch
before_half e = record e { used = e.used - 1; half = false }

-- the blocks of an epoch are blocks of the flash
abbrev pub AllExist : Shape → List ℕ → Type 0
AllExist shape blocks = (n : ℕ) → n < 2 → slice_index blocks n < shape.blocks

-- and they are two different ones
pub record AreBlocks (shape : Shape) (blocks : List ℕ) : Type 0 where
  pub exist : AllExist shape blocks
  pub different : slice_index blocks 0 ≢ slice_index blocks 1

-- the epoch of these blocks has a commit of this index: the page by which it is read is Whole
abbrev pub HasCommit : Shape → Flash → List ℕ → ℕ → Type 0
HasCommit shape flash blocks j = (bytes : List ℕ) × ((commit_at shape (page_at flash) blocks j).1 ≡ whole bytes)

-- both blocks of an epoch are Erased
abbrev pub AreErased : Shape → Flash → List ℕ → Type 0
AreErased shape flash blocks = (n : ℕ) → n < 2 → IsErasedBlock shape flash (slice_index blocks n)

-- The epoch's commits can be read; if it takes more, their pages are programmed, and all pages after them are Erased.
pub record EpochOnFlash (e : JournalEpoch) (flash : Flash) : Type 0 where
  pub two : length e.blocks ≡ 2
  pub within : e.used ≤ epoch_commits e.shape
  pub before : (j : ℕ) → j < e.used → HasCommit e.shape flash e.blocks j
  pub filled : e.takes_more ≡ true → (j : ℕ) → j < pages_of e → page_at flash (page_in e.shape e.blocks j) ≢ erased
  pub behind : e.takes_more ≡ true → (j : ℕ) → pages_of e ≤ j → j < epoch_pages e.shape → page_at flash (page_in e.shape e.blocks j) ≡ erased

-- these are the entries of the epoch of this flash, in a drive with n namespaces
abbrev pub Reads : JournalEpoch → ℕ → Flash → List Entry → Type 0
Reads e spaces flash es = epoch e.shape spaces (page_at flash) e.number e.blocks ≡ Ok es
