-- What calls of other crates leave of an epoch: the statements.
use Rattle.std.specs.Prelude.{◌≡◌, ◌≢◌, ℕ, ◌+◌, ◌*◌, ◌<◌, ◌≤◌, List, length, slice_index}
use Rattle.pk_base.{specs.Shape.Shape, specs.Shape.IsShape, specs.Page.Flash, specs.Page.page_at}
use Rattle.pk_nand.specs.Crash.{SameOutside}
use Rattle.pk_jrnfmt.specs.Epoch.{epoch}
use Rattle.pk_jrn.specs.Epochs.{JournalEpoch, EpochOnFlash}

-- no page of this block differs
abbrev pub SameInBlock : Shape → ℕ → Flash → Flash → Type 0
SameInBlock shape b old new = (k : ℕ) → b * shape.block_pages ≤ k → k < b * shape.block_pages + shape.block_pages → page_at new k ≡ page_at old k

-- no page of the two blocks differs
abbrev pub SameBlocks : Shape → List ℕ → Flash → Flash → Type 0
SameBlocks shape blocks old new = (n : ℕ) → n < 2 → SameInBlock shape (slice_index blocks n) old new

-- if no page of its blocks differs, the epoch fits as before
abbrev pub FitsElsewhere : Type 0
FitsElsewhere = (e : JournalEpoch) (old new : Flash) → IsShape e.shape → SameBlocks e.shape e.blocks old new → EpochOnFlash e old → EpochOnFlash e new

-- and its entries, or its refusal, are the same
abbrev pub ReadsElsewhere : Type 0
ReadsElsewhere =
    (shape : Shape) (spaces number : ℕ) (blocks : List ℕ) (old new : Flash) → IsShape shape → length blocks ≡ 2 → SameBlocks shape blocks old new
    → epoch shape spaces (page_at new) number blocks ≡ epoch shape spaces (page_at old) number blocks

-- if nothing differs outside some pages of another block, no page of the two blocks differs
abbrev pub ChangesElsewhere : Type 0
ChangesElsewhere =
    (shape : Shape) (blocks : List ℕ) (old new : Flash) (b first count : ℕ) → ((n : ℕ) → n < 2 → slice_index blocks n ≢ b)
    → b * shape.block_pages ≤ first → first + count ≤ b * shape.block_pages + shape.block_pages
    → SameOutside first count old new → SameBlocks shape blocks old new
