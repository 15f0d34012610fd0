-- How many reads a replay of an epoch makes.
use Rattle.std.specs.Prelude.{ℕ, zero, suc, ◌+◌, ◌*◌, ◌/◌, List, length}
use Rattle.pk_base.{specs.Shape.Shape, specs.Page.Page, specs.Page.erased, specs.Page.whole, specs.Page.torn, specs.Page.commit_page, specs.Page.commit_at}
use Rattle.pk_pair.specs.Pairs.{reads_of_pair}

-- the reads go on after a commit if it has a page that is Whole
abbrev pub if_whole : Page → ℕ → ℕ
if_whole erased more = 0
if_whole (whole bytes) more = more
if_whole torn more = 0

-- the reads of n commits from an index on, up to the first that has no page that is Whole, and that one
abbrev pub reads_to_end : Shape → (ℕ → Page) → List ℕ → ℕ → ℕ → ℕ
reads_to_end shape at blocks i zero = 0
reads_to_end shape at blocks i (suc n) =
    reads_of_pair (at (commit_page shape blocks i)) + if_whole (commit_at shape at blocks i).1 (reads_to_end shape at blocks (i + 1) n)

-- an epoch is read up to its end; one without blocks is not read
abbrev pub epoch_reads : Shape → (ℕ → Page) → List ℕ → ℕ
epoch_reads shape at blocks = reads_to_end shape at blocks 0 (length blocks * (shape.block_pages / 2))
