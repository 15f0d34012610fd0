-- How many pages opening reads, by what is on the flash.
use Rattle.std.specs.Prelude.{ℕ, ◌+◌, ◌*◌, List, [], ◌∷◌, nat_le, if◌then◌else◌, Option, Some, None, Result, Ok, Err}
use Rattle.pk_base.{specs.Key.Key, specs.Shape.Shape, specs.Shape.charge, specs.Shape.root_pages, specs.Shape.pinned, specs.Shape.run_pages, specs.Entry.Place, specs.Refusal.Refusal}
use Rattle.pk_base.specs.Page.{Page, Flash, page_at}
use Rattle.pk_rootfmt.{specs.Root.Root, specs.Newest.newest_root}
use Rattle.pk_model.specs.Found.{Found, found_under}
use Rattle.pk_jrn.specs.EpochReads.{epoch_reads}
use Rattle.pk_law_steps.specs.Under.{places}

-- The runs from this level on are read once for the first keys of their pages, and if they have no frames once more for their
-- entries.
abbrev pub run_reads : Shape → ℕ → ℕ → List ℕ → ℕ
run_reads shape pinned level [] = 0
run_reads shape pinned level (count ∷ counts) = (if nat_le level pinned then 1 else 2) * run_pages shape count + run_reads shape pinned (level + 1) counts

-- each page of the runs is read once
abbrev pub pages_of_runs : Shape → List ℕ → ℕ
pages_of_runs shape [] = 0
pages_of_runs shape (count ∷ counts) = run_pages shape count + pages_of_runs shape counts

-- both epochs are read up to their ends, and each page of the runs once
abbrev pub list_reads : Shape → (ℕ → Page) → Root → ℕ
list_reads shape at root = epoch_reads shape at root.older + epoch_reads shape at root.newest + pages_of_runs shape root.counts

-- each page of these values is read
abbrev pub value_reads : Shape → List (Key × Place) → ℕ
value_reads shape [] = 0
value_reads shape (e ∷ es) = charge shape e.1.len + value_reads shape es

-- all reads under a root: the pages of the root blocks, of the epochs, the runs and the values
unfoldable pub reads_under : Shape → (ℕ → Page) → ℕ → Root → Found → ℕ
reads_under shape at frames root found =
    root_pages shape + epoch_reads shape at root.older + epoch_reads shape at root.newest + run_reads shape (pinned shape frames) 1 root.counts
    + value_reads shape (places found [])

-- all reads under a root, if the lists of entries are found; otherwise there is no map to open
abbrev pub reads_if_found : Shape → (ℕ → Page) → ℕ → Root → Result Found Refusal → ℕ
reads_if_found shape at frames root (Ok found) = reads_under shape at frames root found
reads_if_found shape at frames root (Err refusal) = 0

-- all reads under the newest root, if there is one
abbrev pub reads_if_root : Shape → (ℕ → Page) → ℕ → Option (ℕ × Root) → ℕ
reads_if_root shape at frames None = 0
reads_if_root shape at frames (Some top) = reads_if_found shape at frames top.1 (found_under shape at top.1)

-- how many pages an opening with this many frames reads of a flash that holds a map
unfoldable pub opening_reads : Shape → Flash → ℕ → ℕ
opening_reads shape flash frames = reads_if_root shape (page_at flash) frames (newest_root shape (page_at flash))
