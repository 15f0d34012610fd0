-- What a merge makes of what is under the root: the statements.
use Rattle.std.specs.Prelude.{◌≡◌, ℕ, ◌+◌, ◌-◌, ◌/◌, ◌<◌, ◌≤◌, List, [], length, map, reverse, true, ◌==◌, if◌then◌else◌, slice_set, slice_index_or, ◌++◌, Some, Ok}
use Rattle.pk_base.{specs.Shape.Shape, specs.Shape.IsShape, specs.Shape.run_blocks, specs.Page.Flash, specs.Page.page_at, specs.Entry.Entry, specs.Firsts.firsts, specs.Map.Map}
use Rattle.pk_base.specs.Merge.{next_merge, room}
use Rattle.pk_meta.{specs.Over.over, specs.Over.kept_at, specs.Run.run}
use Rattle.pk_rootfmt.specs.Root.{Root, is_root, named, differ, last_number}
use Rattle.pk_model.{specs.RootLimits.root_spaces, specs.Found.Found, specs.Laws.AnyByRecursion, specs.Tree.run_at, specs.Tree.merged, specs.Tree.blocks_after}
use Rattle.pk_law_steps.{specs.Under.IsUnder, specs.Under.IsValuePage, specs.Under.places, specs.Next.IsNext}

-- the source of a merge into this level: the older epoch, the later entries of which count, or the run above
abbrev pub source_of : ℕ → Found → List Entry
source_of level found = if level == 1 then reverse found.older else run_at found.runs (level - 1)

-- its output
abbrev pub output_of : ℕ → Found → List Entry
output_of level found = kept_at level (over (source_of level found) (run_at found.runs level))

-- the entries of the runs after a merge whose output has n
abbrev pub counts_after : ℕ → ℕ → List ℕ → List ℕ
counts_after level count counts = if level == 1 then slice_set counts 0 count else slice_set (slice_set counts (level - 1) count) (level - 2) 0

-- the root of a merge: the run of its level has the output, in these blocks, and the source is empty
abbrev pub merged_root : Root → ℕ → ℕ → List ℕ → Root
merged_root root level count taken = record root {
  number = root.number + 1;
  older = if level == 1 then [] else root.older;
  counts = counts_after level count root.counts;
  runs = blocks_after level taken root.runs;
}

abbrev pub merged_found : ℕ → Found → Found
merged_found level found = record found {
  older = if level == 1 then [] else found.older;
  runs = merged level found.older found.runs;
}

-- The output of the next merge is in these blocks, which the root does not name and in which no value that counts has a page; the root that follows
-- can be written.
pub record IsMerged (shape : Shape) (flash : Flash) (extra : List Entry) (top : ℕ × Root) (found : Found) (level count : ℕ) (taken : List ℕ) : Type 0 where
  pub next : next_merge shape (length (firsts found.older)) (map length found.runs) ≡ Some level
  pub stands : run shape (root_spaces shape top.1) (page_at flash) level count taken ≡ Ok (output_of level found)
  pub size : length taken ≡ run_blocks shape count
  pub grammar : is_root shape (merged_root top.1 level count taken) ≡ true
  pub fresh : (b : ℕ) → AnyByRecursion (λ c. b ≡ c) taken → AnyByRecursion (λ c. b ≡ c) (named top.1) → ⊥
  pub outside : (k : ℕ) → IsValuePage shape (places found extra) k → AnyByRecursion (λ b. k / shape.block_pages ≡ b) taken → ⊥

-- then that root may follow
abbrev pub Merged : Type 0
Merged =
    (shape : Shape) (flash : Flash) (extra : List Entry) (top : ℕ × Root) (found : Found) (m : Map) (level count : ℕ) (taken : List ℕ) → IsShape shape
    → IsUnder shape flash extra top found m → IsMerged shape flash extra top found level count taken
    → IsNext shape flash extra top found (merged_root top.1 level count taken) (merged_found level found)

-- the blocks of the source and of the former run, which are freed
abbrev pub blocks_at : List (List ℕ) → ℕ → List ℕ
blocks_at runs level = slice_index_or runs (level - 1) []

abbrev pub freed_by : ℕ → Root → List ℕ
freed_by level root = (if level == 1 then root.older else blocks_at root.runs (level - 1)) ++ blocks_at root.runs level

-- after the merge nobody reads them: the new root does not name them, and no value that counts has a page there
abbrev pub Freed : Type 0
Freed =
    (shape : Shape) (flash : Flash) (extra : List Entry) (top : ℕ × Root) (found : Found) (m : Map) (level count : ℕ) (taken : List ℕ) (b : ℕ) → IsShape shape
    → IsUnder shape flash extra top found m → IsMerged shape flash extra top found level count taken
    → AnyByRecursion (λ c. b ≡ c) (freed_by level top.1)
    → (AnyByRecursion (λ c. b ≡ c) (named (merged_root top.1 level count taken)) → ⊥)
    × ((k : ℕ) → k / shape.block_pages ≡ b → IsValuePage shape (places (merged_found level found) extra) k → ⊥)

-- that root is one of the grammar, if the output is not too large and is in as many different blocks as it needs, none of them named before
abbrev pub MergedGrammar : Type 0
MergedGrammar =
    (shape : Shape) (root : Root) (level count : ℕ) (taken : List ℕ) → is_root shape root ≡ true → 1 ≤ level → level ≤ 4 → count ≤ room shape level
    → length taken ≡ run_blocks shape count → differ taken ≡ true
    → ((b : ℕ) → AnyByRecursion (λ c. b ≡ c) taken → (2 ≤ b) × (b < shape.blocks))
    → ((b : ℕ) → AnyByRecursion (λ c. b ≡ c) taken → AnyByRecursion (λ c. b ≡ c) (named root) → ⊥)
    → root.number < last_number
    → is_root shape (merged_root root level count taken) ≡ true

-- What commands that are served meanwhile leave: they add entries and values, and change no page of these blocks.
abbrev pub MergedStill : Type 0
MergedStill =
    (shape : Shape) (flash new : Flash) (extra then_extra : List Entry) (top then_top : ℕ × Root) (found then_found : Found) (level count : ℕ) (taken : List ℕ) → IsShape shape
    → IsMerged shape flash extra top found level count taken
    → then_top.1 ≡ top.1 → then_found.older ≡ found.older → then_found.runs ≡ found.runs
    → ((k : ℕ) → AnyByRecursion (λ b. k / shape.block_pages ≡ b) taken → page_at new k ≡ page_at flash k)
    → ((k : ℕ) → IsValuePage shape (places then_found then_extra) k → AnyByRecursion (λ b. k / shape.block_pages ≡ b) taken → ⊥)
    → IsMerged shape new then_extra then_top then_found level count taken

-- they are different ones that the former root named, and the new root names as many fewer and the output's more
abbrev pub FreedCounted : Type 0
FreedCounted =
    (shape : Shape) (root : Root) (level count : ℕ) (taken : List ℕ) → is_root shape root ≡ true → 1 ≤ level → level ≤ 4
    → (length (named (merged_root root level count taken)) + length (freed_by level root) ≡ length (named root) + length taken)
    × (differ (freed_by level root) ≡ true)
    × ((b : ℕ) → AnyByRecursion (λ c. b ≡ c) (freed_by level root) → AnyByRecursion (λ c. b ≡ c) (named root))
