-- Which changes of a flash leave what is read of it: the statements.
use Rattle.std.specs.Prelude.{◌≡◌, ℕ, ◌+◌, ◌/◌, ◌<◌, ◌≤◌, List, Ok}
use Rattle.pk_base.{specs.Shape.Shape, specs.Shape.IsShape, specs.Shape.root_pages, specs.Page.Flash, specs.Page.page_at, specs.Page.erased, specs.Entry.Entry, specs.Map.Map}
use Rattle.pk_rootfmt.specs.Root.{Root, named}
use Rattle.pk_nand.specs.Crash.{SameOutside}
use Rattle.pk_model.{specs.Found.Found, specs.Found.entries_in_order, specs.Reading.reading, specs.Laws.AnyByRecursion, specs.Laws.IsRead}
use Rattle.pk_law_steps.specs.Under.{IsUnder, IsNamed, IsValuePage, places}

-- a map that is read is under the newest root
abbrev pub ReadsUnder : Type 0
ReadsUnder = (shape : Shape) (flash : Flash) (extra : List Entry) (m : Map) → reading shape flash extra ≡ Ok m → (top : ℕ × Root) × (found : Found) × IsUnder shape flash extra top found m

-- and what is there is read
abbrev pub UnderReads : Type 0
UnderReads = (shape : Shape) (flash : Flash) (extra : List Entry) (top : ℕ × Root) (found : Found) (m : Map) → IsUnder shape flash extra top found m → reading shape flash extra ≡ Ok m

-- a flash on which no page differs that is read
abbrev pub Same : Type 0
Same =
    (shape : Shape) (flash cut : Flash) (extra : List Entry) (top : ℕ × Root) (found : Found) (m : Map) → IsShape shape → IsUnder shape flash extra top found m
    → ((k : ℕ) → IsRead shape top.1 (entries_in_order found extra) k → page_at cut k ≡ page_at flash k)
    → IsUnder shape cut extra top found m

-- erased pages after the root blocks, in no block that the root names, whatever became of them
abbrev pub ProgramsUnread : Type 0
ProgramsUnread =
    (shape : Shape) (flash cut : Flash) (extra : List Entry) (top : ℕ × Root) (found : Found) (m : Map) (first count : ℕ) → IsShape shape → IsUnder shape flash extra top found m
    → root_pages shape ≤ first
    → ((k : ℕ) → first ≤ k → k < first + count → page_at flash k ≡ erased)
    → ((k : ℕ) → first ≤ k → k < first + count → IsNamed shape top.1 k → ⊥)
    → SameOutside first count flash cut
    → IsUnder shape cut extra top found m

-- a block after the root blocks that the root does not name and that has no page of a value, whatever became of it
abbrev pub Erases : Type 0
Erases =
    (shape : Shape) (flash cut : Flash) (extra : List Entry) (top : ℕ × Root) (found : Found) (m : Map) (block : ℕ) → IsShape shape → IsUnder shape flash extra top found m
    → 2 ≤ block → (AnyByRecursion (λ b. block ≡ b) (named top.1) → ⊥)
    → ((k : ℕ) → k / shape.block_pages ≡ block → IsValuePage shape (places found extra) k → ⊥)
    → ((k : ℕ) → (k / shape.block_pages ≡ block → ⊥) → page_at cut k ≡ page_at flash k)
    → IsUnder shape cut extra top found m
