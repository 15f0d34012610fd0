-- What holds of a drive that runs between any two calls, by what is on its flash.
use Rattle.std.specs.Prelude.{◌≡◌, ◌≢◌, ℕ, ◌+◌, ◌-◌, ◌/◌, ◌<◌, ◌≤◌, List, ◌++◌, length, map, take, sum, true, ◌==◌, ◌||◌, nat_lt, if◌then◌else◌, Option, Some}
use Rattle.std.specs.List.{AllByRecursion}
use Rattle.pk_base.{specs.Shape.Shape, specs.Shape.cap, specs.Shape.data_blocks, specs.Shape.page_entries, specs.Shape.pinned, specs.Shape.run_pages, specs.Entry.Entry, specs.Firsts.firsts}
use Rattle.pk_base.{specs.Page.Flash, specs.Page.page_at, specs.Page.erased, specs.Map.Map}
use Rattle.pk_adapt.specs.Adapted.{adapted}
use Rattle.pk_rootfmt.specs.Root.{Root, named, differ}
use Rattle.pk_nand.specs.BoardState.{BoardState}
use Rattle.pk_model.{specs.Spaces.Terms, specs.Found.Found, specs.Found.entries_in_order, specs.Values.placed, specs.Values.blocks_with, specs.Values.all_pages, specs.Laws.AnyByRecursion}
use Rattle.pk_model.specs.Tree.{Tree, IsTree}
use Rattle.pk_call.{specs.Sight.Sight, specs.Sight.Counts, specs.Sight.entries_of_runs, specs.Sight.most_work, specs.Sight.pages_of_each, specs.Sight.AreHeldTo, specs.Drive.HoldsMap, specs.Exec.IsNextMerge}

-- A block that may be taken as it is: after the root blocks, named by no root, not the one that takes values, and wholly Erased.
pub record IsReadyBlock (shape : Shape) (flash : Flash) (root : Root) (taking : Option ℕ) (b : ℕ) : Type 0 where
  pub behind_roots : 2 ≤ b
  pub exists : b < shape.blocks
  pub unnamed : AnyByRecursion (λ c. b ≡ c) (named root) → ⊥
  pub not_open : taking ≢ Some b
  pub all_erased : (k : ℕ) → k / shape.block_pages ≡ b → page_at flash k ≡ erased

-- there are at least n of them
pub record HasReady (shape : Shape) (flash : Flash) (root : Root) (taking : Option ℕ) (least : ℕ) : Type 0 where
  pub blocks : List ℕ
  pub many : least ≤ length blocks
  pub different : differ blocks ≡ true
  pub each : AllByRecursion (IsReadyBlock shape flash root taking) blocks

-- how many blocks have a page of a value that is there
abbrev pub live_blocks : Shape → Found → List Entry → ℕ
live_blocks shape found pending = length (blocks_with shape (all_pages shape (placed (firsts (entries_in_order found pending)))))

-- the pages of the runs of the first levels, by the entries of each
abbrev pub pages_of_runs : Shape → ℕ → List ℕ → ℕ
pages_of_runs shape levels entries = sum (map (run_pages shape) (take levels entries))

-- most frames of the output of the merge that runs: as many as its level may have pages, if that level is pinned
abbrev pub output_frames : Shape → Counts → ℕ
output_frames shape c = if c.merge == 0 || nat_lt (pinned shape c.frames) c.merge then 0 else cap shape c.merge

-- Its numbers are those of the lists under the newest root, as many blocks are erased and in use as it says, and bounded work remains.
pub record IsSteady (shape : Shape) (flash : Flash) (drive : Sight) : Type 0 where
  pub tree : Tree
  pub is_tree : IsTree shape flash tree
  -- the keys of the two epochs, and the entries of the runs
  pub active : drive.counts.active ≡ length (firsts (tree.found.newest ++ drive.pending))
  pub frozen : drive.counts.frozen ≡ length (firsts tree.found.older)
  pub runs : entries_of_runs drive.counts ≡ map length tree.found.runs
  pub merge : IsNextMerge shape drive.counts
  -- frames: each page of the pinned levels has one, and besides only pages of other levels that may have frames, and of a merge's output
  pub pinned_held : AreHeldTo (pinned shape drive.counts.frames) drive
  pub leased_least : pages_of_runs shape (pinned shape drive.counts.frames) (entries_of_runs drive.counts) ≤ drive.counts.leased
  pub leased_most :
      drive.counts.leased
      ≤ pages_of_runs shape (adapted shape drive.counts.frames (pages_of_each shape drive.counts)) (entries_of_runs drive.counts) + output_frames shape drive.counts
  -- blocks
  pub ready : HasReady shape flash tree.root drive.open_block drive.counts.ready
  pub blocks_least : live_blocks shape tree.found drive.pending ≤ drive.counts.blocks
  pub blocks_most : drive.counts.blocks ≤ data_blocks shape - 1
  -- entries that wait, and steps that remain
  pub few_pending : length drive.pending < page_entries shape
  pub work_most : drive.work < most_work shape

-- after a call that begins while the drive represents a map
abbrev pub Steadies : BoardState → BoardState → Sight → Sight → Type 0
Steadies old new before after = (shape : Shape) (terms : Terms) (m : Map) → HoldsMap shape terms old before m → IsSteady shape new.pages after
