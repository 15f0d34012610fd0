-- What a drive keeps of which its background steps depend.
use Rattle.std.specs.Prelude.{ℕ, ◌+◌, ◌<◌, ◌≤◌, List, slice_index, Bool, ◌||◌, ◌==◌, nat_lt, Option, IfSome, unwrap_or}
use Rattle.pk_base.{specs.Shape.Shape, specs.Shape.buffer, specs.Shape.dense, specs.Merge.room, specs.Merge.next_merge}
use Rattle.pk_law_work.specs.Rest.{whole_merge, whole_freeze, whole_reclaim}

pub record Backlog : Type 0 where
  -- entries of the frozen buffer, and of the four runs
  pub frozen : ℕ
  pub runs : List ℕ
  -- the steps that remain of the merge, the freeze and the reclaim that run; a block that is taken counts twice
  pub merge : Option ℕ
  pub freeze : Option ℕ
  pub reclaim : Option ℕ
  -- no more data blocks may be taken, and the open block does not take every value
  pub is_due : Bool
  -- a reclaim that is due or runs has its moves to commit yet, and there may be no room for them
  pub may_freeze : Bool
  -- the pair of a root is half made: its second program is the next step
  pub half : Bool
  -- pages that may have a frame and have none
  pub unfilled : ℕ
  -- blocks that are not ready: root blocks, owned ones, and free ones that were not erased in this session
  pub unready : ℕ

-- the active buffer, with this many keys, or the newest epoch, which takes this many more commits, may have no room for the moves of a reclaim
abbrev pub is_tight : Shape → ℕ → ℕ → Bool
is_tight shape active left = nat_lt (buffer shape) (active + dense shape) || left == 0

-- the level of the merge that runs or is due, and 0 if nothing is frozen
unfoldable pub due_level : Shape → Backlog → ℕ
due_level shape b = unwrap_or (next_merge shape b.frozen b.runs) 0

-- Buffers and runs are within their bounds, and no job has more left than the whole of it.
pub record IsBacklog (shape : Shape) (b : Backlog) : Type 0 where
  pub frozen_most : b.frozen ≤ buffer shape
  pub runs_most : (i : ℕ) → i < 4 → slice_index b.runs i ≤ room shape (i + 1)
  pub merge_most : IfSome b.merge (λ left. left ≤ whole_merge shape (due_level shape b))
  pub freeze_most : IfSome b.freeze (λ left. left ≤ whole_freeze)
  pub reclaim_most : IfSome b.reclaim (λ left. left ≤ whole_reclaim shape)
  pub unready_most : b.unready ≤ shape.blocks
