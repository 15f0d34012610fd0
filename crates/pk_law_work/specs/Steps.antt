-- The background steps, each as what it does to the backlog.
use Rattle.std.specs.Prelude.{◌≡◌, ℕ, ◌+◌, ◌-◌, ◌<◌, ◌≤◌, sum, slice_index, true, false, ◌==◌, if◌then◌else◌, Some, None}
use Rattle.pk_base.{specs.Shape.Shape, specs.Shape.caps, specs.Merge.next_merge}
use Rattle.pk_law_work.{specs.Rest.left_of, specs.Rest.whole_merge, specs.Rest.whole_freeze, specs.Rest.Lowers, specs.Backlog.Backlog, specs.Work.reclaiming}

-- the merge that is due begins or goes on
pub record MovesMerge (shape : Shape) (b b' : Backlog) : Type 0 where
  pub level : ℕ
  pub left : ℕ
  pub due : next_merge shape b.frozen b.runs ≡ Some level
  pub moved : b' ≡ record b { merge = Some left; unready = b'.unready }
  pub lowers : Lowers (left_of (whole_merge shape level) b.merge) b.unready left b'.unready

-- The merge that is due ends with the first program of its root: its source is empty, and the lists above the source are unchanged. The second
-- program remains.
pub record EndsMerge (shape : Shape) (b b' : Backlog) : Type 0 where
  pub level : ℕ
  pub due : next_merge shape b.frozen b.runs ≡ Some level
  pub was_whole : b.half ≡ false
  pub ended : b' ≡ record b { frozen = b'.frozen; runs = b'.runs; merge = None; half = true; unfilled = b'.unfilled; unready = b'.unready }
  pub frozen : b'.frozen ≡ (if level == 1 then 0 else b.frozen)
  pub source : 2 ≤ level → slice_index b'.runs (level - 2) ≡ 0
  pub above : (i : ℕ) → i + 2 < level → slice_index b'.runs i ≡ slice_index b.runs i
  pub lowers : Lowers (left_of (whole_merge shape level) b.merge) b.unready 1 b'.unready

-- a freeze goes on, or one begins that a reclaim may need; of the reclaim no more remains
pub record MovesFreeze (shape : Shape) (b b' : Backlog) : Type 0 where
  pub left : ℕ
  pub wanted : b.freeze ≡ None → b.may_freeze ≡ true
  pub moved : b' ≡ record b { freeze = Some left; reclaim = b'.reclaim; unready = b'.unready }
  pub no_more : reclaiming shape b' ≤ reclaiming shape b
  pub lowers : Lowers (left_of whole_freeze b.freeze) b.unready left b'.unready

-- A freeze ends with the first program of its root: what was active is frozen, and there is room for the moves of a reclaim. The second program
-- remains.
pub record EndsFreeze (shape : Shape) (b b' : Backlog) : Type 0 where
  pub wanted : b.freeze ≡ None → b.may_freeze ≡ true
  pub none_frozen : b.frozen ≡ 0
  pub none_merges : b.merge ≡ None
  pub was_whole : b.half ≡ false
  pub ended : b' ≡ record b { frozen = b'.frozen; freeze = None; reclaim = b'.reclaim; may_freeze = false; half = true; unready = b'.unready }
  pub no_more : reclaiming shape b' ≤ reclaiming shape b
  pub lowers : Lowers (left_of whole_freeze b.freeze) b.unready 1 b'.unready

-- The second program of a root is made, and the blocks that its job no longer needs are freed.
pub record EndsPair (b b' : Backlog) : Type 0 where
  pub was_half : b.half ≡ true
  pub ended : b' ≡ record b { half = false; unready = b'.unready }
  pub none_more : b'.unready ≤ b.unready

-- A reclaim begins, goes on or ends; an end leaves none due.
pub record StepsReclaim (shape : Shape) (b b' : Backlog) : Type 0 where
  pub stepped : b' ≡ record b { reclaim = b'.reclaim; is_due = b'.is_due; may_freeze = b'.may_freeze; unready = b'.unready }
  pub no_freeze : b'.may_freeze ≡ true → b.may_freeze ≡ true
  pub lowers : Lowers (reclaiming shape b) b.unready (reclaiming shape b') b'.unready

-- a free block that was not erased in this session is erased
pub record ErasesBlock (b b' : Backlog) : Type 0 where
  pub erased : b' ≡ record b { unready = b'.unready }
  pub less : b'.unready < b.unready

-- A page is read into a frame, and no merge is ahead.
pub record FillsFrame (shape : Shape) (b b' : Backlog) : Type 0 where
  pub filled : b' ≡ record b { unfilled = b'.unfilled }
  pub one_less : b'.unfilled + 1 ≡ b.unfilled
  pub few : b.unfilled ≤ sum (caps shape)
  pub none_frozen : b.frozen ≡ 0
