-- The active buffer after the moves of a reclaim: the statements.
use Rattle.std.specs.Prelude.{◌≡◌, ◌≤◌, List, ◌++◌, length}
use Rattle.pk_base.{specs.Key.Key, specs.Shape.Shape, specs.Shape.buffer, specs.Page.Flash, specs.Entry.Entry, specs.Entry.Place, specs.Firsts.firsts}
use Rattle.pk_jrn.specs.Replays.{buffer_of}
use Rattle.pk_gc.{specs.declared.course.Course.Course, specs.State.JobState, specs.Committing.HasRoom, specs.Committing.entries_left, specs.Stepping.Hands, specs.Stepping.moved_in}
use Rattle.pk_gc.specs.Ending.{CanGive}

-- the active buffer mirrors the newest epoch with the entries of the remaining moves after it
abbrev pub MovesBuffered : Type 0
MovesBuffered =
    (shape : Shape) (c : Course) (job : JobState) (h : Hands) (flash : Flash) (es : List (Key × Place)) (newest : List Entry) → CanGive shape c job h flash es
    → h.active ≡ buffer_of shape newest → (moved_in job h).active ≡ buffer_of shape (newest ++ entries_left h.live.heads job.moves)

-- if the buffer has room for them, the epoch has no more keys with them than a buffer takes
abbrev pub MovesFit : Type 0
MovesFit =
    (shape : Shape) (c : Course) (job : JobState) (h : Hands) (flash : Flash) (es : List (Key × Place)) (newest : List Entry) → CanGive shape c job h flash es
    → h.active ≡ buffer_of shape newest → HasRoom h.active h.epoch (entries_left h.live.heads job.moves)
    → length (firsts (newest ++ entries_left h.live.heads job.moves)) ≤ buffer shape
