-- Each step of a reclaim lowers what remains of it: the statements.
use Rattle.std.specs.Prelude.{◌≡◌, ◌≢◌, ℕ, ◌-◌, List, sum, take, drop, unwrap_or}
use Rattle.pk_law_work.specs.Rest.{left_of, whole_reclaim, Lowers}
use Rattle.pk_nand.specs.BoardState.{BoardState}
use Rattle.pk_pool.specs.Unready.{unready}
use Rattle.pk_gc.{specs.declared.reclaimed.Reclaimed.Reclaimed, specs.declared.reclaimed.Reclaimed.TheVariants.NeedsFreeze, specs.State.JobState, specs.State.live_from, specs.State.left_in}
use Rattle.pk_gc.specs.Stepping.{Hands, CanStep, Steps}

-- What remains before a step, and after it. If one is due it is a whole reclaim, but for two steps: that much less remains once a block may
-- be taken.
abbrev pub left_before : JobState → Hands → ℕ
left_before job h = left_of (whole_reclaim job.shape - 2) (left_in job.shape h.live.heads job.phase)

abbrev pub left_behind : JobState → Hands → ℕ
left_behind job h = unwrap_or (left_in job.shape h.live.heads job.phase) 0

-- a step that needs no freeze lowers what remains, in which a block that is taken counts twice
abbrev pub StepLowers : Type 0
StepLowers =
    (job : JobState) (h : Hands) (old : BoardState) (job' : JobState) (h' : Hands) (new : BoardState) (r : Reclaimed) → CanStep job h old.pages
    → Steps job h old job' h' new r → r ≢ NeedsFreeze → Lowers (left_before job h) (unready h.pool.states) (left_behind job' h') (unready h'.pool.states)

-- the live pages of a block are those of the values that begin in it
abbrev pub LiveOfBlock : Type 0
LiveOfBlock = (heads : List ℕ) (page n : ℕ) → live_from heads page n ≡ sum (take n (drop page heads))
