-- A reclaim, as it matches a flash: which blocks it holds, and what their pages and the values are.
use Rattle.std.specs.Prelude.{◌≡◌, ℕ, List, [], ◌∷◌, true}
use Rattle.pk_base.{specs.Key.Key, specs.Shape.Shape, specs.Shape.data_blocks, specs.Page.Flash, specs.Entry.Place}
use Rattle.pk_plan.specs.declared.owner.Owner.TheVariants.{Values as for_values}
use Rattle.pk_pool.specs.Blocks.{Blocks, used_by}
use Rattle.pk_live.specs.Values.{Values, IsClosed}
use Rattle.pk_gc.{specs.declared.course.Course.Course, specs.declared.course.Phase.Phase, specs.State.JobState, specs.Running.IsRunning, specs.Running.IsSparse, specs.Stepping.runs_in}
use Rattle.pk_gc.specs.declared.course.Phase.TheVariants.{Idle, Copies, Commits, GivesBack}

-- the blocks for values that are neither open nor closed: the output of a copy, and from the commit on the victim until it is freed
abbrev pub held_blocks : Phase → List ℕ
held_blocks Idle = []
held_blocks (Copies c) = c.output ∷ []
held_blocks (Commits victim) = victim ∷ []
held_blocks (GivesBack victim) = victim ∷ []

-- The live values of a closed block are being copied: at most three quarters of a block.
pub record IsCopying (shape : Shape) (c : Course) (job : JobState) (live : Values) (flash : Flash) (es : List (Key × Place)) : Type 0 where
  pub runs : IsRunning shape c job.moves job.page flash es
  pub sparse : IsSparse shape c live.heads
  pub closed : IsClosed live c.victim

abbrev pub ReclaimStands : Phase → Shape → JobState → Values → Flash → List (Key × Place) → Type 0
ReclaimStands Idle shape job live flash es = Unit {0}
ReclaimStands (Copies c) shape job live flash es = IsCopying shape c job live flash es
ReclaimStands (Commits victim) shape job live flash es = Unit {0}
ReclaimStands (GivesBack victim) shape job live flash es = Unit {0}

-- A reclaim matches a flash on which keys have these places. While it runs, all data blocks are in use.
pub record ReclaimOnFlash (shape : Shape) (job : JobState) (live : Values) (pool : Blocks) (flash : Flash) (es : List (Key × Place)) : Type 0 where
  pub shape_is : job.shape ≡ shape
  pub stands : ReclaimStands job.phase shape job live flash es
  pub full : runs_in job.phase ≡ true → used_by for_values pool.states ≡ data_blocks shape
