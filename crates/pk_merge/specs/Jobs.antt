-- A job of merges: the merge that runs, if one does, and the runs for the outputs of the next ones.
use Rattle.std.specs.Prelude.{◌≡◌, ℕ, ◌-◌, ◌≤◌, nat_le, Bool, IsTrue, List, [], ◌∷◌, length, slice_index_or, slice_get, slice_set, ◌==◌, if◌then◌else◌, Option, Some, None, unwrap_or}
use Rattle.pk_base.{specs.Shape.Shape, specs.Shape.run_pages, specs.Shape.run_blocks, specs.Entry.Entry, specs.Page.Flash}
use Rattle.pk_pin.specs.Frames.{Frames}
use Rattle.pk_pool.specs.Blocks.{Blocks}
use Rattle.pk_run.specs.Kept.{Kept, RunOnFlash, empty}
use Rattle.pk_merge.{specs.declared.source.Source.Source, specs.Merging.Merger, specs.Merging.restarted, specs.Outputs.AreMeta, specs.Remaining.LowersTo}
use Rattle.pk_merge.specs.Running.{Running, IsOutputWhole, merged}

-- how many levels have frames for their pages, the level of the target or 0, the output, the state of the merge, and a run for each level but those
-- that were taken
pub record Job : Type 0 where
  pub pinned : ℕ
  pub target : ℕ
  pub output : Option Kept
  pub merger : Merger
  pub spares : List (Option Kept)

-- a run without entries for each level
abbrev pub all_spare : Shape → List (Option Kept)
all_spare shape = Some (empty shape 1) ∷ Some (empty shape 2) ∷ Some (empty shape 3) ∷ Some (empty shape 4) ∷ []

-- the run of a level, if it was not taken, and the runs without it
abbrev pub spare_of : List (Option Kept) → ℕ → Option Kept
spare_of spares level = slice_index_or spares (level - 1) None

abbrev pub without : List (Option Kept) → ℕ → List (Option Kept)
without spares level = slice_set spares (level - 1) None

abbrev pub with_spare : List (Option Kept) → ℕ → Kept → List (Option Kept)
with_spare spares level r = slice_set spares (level - 1) (Some r)

-- the pages of the output have frames
abbrev pub pins : Job → Bool
pins j = nat_le j.target j.pinned

-- the output so far
abbrev pub output_of : Job → Kept
output_of j = unwrap_or j.output (empty j.merger.shape j.target)

-- no merge runs, and no run is taken
pub record IsIdle (shape : Shape) (j : Job) : Type 0 where
  pub target : j.target ≡ 0
  pub output : j.output ≡ None
  pub spares : j.spares ≡ all_spare shape
  pub merger : j.merger.shape ≡ shape

-- a merge of these lists runs, into the run of the job's target
pub record JobRuns {X : Type 0} (source : Source X) (target : Kept) (j : Job) (pool : Blocks) (flash : Flash) (arena : Frames) (es fs : List Entry) : Type 0 where
  pub output : j.output ≡ Some (output_of j)
  pub same_level : (output_of j).level ≡ j.target
  pub running : Running source target (pins j) (output_of j) j.merger pool flash arena es fs

-- ---- the beginning

-- at the start of a merge into the run of this level
abbrev pub begun : Shape → Job → ℕ → Job
begun shape j level = record j { target = level; output = Some (empty shape level); merger = restarted j.merger; spares = without j.spares level }

-- ---- steps

module _ {X : Type 0} (source : Source X) (target : Kept) where
  -- a merge that ran before runs still
  abbrev pub RunsOn : Job → Blocks → Flash → Frames → Job → Blocks → Flash → Frames → Type 0
  RunsOn j pool old before j' pool' new after = (es fs : List Entry) → JobRuns source target j pool old before es fs → JobRuns source target j' pool' new after es fs

  -- and if it is done its output is complete
  abbrev pub Completes : Job → Blocks → Flash → Frames → Job → Flash → Frames → Bool → Type 0
  Completes j pool old before j' new after done =
      IsTrue done → (es fs : List Entry) → JobRuns source target j pool old before es fs → IsOutputWhole (pins j) (output_of j') new after (merged (output_of j').level es fs)

  -- a step lowers what remains for the pages and blocks of the whole output, or for more
  abbrev pub LowersRest : Job → Blocks → Flash → Frames → Job → Blocks → Type 0
  LowersRest j pool old before j' pool' =
      (es fs : List Entry) (pages blocks : ℕ) → JobRuns source target j pool old before es fs
      → run_pages (output_of j).shape (length (merged (output_of j).level es fs)) ≤ pages → run_blocks (output_of j).shape (length (merged (output_of j).level es fs)) ≤ blocks
      → LowersTo source target (output_of j) j.merger pool (output_of j') j'.merger pool' pages blocks

-- ---- the end

-- the run of a level that may be taken: the output for the target, and a spare one for another
abbrev pub held_at : Job → ℕ → Option Kept
held_at j level = if level == j.target then j.output else spare_of j.spares level

-- the job without it
abbrev pub taken_from : Job → ℕ → Job
taken_from j level = if level == j.target then record j { output = None } else record j { spares = without j.spares level }

-- the job that keeps a run, without its entries
abbrev pub given_to : Job → Kept → Job
given_to j r = record j { spares = with_spare j.spares r.level (empty r.shape r.level) }

-- no merge runs any more
abbrev pub ended : Job → Job
ended j = record j { target = 0 }

-- each of these blocks is owned for meta pages, and none occurs twice
pub record AreOwned (pool : Blocks) (blocks : List ℕ) : Type 0 where
  pub meta : AreMeta pool blocks
  pub different : (i j b : ℕ) → slice_get blocks i ≡ Some b → slice_get blocks j ≡ Some b → i ≡ j

-- a block that is none of these is what it was
abbrev pub LeavesBlocks : List ℕ → Blocks → Blocks → Type 0
LeavesBlocks blocks old new = (b : ℕ) → ((i : ℕ) → slice_get blocks i ≡ Some b → ⊥) → slice_get new.states b ≡ slice_get old.states b
