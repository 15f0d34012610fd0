-- What remains of a merge, as the settling of a drive counts it.
use Rattle.std.specs.Prelude.{◌⊎◌, ℕ, ◌+◌, ◌-◌, ◌≤◌, if◌then◌else◌, length}
use Rattle.pk_base.specs.Shape.{cap}
use Rattle.pk_pool.{specs.Blocks.Blocks, specs.Unready.unready}
use Rattle.pk_run.specs.Kept.{Kept, most_pages, most_blocks}
use Rattle.pk_law_work.specs.Rest.{Rest, Lowers, steps_of, whole_merge}
use Rattle.pk_merge.{specs.declared.source.Source.Source, specs.Sources.pages_in, specs.Merging.Merger, specs.Merging.can_gather, specs.Merging.IsDone}

module _ {X : Type 0} (source : Source X) (target : Kept) where
  -- Of a merge with an output of at most this many pages in this many blocks: the pages of source and target that are to be loaded, those of
  -- the output that are to be programmed, its blocks that are to be taken, and a step for entries that can be taken at once.
  abbrev pub rest_of : Kept → Merger → ℕ → ℕ → Rest
  rest_of out m pages blocks = record {
    reads = (pages_in source - m.source.loaded) + (length target.firsts - m.target.loaded);
    programs = pages - length out.firsts;
    takes = blocks - length out.blocks;
    others = if can_gather source target m then 1 else 0;
  }

  -- the steps that remain at most; a block counts twice
  abbrev pub steps_left : Kept → Merger → ℕ → ℕ → ℕ
  steps_left out m pages blocks = steps_of (rest_of out m pages blocks)

  -- The merge was at its end, or the step lowers what remains, and pays for the block that it took.
  abbrev pub LowersTo : Kept → Merger → Blocks → Kept → Merger → Blocks → ℕ → ℕ → Type 0
  LowersTo out m pool out' m' pool' pages blocks =
      IsDone source target m ⊎ Lowers (steps_left out m pages blocks) (unready pool.states) (steps_left out' m' pages blocks) (unready pool'.states)

  -- If source and target are within their levels, less remains than a whole merge into the output's level, with seven steps for its begin and its install.
  abbrev pub IsWithin : Kept → Merger → Type 0
  IsWithin out m =
      pages_in source ≤ cap out.shape (out.level - 1) → length target.firsts ≤ most_pages out
      → steps_left out m (most_pages out) (most_blocks out) + 7 ≤ whole_merge out.shape out.level
