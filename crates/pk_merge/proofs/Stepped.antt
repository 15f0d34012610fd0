-- What a whole step leaves: its action, and the entries that were taken after it.
use Rattle.std.proofs.Common.{◌≡◌, ℕ, ◌≤◌, sym, subst, ◌∙◌, Bool, List, length}
use Rattle.pk_base.{specs.Shape.IsShape, specs.Shape.run_pages, specs.Shape.run_blocks, specs.Entry.Entry}
use Rattle.pk_nand.specs.BoardState.{BoardState}
use Rattle.pk_pin.specs.Frames.{Frames}
use Rattle.pk_pool.specs.Blocks.{Blocks}
use Rattle.pk_run.specs.Kept.{Kept, IsKept, most_pages, most_blocks}
use Rattle.pk_merge.{specs.declared.source.Source.Source, specs.Merging.Merger, specs.Merging.IsDone, specs.Running.merged, specs.Running.Running, specs.Running.IsOutputWhole, specs.Steps.Steps}
use Rattle.pk_merge.{specs.Remaining.LowersTo, specs.Elsewhere.StepReaches, specs.Elsewhere.LeavesRuns, proofs.Reaching.acts_reach, proofs.Counting.fewer_steps, proofs.Counting.fewer_of_level}
use Rattle.pk_merge.proofs.Stepping.{acts_on, acts_level, acts_leave, gathers_on, stands_done}

module _ {X : Type 0} (source : Source X) (target : Kept) (pins : Bool) (out : Kept) (m : Merger) (pool : Blocks)
    (old : BoardState) (before : Frames) (out' : Kept) (m' : Merger) (pool' : Blocks) (new : BoardState) (after : Frames)
    (is : IsShape out.shape) (kept : IsKept out) (s : Steps source target pins out m pool old before out' m' pool' new after)
    (es fs : List Entry) (r : Running source target pins out m pool old.pages before es fs) where
  pub runs_on : Running source target pins out' m' pool' new.pages after es fs
  runs_on =
      gathers_on source target pins out' s.between pool' new.pages after es fs
      (acts_on source target pins out m pool old before es fs is kept r s.next out' s.between pool' new after s.tells s.acts) m' s.gathers

  pub same_level : out'.level ≡ out.level
  same_level = acts_level source target pins out m pool old before s.next out' s.between pool' new after s.acts

  pub whole : IsDone source target m' → IsOutputWhole pins out' new.pages after (merged out'.level es fs)
  whole done = stands_done source target pins out' m' pool' new.pages after es fs (subst IsShape (sym r.shapes.of_target ∙ runs_on.shapes.of_target) is) done runs_on

  pub lowers_rest : (pages blocks : ℕ) → run_pages out.shape (length (merged out.level es fs)) ≤ pages → run_blocks out.shape (length (merged out.level es fs)) ≤ blocks
      → LowersTo source target out m pool out' m' pool' pages blocks
  lowers_rest pages blocks up vp =
      fewer_steps source target pins out m pool old before es fs is kept r s.next out' s.between m'
      pool' new after s.tells s.acts s.gathers.source_pages s.gathers.target_pages s.stuck pages blocks up vp

  pub lowers : LowersTo source target out m pool out' m' pool' (most_pages out) (most_blocks out)
  lowers = fewer_of_level source target pins out m pool old before es fs is kept r s.next out' s.between m' pool' new after s.tells s.acts s.gathers.source_pages s.gathers.target_pages s.stuck

  pub reaches : StepReaches pool out old new
  reaches = acts_reach source target pins out m pool old before es fs is r s.next out' s.between pool' new after s.tells s.acts

  pub leaves : LeavesRuns pool out old.pages before new.pages after
  leaves = acts_leave source target pins out m pool old before s.next out' s.between pool' new after is r.shapes.of_pool s.acts
