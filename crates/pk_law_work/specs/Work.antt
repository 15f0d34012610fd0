-- A bound of the background steps that remain, as a sum over the jobs that run or are due and the blocks that are not ready.
use Rattle.std.specs.Prelude.{ℕ, zero, suc, ◌+◌, min, sum, Bool, true, false, if◌then◌else◌, Option, Some, None}
use Rattle.pk_base.specs.Shape.{Shape, caps}
use Rattle.pk_law_work.{specs.Rest.left_of, specs.Rest.whole_merge, specs.Rest.whole_freeze, specs.Rest.whole_reclaim, specs.Backlog.Backlog, specs.Backlog.due_level}

module _ (shape : Shape) where
  -- whole merges into this level and all above it, which empty the frozen buffer
  unfoldable pub emptying : ℕ → ℕ
  emptying zero = 0
  emptying (suc level) = emptying level + whole_merge shape (suc level)

  -- what remains of the merge into this level, and those after it
  abbrev pub merging_from : ℕ → Option ℕ → ℕ
  merging_from zero merge = 0
  merging_from (suc level) merge = left_of (whole_merge shape (suc level)) merge + emptying level

  abbrev pub merging : Backlog → ℕ
  merging b = merging_from (due_level shape b) b.merge

  -- most pages that may have to be read into frames: as many as the runs may have
  abbrev pub most_filling : ℕ
  most_filling = sum (caps shape)

  -- a freeze that runs, or that a reclaim may need, the merges that are due after it, and the pages that these may leave to be read into frames
  abbrev pub after_freeze : ℕ
  after_freeze = emptying 4 + most_filling

  abbrev pub freezing_from : Option ℕ → Bool → ℕ
  freezing_from None false = 0
  freezing_from None true = whole_freeze + after_freeze
  freezing_from (Some left) may = left + after_freeze

  abbrev pub freezing : Backlog → ℕ
  freezing b = freezing_from b.freeze b.may_freeze

  -- the reclaim that runs, or is due
  abbrev pub reclaiming_from : Option ℕ → Bool → ℕ
  reclaiming_from None false = 0
  reclaiming_from None true = whole_reclaim shape
  reclaiming_from (Some left) due = left

  abbrev pub reclaiming : Backlog → ℕ
  reclaiming b = reclaiming_from b.reclaim b.is_due

  -- the second program of a root
  abbrev pub repeating : Backlog → ℕ
  repeating b = if b.half then 1 else 0

  -- what remains to empty the frozen buffer, with the second program of a root
  abbrev pub merging_left : Backlog → ℕ
  merging_left b = merging b + repeating b

  -- Pages that remain to be read into frames. A merge replaces pages by others, so if one is ahead these are the most that there may be.
  abbrev pub filling_from : ℕ → ℕ → ℕ
  filling_from zero unfilled = min unfilled most_filling
  filling_from (suc ahead) unfilled = most_filling

  abbrev pub filling : Backlog → ℕ
  filling b = filling_from (merging b) b.unfilled

  unfoldable pub work : Backlog → ℕ
  work b = merging b + freezing b + reclaiming b + filling b + b.unready + repeating b
