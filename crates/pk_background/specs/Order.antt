-- The order of the background steps: which one is due, and what it does.
use Rattle.std.specs.Prelude.{◌≡◌, ◌⊎◌, ◌↔◌, ◌<◌, false, true, not, ◌==◌, length, count_by, if◌then◌else◌}
use Rattle.pk_nand.{specs.BoardState.BoardState, specs.Effects.OneProgram}
use Rattle.pk_pool.{specs.Blocks.is_free, specs.Taking.ErasesOne}
use Rattle.pk_compact.specs.FreezeSteps.{taken_by}
use Rattle.pk_schedule.specs.Steps.{has_no_merge, FreezeMoves, Freezes}
use Rattle.pk_gc.specs.Stepping.{runs_in}
use Rattle.pk_reclaim.specs.Space.{Falls}
use Rattle.pk_call.{specs.Half.MakesPair, specs.declared.types.Ticked.Ticked, specs.declared.types.Ticked.TheVariants.Worked, specs.declared.types.Ticked.TheVariants.Idle}
use Rattle.pk_parts.{specs.Parts.Parts, specs.Parts.index_of, specs.Parts.is_half, specs.Parts.is_reclaim_due, specs.Parts.may_freeze, specs.Moves.LeavesValues}
use Rattle.pk_background.{specs.Emptying.merges_left, specs.Reclaiming.LeavesIndex, specs.Reclaiming.space_of, specs.Filling.FillsSpare, specs.Filling.lacks_frames}

-- The background steps, in their order: the first that applies is due.
pub data Due : Type 0 where
  -- a pair is half made: its second program
  pair : Due
  -- a merge runs, or the frozen buffer has entries: a step of the merges
  merge : Due
  -- a freeze runs: its next step
  freeze : Due
  -- a reclaim runs: its next step, or one of the freeze that its moves need
  reclaim : Due
  -- as many blocks are in use as may be, and the open one does not take every value: a reclaim starts
  start : Due
  -- a page that may have a frame has none: it is read into one
  fill : Due
  -- a free block was not erased in this session: the lowest is erased
  erase : Due
  -- nothing remains to be done
  nothing : Due

abbrev pub due_step : Parts → Due
due_step d =
    if is_half d then pair
    else if not (has_no_merge (index_of d)) then merge
    else if not (length (taken_by d.schedule.freeze) == 0) then freeze
    else if runs_in d.reclaim.phase then reclaim
    else if is_reclaim_due d then start
    else if lacks_frames d then fill
    else if not (count_by is_free d.pool.states == 0) then erase
    else nothing

-- A step of the merges: fewer of them remain, and nothing differs but the index.
pub record MergeMade (d d' : Parts) : Type 0 where
  pub leaves : LeavesValues d d'
  pub fewer : merges_left d' < merges_left d

-- A step of a freeze: it is one step further, or its buffers are exchanged, and nothing differs but the index.
pub record FreezeMade (d d' : Parts) : Type 0 where
  pub leaves : LeavesValues d d'
  pub further : FreezeMoves (index_of d) (index_of d') ⊎ Freezes (index_of d) (index_of d')

-- A step of a reclaim: less of it remains, no block gets ready, and the index stays.
pub record ReclaimMade (d d' : Parts) : Type 0 where
  pub leaves : LeavesIndex d d'
  pub falls : Falls (space_of d) (space_of d')

-- An erase: of the lowest free block, and nothing else differs.
pub record EraseMade (d d' : Parts) (old new : BoardState) : Type 0 where
  pub erases : ErasesOne d.pool old d'.pool new
  pub rest : d' ≡ record d { pool = d'.pool }

-- what the step does that is due
abbrev pub MakesDue : Due → Parts → Parts → BoardState → BoardState → Type 0
MakesDue pair d d' old new = OneProgram old new × MakesPair d.log.shape old.pages new.pages × (is_half d' ≡ false)
MakesDue merge d d' old new = MergeMade d d'
MakesDue freeze d d' old new = FreezeMade d d'
MakesDue reclaim d d' old new = ReclaimMade d d' ⊎ ((may_freeze d ≡ true) × FreezeMade d d')
MakesDue start d d' old new = ReclaimMade d d'
MakesDue fill d d' old new = FillsSpare d d' old new
MakesDue erase d d' old new = EraseMade d d' old new
MakesDue nothing d d' old new = ⊥

-- A step that worked is the one that was due, and it is idle exactly if none was.
pub record MadeInOrder (d d' : Parts) (old new : BoardState) (answer : Ticked) : Type 0 where
  pub made : answer ≡ Worked → MakesDue (due_step d) d d' old new
  pub idle : (answer ≡ Idle) ↔ (due_step d ≡ nothing)
