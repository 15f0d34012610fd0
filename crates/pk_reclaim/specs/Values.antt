-- What the steps of a reclaim make of placed values: the statements. How the steps change live map, open block and pool is stated by pk_gc.
use Rattle.std.specs.Prelude.{◌≡◌, ℕ, ◌+◌, ◌/◌, List, [], ◌∷◌, Some, slice_get}
use Rattle.pk_base.{specs.Key.Key, specs.Shape.Shape, specs.Page.Flash, specs.Entry.Place, specs.Mark.program, specs.Mark.after}
use Rattle.pk_plan.specs.declared.owner.Owner.TheVariants.{Journal, Values as for_values}
use Rattle.pk_nand.specs.BoardState.{BoardState}
use Rattle.pk_pool.{specs.declared.state.BlockState.TheVariants.Owned, specs.Blocks.Blocks, specs.Blocks.used_by}
use Rattle.pk_buf.specs.Table.{Table}
use Rattle.pk_jrn.specs.Epochs.{JournalEpoch, next_page}
use Rattle.pk_law_moves.specs.Moves.{moved}
use Rattle.pk_gc.{specs.declared.course.Course.Course, specs.declared.reclaimed.Reclaimed.Reclaimed, specs.State.JobState, specs.State.placed_at, specs.State.left_of, specs.Ending.CanGive}
use Rattle.pk_gc.{specs.Beginning.Starts, specs.Beginning.GivesBack, specs.Stepping.CommitsMoves, specs.Stepping.EndsWithout, specs.Stepping.GivesVictim}
use Rattle.pk_values.{specs.State.ValuesState, specs.Placed.ValuesOnFlash}
use Rattle.pk_reclaim.specs.Hands.{hands_of}

-- An Erased block was taken for the copies, and the open one may have been closed.
abbrev pub OutputTaken : Type 0
OutputTaken =
    (shape : Shape) (job job' : JobState) (d d' : ValuesState) (p q : Blocks) (old new : BoardState) (es : List (Key × Place)) → ValuesOnFlash shape d p [] old.pages es
    → (s : Starts job d.live d.open_block p old job' d'.live d'.open_block q new)
    → ValuesOnFlash shape d' q (s.output ∷ []) new.pages es × (used_by for_values q.states ≡ used_by for_values p.states + 1)

-- A victim without live pages was freed.
abbrev pub DeadGivenBack : Type 0
DeadGivenBack =
    (shape : Shape) (job job' : JobState) (d d' : ValuesState) (p q : Blocks) (old new : BoardState) (es : List (Key × Place)) → ValuesOnFlash shape d p [] old.pages es
    → GivesBack job d.live d.open_block p old job' d'.live d'.open_block q new
    → ValuesOnFlash shape d' q [] new.pages es × (used_by for_values q.states + 1 ≡ used_by for_values p.states)

-- A page of the output was programmed.
abbrev pub CopyProgrammed : Type 0
CopyProgrammed =
    (shape : Shape) (d : ValuesState) (p : Blocks) (output page : ℕ) (bytes : List ℕ) (flash : Flash) (es : List (Key × Place)) → ValuesOnFlash shape d p (output ∷ []) flash es
    → page / shape.block_pages ≡ output → ValuesOnFlash shape d p (output ∷ []) (after shape (program page bytes) flash) es

-- The first program of the commit of the remaining moves was made: the values are at their new places, the output is the open block, and the
-- victim is held in its stead.
abbrev pub MovesPlaced : Type 0
MovesPlaced =
    (shape : Shape) (c : Course) (job job' : JobState) (d d' : ValuesState) (p q : Blocks) (active active' : Table) (epoch epoch' : JournalEpoch) (old new : BoardState) (es : List (Key × Place))
    → ValuesOnFlash shape d p (c.output ∷ []) old.pages es → CanGive shape c job (hands_of d p active epoch) old.pages es
    → CommitsMoves c job (hands_of d p active epoch) old job' (hands_of d' q active' epoch') new
    → slice_get p.states (next_page epoch / shape.block_pages) ≡ Some (Owned Journal)
    → ValuesOnFlash shape d' q (c.victim ∷ []) new.pages (moved (placed_at (left_of d.live.heads job.moves)) es)

-- No move remained: the output is the open block, and the victim was freed.
abbrev pub EndPlaced : Type 0
EndPlaced =
    (shape : Shape) (c : Course) (job job' : JobState) (d d' : ValuesState) (p q : Blocks) (active active' : Table) (epoch epoch' : JournalEpoch) (old new : BoardState) (es : List (Key × Place))
    → ValuesOnFlash shape d p (c.output ∷ []) old.pages es → CanGive shape c job (hands_of d p active epoch) old.pages es
    → EndsWithout c job (hands_of d p active epoch) old job' (hands_of d' q active' epoch') new
    → ValuesOnFlash shape d' q [] new.pages es × (used_by for_values q.states + 1 ≡ used_by for_values p.states)

-- The victim was freed.
abbrev pub VictimGivenBack : Type 0
VictimGivenBack =
    (shape : Shape) (victim : ℕ) (job job' : JobState) (d d' : ValuesState) (p q : Blocks) (active active' : Table) (epoch epoch' : JournalEpoch) (old new : BoardState) (r : Reclaimed) (es : List (Key × Place))
    → ValuesOnFlash shape d p (victim ∷ []) old.pages es → GivesVictim victim job (hands_of d p active epoch) old job' (hands_of d' q active' epoch') new r
    → ValuesOnFlash shape d' q [] new.pages es × (used_by for_values q.states + 1 ≡ used_by for_values p.states)
