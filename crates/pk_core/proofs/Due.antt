-- A merge that runs between two commands is the next one.
use Rattle.std.proofs.Common.{sym, subst}
use Rattle.pk_nand.specs.BoardState.{BoardState, shape_or_none}
use Rattle.pk_call.specs.Exec.{IsNextMerge}
use Rattle.pk_parts.specs.Parts.{Parts, IsParts, sight_of}
use Rattle.pk_core.{specs.Agreeing.DriveOnFlashBetween, proofs.Steadying.between_steady}

pub merges_next : (d : Parts) (board : BoardState) → DriveOnFlashBetween d board.shape board.pages → IsParts d → IsNextMerge (shape_or_none board.shape) (sight_of d).counts
merges_next d board is keeps =
    subst (λ o. IsNextMerge (shape_or_none o) (sight_of d).counts) (sym is.0.told_is) (between_steady d board.shape is.0.shape board.pages is is.0.told_is keeps).merge
