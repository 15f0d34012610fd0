-- A drive that agrees with its board represents the map that the board holds.
use Rattle.std.proofs.Common.{◌≡◌, sym, subst, ◌∙◌, Option, Some}
use Rattle.pk_base.{specs.Shape.Shape, specs.Page.Flash, specs.Map.Map, proofs.Logic.ok_same, proofs.Logic.some_same}
use Rattle.pk_nand.specs.BoardState.{BoardState}
use Rattle.pk_model.specs.Spaces.{Terms, limits_at}
use Rattle.pk_call.specs.Drive.{HoldsMap}
use Rattle.pk_parts.{specs.Parts.Parts, specs.Parts.sight_of, specs.Parts.frames_of, specs.Agreeing.DriveOnFlash, specs.Moves.StandsBetween}
use Rattle.pk_parts.{proofs.Standing.reads_between, proofs.Standing.stands_between}

-- the map of a drive that agrees with its board is the one that it represents
pub stands_for : (d : Parts) (board : BoardState) (shape : Shape) (terms : Terms) (m : Map)
    → DriveOnFlash d board.shape board.pages → HoldsMap shape terms board (sight_of d) m → StandsBetween d shape board.pages m
stands_for d board shape terms m agrees stands =
    let shapes : agrees.shape ≡ shape = some_same agrees.shape shape (sym agrees.told_is ∙ stands.shape_is) in
    let here : StandsBetween d shape board.pages agrees.all = subst (λ s. StandsBetween d s board.pages agrees.all) shapes
    (record { top = agrees.top; found = agrees.found; without = agrees.without; with = agrees.with; course = agrees.course }) in
    subst (λ x. StandsBetween d shape board.pages x) (ok_same agrees.all m (sym (reads_between d shape board.pages agrees.all here) ∙ stands.map_is)) here

pub stands_here : (d : Parts) (told : Option Shape) (flash : Flash) → DriveOnFlash d told flash → (m : Map) × StandsBetween d d.log.shape flash m
stands_here d told flash agrees = (agrees.all, stands_between d told flash agrees)

-- if the map of the drive and the limits are unchanged, the drive still represents it
pub still_stands : (d : Parts) (board : BoardState) (shape : Shape) (terms : Terms) (m : Map) → board.shape ≡ Some shape → frames_of d ≡ terms.frames → limits_at shape board.pages ≡ terms.limits
    → StandsBetween d shape board.pages m → HoldsMap shape terms board (sight_of d) m
still_stands d board shape terms m told frames limits is = record { shape_is = told; frames_is = frames; limits_is = limits; map_is = reads_between d shape board.pages m is }
