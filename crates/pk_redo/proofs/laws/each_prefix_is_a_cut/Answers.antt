use Rattle.std.proofs.Common.{ℕ, refl, List, [], ◌∷◌, ◌++◌, inl, subst}
use Rattle.std.proofs.lemmas.List.{append-nil}
use Rattle.pk_base.{specs.Shape.Shape, specs.Page.Flash, specs.Mark.Mark, specs.Mark.after_all, specs.Mark.all_posted}
use Rattle.pk_nand.{specs.Cut.Cut, proofs.CutLemmas.cut_behind, proofs.CutLemmas.interrupted_none}
use Rattle.pk_redo.specs.Image.{EachPrefixIsACut}
use Rattle.pk_redo.proofs.laws.each_prefix_is_a_cut.Goals as goal

-- nothing of the later marks was done
none_done : (shape : Shape) (flash : Flash) (later : List Mark) → Cut shape flash later flash []
none_done shape flash [] = (refl, refl)
none_done shape flash (mark ∷ later) = inl (interrupted_none shape mark flash)

prefix_is_a_cut : EachPrefixIsACut
prefix_is_a_cut shape start done later =
    subst (λ (out : List ℕ). Cut shape start (done ++ later) (after_all shape done start) out) (append-nil (all_posted done))
    (cut_behind shape start done later (after_all shape done start) [] (none_done shape (after_all shape done start) later))

pub returns : goal.returns
returns c = prefix_is_a_cut
