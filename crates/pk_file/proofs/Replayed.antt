-- Steps of a log that are done to the pages of its image in memory.
use Rattle.std.proofs.Common.{◌≡◌, ◌∙◌, ℕ, ◌+◌, ◌-◌, ◌<◌, List, [], ◌∷◌, ◌++◌, length, take, drop, get_or, sym, ap, arith}
use Rattle.std.proofs.lemmas.List.{map-append, take_more}
use Rattle.pk_base.{specs.Shape.Shape, specs.Page.Flash, specs.Mark.Mark, specs.Mark.after, specs.Mark.after_all}
use Rattle.pk_redo.specs.declared.step.Step.{Step}
use Rattle.pk_redo.specs.Bytes.{bytes_at}
use Rattle.pk_redo.specs.Steps.{step_mark, step_marks}
use Rattle.pk_file.proofs.Logging.{after_more}

-- bytes of a log from a place on
pub part_of_log : (log : List ℕ) (at len : ℕ) → take (at + len - at) (drop at log) ≡ bytes_at log at len
unfolding bytes_at
part_of_log log at len = let n : at + len - at ≡ len = omega arith in ap (λ (k : ℕ). take k (drop at log)) n

-- the marks of one more step
marks_more : (shape : Shape) (log : List ℕ) (steps : List Step) (i : ℕ) (step : Step) → i < length steps → step ≡ get_or steps i step
    → step_marks shape log (take (i + 1) steps) ≡ step_marks shape log (take i steps) ++ step_mark shape log step ∷ []
marks_more shape log steps i step inside is =
    ap (λ (all : List Step). step_marks shape log all) (take_more steps i step inside)
    ∙ (ap (λ (s : Step). step_marks shape log (take i steps ++ s ∷ [])) (sym is) ∙ map-append (step_mark shape log) (take i steps) (step ∷ []))

-- the pages after one more step
pub step_more : (shape : Shape) (log : List ℕ) (steps : List Step) (i : ℕ) (step : Step) (start now later : Flash) → i < length steps → step ≡ get_or steps i step
    → now ≡ after_all shape (step_marks shape log (take i steps)) start → later ≡ after shape (step_mark shape log step) now
    → later ≡ after_all shape (step_marks shape log (take (i + 1) steps)) start
step_more shape log steps i step start now later inside is before done =
    done
    ∙ (sym (after_more shape start (step_marks shape log (take i steps)) (step_mark shape log step) now (sym before))
    ∙ ap (λ (marks : List Mark). after_all shape marks start) (sym (marks_more shape log steps i step inside is)))
