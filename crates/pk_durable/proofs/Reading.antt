-- The pages that a reader of an image and its log finds.
use Rattle.std.proofs.Common.{◌≡◌, ◌∙◌, ℕ, List, [], ◌∷◌, sym, ap, subst}
use Rattle.pk_base.{specs.Shape.Shape, specs.Page.Flash, specs.Mark.Mark, specs.Mark.after_all}
use Rattle.pk_image.specs.Image.{flash_in_file}
use Rattle.pk_redo.{specs.Image.BatchesSay, specs.Image.ReadAs, specs.Kept.ReplayedTo, specs.Kept.replay_marks, specs.declared.replay.Replay.Replay}
use Rattle.pk_redo.{proofs.Batches.reads_once, proofs.Stepping.steps_read_once}

-- batches say one list of steps
says_once : (shape : Shape) (batches : List (List ℕ)) (one other : List Mark) → BatchesSay shape batches one → BatchesSay shape batches other → one ≡ other
says_once shape [] one other this that = this ∙ sym that
says_once shape (first ∷ later) one other this that = steps_read_once shape later one other this that

-- the bytes of both files are read as one flash
pub read_once : (shape : Shape) (log image : List ℕ) (one other : Flash) → ReadAs shape log image one → ReadAs shape log image other → one ≡ other
read_once shape log image one other this that =
    let same : this.batches ≡ that.batches = reads_once log this.batches that.batches this.stands that.stands in
    let says : BatchesSay shape that.batches this.marks = subst (λ (bs : List (List ℕ)). BatchesSay shape bs this.marks) same this.says in
    let marks : this.marks ≡ that.marks = says_once shape that.batches this.marks that.marks says that.says in
    sym this.gives ∙ (ap (λ (ms : List Mark). after_all shape ms (flash_in_file shape image)) marks ∙ that.gives)

-- what was replayed is what a reader finds
pub replayed_read : (shape : Shape) (log image : List ℕ) (replay : Replay) (kept : Flash) → ReplayedTo shape log image replay kept → ReadAs shape log image kept
replayed_read shape log image replay kept r =
    record { batches = r.batches; stands = r.stands; marks = replay_marks shape replay; says = r.says; belongs = r.belongs; gives = r.gives }
