-- A session over an image and its log, from what its board records.
use Rattle.std.proofs.Common.{◌≡◌, ◌∙◌, ℕ, List, [], ◌∷◌, ◌++◌, take, Some, Option, IsSome, refl, sym, ap, subst}
use Rattle.std.proofs.lemmas.Option.{same_Some}
use Rattle.sqlite_disk.specs.declared.Disk.{Ghosts}
use Rattle.pk_base.{specs.Shape.Shape, specs.Page.Flash, specs.Mark.Mark, specs.Mark.post, specs.Mark.after_all, specs.Mark.all_posted}
use Rattle.pk_nand.{specs.BoardState.BoardState, specs.Calls.longer}
use Rattle.pk_redo.{specs.Image.ReadAs, specs.declared.redo_log.RedoLog.RedoLog}
use Rattle.pk_file.{specs.Logged.AfterPrefix, proofs.Logging.reads_still}
use Rattle.pk_durable.{specs.Durable.opened_marks, specs.Durable.OpenedAs, proofs.Reading.read_once}
use Rattle.pk_top.specs.Runs.{RunsOver}
use Rattle.pk_law_durable.{specs.DurableRuns.IsDurableRun, proofs.Growing.run_grew}

-- what the first two marks say, and those after them
pub record SameTrail (log image own own_image : List ℕ) (marks trail : List Mark) : Type 0 where
  pub log_is : own ≡ log
  pub image_is : own_image ≡ image
  pub marks_are : trail ≡ marks

pub same_trail : (log image own own_image : List ℕ) (marks trail : List Mark) → Some (opened_marks own own_image ++ trail) ≡ Some (opened_marks log image ++ marks)
    → SameTrail log image own own_image marks trail
same_trail log image own own_image marks trail is =
    let lists : post own ∷ post own_image ∷ trail ≡ post log ∷ post image ∷ marks = same_Some _ _ is in
    let log_same : own ≡ log = cc in
    let image_same : own_image ≡ image = cc in
    let marks_same : trail ≡ marks = cc in
    record { log_is = log_same; image_is = image_same; marks_are = marks_same }

-- what is read of both files after a crash
pub record CutOf (shape : Shape) (start : Flash) (marks : List Mark) (least : ℕ) (log_left image_left : List ℕ) : Type 0 where
  pub left : Flash
  pub left_is : ReadAs shape log_left image_left left
  pub from_front : AfterPrefix shape start marks least left

module _ {D : Type 0} (g : Ghosts D) (shape : Shape) where
  -- what was opened is read as the pages that a board begins with
  pub opened_read : (redo : RedoLog D g) (log image : List ℕ) (marks : List Mark) (least : ℕ) (pages : Flash) → marks ≡ [] → OpenedAs g redo shape log image marks least pages
      → ReadAs shape log image pages
  opened_read redo log image marks least pages none o =
      let same : o.start ≡ pages = subst (λ (ms : List Mark). after_all shape ms o.start ≡ pages) none o.are_after in
      subst (λ (f : Flash). ReadAs shape log image f) same o.read

  pub cut_of : (redo : RedoLog D g) (log image own own_image : List ℕ) (marks trail : List Mark) (least : ℕ) (start pages : Flash) → SameTrail log image own own_image marks trail
      → ReadAs shape log image start → OpenedAs g redo shape own own_image trail least pages
      → (log_left image_left : List ℕ) → g.may_leave redo.log log_left → g.may_leave redo.image image_left → CutOf shape start marks least log_left image_left
  cut_of redo log image own own_image marks trail least start pages same read o log_left image_left may_log may_image =
      let it = reads_still g shape o.start trail least redo pages o.still log_left image_left may_log may_image in
      let own_read = subst (λ (i : List ℕ). ReadAs shape log i o.start) same.image_is (subst (λ (l : List ℕ). ReadAs shape l own_image o.start) same.log_is o.read) in
      let begins : o.start ≡ start = read_once shape log image o.start start own_read read in
      record {
        left = it.0;
        left_is = it.1;
        from_front = subst (λ (ms : List Mark). AfterPrefix shape start ms least it.0) same.marks_are
            (subst (λ (f : Flash). AfterPrefix shape f trail least it.0) begins it.2);
      }

-- ---- a session

module _ {D : Type 0} (g : Ghosts D) (shape : Shape) (redo later_redo : RedoLog D g) (words : List (List ℕ)) (input : List ℕ) (status : ℕ) (old new : BoardState)
    (log image own own_image : List ℕ) (held trail : List Mark) where
  -- It is a run from the bytes of both files, if the board recorded its trail from there on.
  pub session_run : RunsOver words old new status → old.shape ≡ Some shape → (ended : Shape) → new.shape ≡ Some ended → old.input ≡ Some input → held ≡ []
      → old.trail ≡ Some (opened_marks log image ++ held) → new.trail ≡ Some (opened_marks own own_image ++ trail)
      → (least durable : ℕ) → (sent : List ℕ) → sent ≡ all_posted (take durable trail) → (pages later : Flash) → old.pages ≡ pages → OpenedAs g redo shape log image held least pages
      → OpenedAs g later_redo ended own own_image trail durable later
      → (log_left image_left : List ℕ) → g.may_leave later_redo.log log_left → g.may_leave later_redo.image image_left
      → IsDurableRun shape (record { words = words; input = input; log = log; image = image; status = status; sent = sent; log_left = log_left; image_left = image_left })
  session_run runs shape_is ended ended_is input_is none trail_is later_trail least durable sent sent_is pages later pages_is opened still log_left image_left may_log may_image =
      let some : IsSome old.shape = subst (λ (s : Option Shape). IsSome s) (sym shape_is) refl in
      let grew = run_grew words old new status runs some in
      let begins : old.trail ≡ Some (opened_marks log image) = trail_is ∙ ap (λ (ms : List Mark). Some (opened_marks log image ++ ms)) none in
      let more : new.trail ≡ Some (opened_marks log image ++ grew.0) = grew.1 ∙ ap (λ (t : Option (List Mark)). longer t grew.0) begins in
      let same_shape : ended ≡ shape = same_Some _ _ (sym ended_is ∙ (grew.2 ∙ shape_is)) in
      let same = same_trail log image own own_image grew.0 trail (sym later_trail ∙ more) in
      let read = opened_read g shape redo log image held least pages none opened in
      let cut = cut_of g shape later_redo log image own own_image grew.0 trail durable pages later same read
      (subst (λ (s : Shape). OpenedAs g later_redo s own own_image trail durable later) same_shape still) log_left image_left may_log may_image in
      record {
        old = old;
        new = new;
        runs = runs;
        shape_is = shape_is;
        input_is = input_is;
        opened = subst (λ (f : Flash). ReadAs shape log image f) (sym pages_is) read;
        marks = grew.0;
        trail = begins;
        more = more;
        durable = durable;
        sent_is = sent_is ∙ ap (λ (ms : List Mark). all_posted (take durable ms)) same.marks_are;
        left = cut.left;
        left_is = cut.left_is;
        from_front = subst (λ (f : Flash). AfterPrefix shape f grew.0 durable cut.left) (sym pages_is) cut.from_front;
      }
