-- What the calls of a board over an image and its log keep.
use Rattle.std.proofs.Common.{◌≡◌, ◌≢◌, ◌⊎◌, ℕ, ◌≤◌, List, [], ◌∷◌, ◌++◌, IsTrue, refl, sym, ◌∙◌, ap, subst, inl, inr, arith}
use Rattle.sqlite_disk.specs.declared.Disk.{Ghosts}
use Rattle.pk_base.{specs.Shape.Shape, specs.Page.Flash, specs.Mark.Mark, specs.Mark.post, specs.Mark.after, specs.Mark.after_all}
use Rattle.pk_redo.{specs.Image.ReadAs, specs.Kept.KeepsPages, specs.Kept.ReplayedTo, specs.declared.replay.Replay.Replay}
use Rattle.pk_redo.{specs.declared.redo_log.RedoLog.RedoLog, specs.declared.redo_log.LogState.TheVariants.Ended}
use Rattle.pk_file.specs.Logged.{KeepsTrail, StillKeepsTrail}
use Rattle.pk_file.proofs.Logging.{all_of, prefix_more, after_more, reads_more}
use Rattle.pk_durable.{specs.Durable.OpenedAs, specs.Durable.KeepsOpened, proofs.Reading.replayed_read}

module _ {D : Type 0} (g : Ghosts D) (shape : Shape) where
  -- ---- as it was opened

  pub keeps_opened : (redo : RedoLog D g) (own own_image log image : List ℕ) (replay : Replay) (pages : Flash) → own ≡ log → own_image ≡ image → redo.shape ≡ shape
      → ReplayedTo shape log image replay pages → KeepsPages g redo pages pages → OpenedAs g redo shape own own_image [] 0 pages
  keeps_opened redo own own_image log image replay pages is is_image same r k =
      let read = replayed_read shape log image replay pages r in
      record {
        start = pages;
        read = subst (λ (l : List ℕ). ReadAs shape l own_image pages) (sym is) (subst (λ (i : List ℕ). ReadAs shape log i pages) (sym is_image) read);
        are_after = refl;
        still = inl (record { kept = pages; is_prefix = all_of shape pages [] 0 pages refl (omega arith); keeps = k; are_after = refl; same_shape = same });
      }

  -- ---- calls

  module _ (log image : List ℕ) (marks : List Mark) (least : ℕ) (old new : RedoLog D g) (clean : IsTrue (g.is_clean new.log) → IsTrue (g.is_clean old.log))
      (image_clean : IsTrue (g.is_clean new.image) → IsTrue (g.is_clean old.image)) («open» : old.state ≢ Ended) where
    -- a call of a log that had not ended keeps the trail, or a longer one
    pub call_keeps_opened : (trail : List Mark) (n : ℕ) (before later : Flash) → ((start : Flash) → after_all shape marks start ≡ before → after_all shape trail start ≡ later)
        → (IsTrue (g.is_clean new.log) → (start : Flash) → KeepsTrail g old shape start marks least before → StillKeepsTrail g new shape start trail n later)
        → KeepsOpened g old shape log image marks least before → KeepsOpened g new shape log image trail n later
    call_keeps_opened trail n before later more call keeps is is_image =
        let k = keeps (clean is) (image_clean is_image) in
        record {
          start = k.start;
          read = k.read;
          are_after = more k.start k.are_after;
          still = elim k.still [ inl it ↦ call is k.start it | inr ended ↦ absurd («open» ended.0) ];
        }

    -- it changed no page
    pub same_keeps_opened : (n : ℕ) (pages : Flash)
        → (IsTrue (g.is_clean new.log) → (start : Flash) → KeepsTrail g old shape start marks least pages → StillKeepsTrail g new shape start marks n pages)
        → KeepsOpened g old shape log image marks least pages → KeepsOpened g new shape log image marks n pages
    same_keeps_opened n pages call keeps = call_keeps_opened marks n pages pages (λ start e. e) call keeps

    -- a step was added
    pub step_keeps_opened : (trail : List Mark) (mark : Mark) (before later : Flash) → trail ≡ marks ++ mark ∷ [] → later ≡ after shape mark before
        → (IsTrue (g.is_clean new.log) → (start : Flash) → KeepsTrail g old shape start marks least before → KeepsTrail g new shape start (marks ++ mark ∷ []) least later)
        → KeepsOpened g old shape log image marks least before → KeepsOpened g new shape log image trail least later
    step_keeps_opened trail mark before later is done call keeps =
        call_keeps_opened trail least before later
        (λ start e. ap (λ (ms : List Mark). after_all shape ms start) is ∙ (after_more shape start marks mark before e ∙ sym done))
        (λ clean_now start k. inl (subst (λ (ms : List Mark). KeepsTrail g new shape start ms least later) (sym is) (call clean_now start k))) keeps

  -- ---- posts

  still_more : (redo : RedoLog D g) (start : Flash) (marks : List Mark) (least : ℕ) (pages : Flash) (bytes : List ℕ)
      → StillKeepsTrail g redo shape start marks least pages → StillKeepsTrail g redo shape start (marks ++ post bytes ∷ []) least pages
  still_more redo start marks least pages bytes still = elim still [
    | inl k ↦ inl (record {
      kept = k.kept;
      is_prefix = prefix_more shape start marks least k.kept (post bytes) k.is_prefix;
      keeps = k.keeps;
      are_after = after_more shape start marks (post bytes) pages k.are_after;
      same_shape = k.same_shape;
    })
    | inr ended ↦ inr (ended.0, reads_more g shape start marks least redo (post bytes) ended.1)
  ]

  pub post_keeps_opened : (redo : RedoLog D g) (log image : List ℕ) (marks trail : List Mark) (least : ℕ) (pages : Flash) (bytes : List ℕ) → trail ≡ marks ++ post bytes ∷ []
      → KeepsOpened g redo shape log image marks least pages → KeepsOpened g redo shape log image trail least pages
  post_keeps_opened redo log image marks trail least pages bytes is keeps clean image_clean =
      let k = keeps clean image_clean in
      record {
        start = k.start;
        read = k.read;
        are_after = ap (λ (ms : List Mark). after_all shape ms k.start) is ∙ after_more shape k.start marks (post bytes) pages k.are_after;
        still = subst (λ (ms : List Mark). StillKeepsTrail g redo shape k.start ms least pages) (sym is) (still_more redo k.start marks least pages bytes k.still);
      }
