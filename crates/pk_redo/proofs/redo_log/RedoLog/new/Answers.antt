use Rattle.std.proofs.Common.{◌≡◌, ◌<◌, ℕ, [], slice_index, sym, refl, arith}
use Rattle.std.proofs.lemmas.List.{get_or-replicate}
use Rattle.pk_base.{specs.Shape.page_count}
use Rattle.pk_redo.specs.declared.redo_log.LogState.TheVariants.{Found, Ready}
use Rattle.pk_redo.specs.Kept.{replay_marks}
use Rattle.pk_redo.proofs.Writes.{same_itself}
use Rattle.pk_redo.proofs.Keeping.{found_lacking, found_others}
use Rattle.pk_redo.proofs.redo_log.RedoLog.new.Goals as goal

pub returns-clause-keeps : goal.returns-clause-keeps
returns-clause-keeps g c = λ kept only_log only_image r.
    let shape = c.args.shape in
    let replay = c.args.replay.now in
    let image = g.D.Disk.seen c.args.image in
    let unknown : (page : ℕ) → page < page_count shape → slice_index c.in_ok-extents.extents.items page ≡ shape.page_bytes =
    λ page low. search (arith, low, c.in_ok-extents.ensures, c.page_count-count.ensures, c.page_bytes.ensures, get_or-replicate) in
    let set = λ (page : ℕ) (low : page < page_count shape). rw c.deref.ensures.value at (c.in_ok-set_pages.ensures.set replay.bytes.items page low) in
    record {
      base = image;
      marks = replay_marks shape replay;
      later = [];
      files = record {
        stands = record { batches = r.batches; stands = λ l may. rw (only_log l may) r.stands; says = r.says; of_base = r.belongs };
        ready = λ is. absurd (let clash : Found ≡ Ready = is in cc);
        within = λ i may. rw (only_image i may) (same_itself shape (replay_marks shape replay) image r.fits);
        header = r.header;
      };
      batch = sym c.in_ok-new.ensures.0;
      is_kept = r.gives;
      is_now = refl;
      lacking = found_lacking shape (replay_marks shape replay) image kept _ r.gives c.in_ok-set_pages.ensures.len set;
      others = found_others shape (replay_marks shape replay) image kept _ r.gives c.in_ok-set_pages.ensures.len set;
      zeros = λ page i low from below. absurd (omega (arith, from, below, unknown page low));
    }
