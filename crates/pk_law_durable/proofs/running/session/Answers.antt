use Rattle.std.proofs.Common.{◌∙◌, ◌++◌, Some, drop, sym, ap}
use Rattle.std.proofs.Math.Logic.{∥∥₁_map₂}
use Rattle.pk_nand.specs.Seen.{marks as seen_marks}
use Rattle.pk_file.specs.Slots.{pages_of}
use Rattle.pk_durable.specs.Durable.{opened_marks}
use Rattle.pk_law_durable.proofs.Sessions.{session_run}
use Rattle.pk_law_durable.proofs.running.session.Goals as goal

pub returns : goal.returns
returns g c =
    let old = c.args.flash in
    let made = c.new-board in
    let run = c.run-status in
    let back = c.into_flash-flash in
    let last = c.deliver.new.self in
    record {
      ran = λ log_clean image_clean clean both_clean log_left image_left may_log may_image. ∥∥₁_map₂ old.keeps last.keeps (λ opened still.
          session_run g.D.Disk old.shape old.redo last.redo _ c.args.input.items run.result.0 _ _ old.opened_log.items old.opened_image.items last.opened_log.items last.opened_image.items
          (seen_marks old.trail.marks.items) (seen_marks last.trail.marks.items) run.ensures.runs (ap (λ f. Some f.shape) made.ensures.flash) last.shape
          (ap (λ f. Some f.shape) (sym back.ensures) ∙ ap (λ s. Some s) (sym c.deliver.ensures.shape))
          (ap (λ n. Some (drop n made.result.input.items)) made.ensures.input.1 ∙ ap (λ v. Some v.items) made.ensures.input.0) (ap seen_marks c.requires.fresh)
          (ap (λ f. Some (opened_marks f.opened_log.items f.opened_image.items ++ seen_marks f.trail.marks.items)) made.ensures.flash)
          (ap (λ f. Some (opened_marks f.opened_log.items f.opened_image.items ++ seen_marks f.trail.marks.items)) (sym back.ensures)
          ∙ (ap (λ t. Some (opened_marks back.result.opened_log.items back.result.opened_image.items ++ seen_marks t.marks.items)) (sym c.deliver.ensures.trail)
          ∙ (ap (λ v. Some (opened_marks v.items back.result.opened_image.items ++ seen_marks last.trail.marks.items)) (sym c.deliver.ensures.opened.0)
          ∙ ap (λ v. Some (opened_marks last.opened_log.items v.items ++ seen_marks last.trail.marks.items)) (sym c.deliver.ensures.opened.1))))
          old.durable last.durable last.sent.items last.left_after (pages_of old.slots.items) (pages_of last.slots.items)
          (ap (λ f. pages_of f.slots.items) made.ensures.flash) (opened log_clean image_clean) (still clean both_clean) log_left image_left may_log may_image);
    }
