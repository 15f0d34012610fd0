use Rattle.std.proofs.Common.{◌≡◌, ◌∙◌, ◌≤◌, ℕ, List, [], ◌∷◌, ◌++◌, length, refl, sym, ap, subst, inl, arith, IsTrue}
use Rattle.std.{proofs.Math.Logic.∥∥₁_map, proofs.lemmas.List.length-map, proofs.lemmas.List.append-nil}
use Rattle.pk_base.{specs.Page.Flash, specs.Page.whole}
use Rattle.pk_base.specs.Mark.{Mark, program, erase, post}
use Rattle.pk_nand.specs.Seen.{mark as seen_mark, marks as seen_marks}
use Rattle.pk_file.{specs.Slots.pages_of, specs.Logged.KeepsTrail}
use Rattle.pk_durable.specs.Durable.{OpenedAs, KeepsOpened}
use Rattle.pk_durable.proofs.Keeping.{same_keeps_opened, step_keeps_opened, post_keeps_opened, keeps_opened}
use Rattle.pk_durable.proofs.Posts.{posted_same, posted_post, first_same, first_all}
use Rattle.pk_durable.proofs.flash.DurableFlash.erase.Goals as goal

pub invariant_of-self-clause-posts : goal.invariant_of-self-clause-posts
invariant_of-self-clause-posts g c =
    let old = c.args.self.now in
    posted_same (seen_marks old.trail.marks.items) _ (erase c.args.block) old.sent.items old.waiting.items c.note.ensures.marks refl old.posts

pub invariant_of-self-clause-left_after : goal.invariant_of-self-clause-left_after
invariant_of-self-clause-left_after g c =
    let old = c.args.self.now in
    let low : old.durable ≤ length (seen_marks old.trail.marks.items) = omega (arith, old.within, length-map old.trail.marks.items seen_mark) in
    first_same (seen_marks old.trail.marks.items) _ _ old.durable old.sent.items c.note.ensures.marks low old.left_after

pub invariant_of-self-clause-keeps : goal.invariant_of-self-clause-keeps
invariant_of-self-clause-keeps g c =
    let old = c.args.self.now in
    let marks : List Mark = seen_marks old.trail.marks.items in
    let lasting = (c.is_lost.ensures.not c.if-is_lost.false).0 in
    ∥∥₁_map old.keeps (step_keeps_opened g.D.Disk old.shape old.opened_log.items old.opened_image.items marks old.durable old.redo c.erase_logged.new.redo
    c.erase_logged.ensures.clean c.erase_logged.ensures.image_clean lasting _ (erase c.args.block) (pages_of old.slots.items) (pages_of c.erase_logged.new.slots.items) c.note.ensures.marks
    c.in-Ok.ensures.pages (λ clean start k. c.in-Ok.ensures.keeps clean start marks old.durable k))

pub invariant_of-self-in-Err-1 : goal.invariant_of-self-in-Err-1
invariant_of-self-in-Err-1 g c =
    let old = c.args.self.now in
    let marks : List Mark = seen_marks old.trail.marks.items in
    let lasting = (c.is_lost.ensures.not c.if-is_lost.false).0 in
    let unchanged : pages_of c.erase_logged.new.slots.items ≡ pages_of old.slots.items = ap (λ slots. pages_of slots.items) c.in-Err.ensures.left in
    record {
      same = c.erase_logged.ensures.shape ∙ old.same;
      count = c.erase_logged.ensures.count ∙ old.count;
      fit = c.erase_logged.ensures.fit;
      within = old.within;
      posts = old.posts;
      left_after = old.left_after;
      keeps = subst (λ (f : Flash). ∥ KeepsOpened {D = g.row.D.Denot} g.D.Disk c.erase_logged.new.redo old.shape old.opened_log.items old.opened_image.items marks old.durable f ∥₁)
          (sym unchanged) (∥∥₁_map old.keeps (same_keeps_opened g.D.Disk old.shape old.opened_log.items old.opened_image.items marks old.durable old.redo c.erase_logged.new.redo
          c.erase_logged.ensures.clean c.erase_logged.ensures.image_clean lasting old.durable (pages_of old.slots.items)
          (λ clean start k. c.in-Err.ensures.failed clean start marks old.durable k)));
    }
