use Rattle.std.proofs.Common.{◌≡◌, ◌∙◌, ◌≤◌, ℕ, List, [], ◌∷◌, ◌++◌, length, refl, sym, ap, subst, inl, arith, IsTrue}
use Rattle.std.{proofs.Math.Logic.∥∥₁_map, proofs.lemmas.List.length-map, proofs.lemmas.List.append-nil}
use Rattle.pk_base.{specs.Page.Flash, specs.Page.whole}
use Rattle.pk_base.specs.Mark.{Mark, program, erase, post}
use Rattle.pk_nand.specs.Seen.{mark as seen_mark, marks as seen_marks}
use Rattle.pk_file.{specs.Slots.pages_of, specs.Logged.KeepsTrail}
use Rattle.pk_durable.specs.Durable.{OpenedAs, KeepsOpened}
use Rattle.pk_durable.proofs.Keeping.{same_keeps_opened, step_keeps_opened, post_keeps_opened, keeps_opened}
use Rattle.pk_durable.proofs.Posts.{posted_same, posted_post, first_same, first_all}
use Rattle.pk_durable.proofs.flash.DurableFlash.post.Goals as goal

pub invariant_of-self-2-clause-posts : goal.invariant_of-self-2-clause-posts
invariant_of-self-2-clause-posts g c =
    let old = c.args.self.now in
    let grown = c.note.ensures.marks ∙ ap (λ (bs : List ℕ). seen_marks old.trail.marks.items ++ post bs ∷ []) c.in-Ok.ensures in
    posted_post (seen_marks old.trail.marks.items) _ c.args.bytes.now old.sent.items old.waiting.items _ grown c.in-Ok-extend_from_slice.ensures.items old.posts

pub invariant_of-self-2-clause-left_after : goal.invariant_of-self-2-clause-left_after
invariant_of-self-2-clause-left_after g c =
    let old = c.args.self.now in
    let low : old.durable ≤ length (seen_marks old.trail.marks.items) = omega (arith, old.within, length-map old.trail.marks.items seen_mark) in
    first_same (seen_marks old.trail.marks.items) _ _ old.durable old.sent.items c.note.ensures.marks low old.left_after

pub invariant_of-self-2-clause-keeps : goal.invariant_of-self-2-clause-keeps
invariant_of-self-2-clause-keeps g c =
    let old = c.args.self.now in
    let marks : List Mark = seen_marks old.trail.marks.items in
    let grown = c.note.ensures.marks ∙ ap (λ (bs : List ℕ). marks ++ post bs ∷ []) c.in-Ok.ensures in
    ∥∥₁_map old.keeps (post_keeps_opened g.D.Disk old.shape old.redo old.opened_log.items old.opened_image.items marks _ old.durable (pages_of old.slots.items) c.args.bytes.now grown)
