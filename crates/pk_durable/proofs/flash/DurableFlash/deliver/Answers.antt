use Rattle.std.proofs.Common.{◌≡◌, ◌∙◌, ◌≤◌, ℕ, List, [], ◌∷◌, ◌++◌, length, refl, sym, ap, subst, inl, arith, IsTrue}
use Rattle.std.{proofs.Math.Logic.∥∥₁_map, proofs.lemmas.List.length-map, proofs.lemmas.List.append-nil}
use Rattle.pk_base.{specs.Page.Flash, specs.Page.whole}
use Rattle.pk_base.specs.Mark.{Mark, program, erase, post}
use Rattle.pk_nand.specs.Seen.{mark as seen_mark, marks as seen_marks}
use Rattle.pk_file.{specs.Slots.pages_of, specs.Logged.KeepsTrail}
use Rattle.pk_durable.specs.Durable.{OpenedAs, KeepsOpened}
use Rattle.pk_durable.proofs.Keeping.{same_keeps_opened, step_keeps_opened, post_keeps_opened, keeps_opened}
use Rattle.pk_durable.proofs.Posts.{posted_same, posted_post, first_same, first_all}
use Rattle.pk_durable.proofs.flash.DurableFlash.deliver.Goals as goal

pub invariant_of-self-then-not-commit_steps-clause-keeps : goal.invariant_of-self-then-not-commit_steps-clause-keeps
invariant_of-self-then-not-commit_steps-clause-keeps g c =
    let old = c.args.self.now in
    let marks : List Mark = seen_marks old.trail.marks.items in
    let lasting = (c.is_lost.ensures.not c.if-is_lost.false).0 in
    ∥∥₁_map old.keeps (same_keeps_opened g.D.Disk old.shape old.opened_log.items old.opened_image.items marks old.durable old.redo c.commit_steps.new.redo
    c.commit_steps.ensures.clean c.commit_steps.ensures.image_clean lasting old.durable (pages_of old.slots.items)
    (λ clean start k. c.commit_steps.ensures.failed clean old.shape start marks old.durable (pages_of old.slots.items) k))

pub invariant_of-self-in-Err-clause-posts : goal.invariant_of-self-in-Err-clause-posts
invariant_of-self-in-Err-clause-posts g c = let old = c.args.self.now in ap (λ (bs : List ℕ). bs ++ old.waiting.items) c.in-Err.ensures.items ∙ old.posts

pub invariant_of-self-in-Err-clause-keeps : goal.invariant_of-self-in-Err-clause-keeps
invariant_of-self-in-Err-clause-keeps g c =
    let old = c.args.self.now in
    let marks : List Mark = seen_marks old.trail.marks.items in
    let lasting = (c.is_lost.ensures.not c.if-is_lost.false).0 in
    ∥∥₁_map old.keeps (same_keeps_opened g.D.Disk old.shape old.opened_log.items old.opened_image.items marks old.durable old.redo c.commit_steps.new.redo
    c.commit_steps.ensures.clean c.commit_steps.ensures.image_clean lasting old.durable (pages_of old.slots.items)
    (λ clean start k. c.commit_steps.ensures.failed clean old.shape start marks old.durable (pages_of old.slots.items) k))

pub invariant_of-self-2-clause-posts : goal.invariant_of-self-2-clause-posts
invariant_of-self-2-clause-posts g c =
    let old = c.args.self.now in
    let new : List ℕ = c.extend_from_slice.new.self.items in
    let grown : new ≡ old.sent.items ++ old.waiting.items = c.in-Ok.ensures.items ∙ ap (λ (bs : List ℕ). old.sent.items ++ bs) c.deref.ensures.value in
    ap (λ (bs : List ℕ). new ++ bs) c.clear.ensures.items ∙ (append-nil new ∙ (grown ∙ old.posts))

pub invariant_of-self-2-clause-left_after : goal.invariant_of-self-2-clause-left_after
invariant_of-self-2-clause-left_after g c =
    let old = c.args.self.now in
    let new : List ℕ = c.extend_from_slice.new.self.items in
    let grown : new ≡ old.sent.items ++ old.waiting.items = c.in-Ok.ensures.items ∙ ap (λ (bs : List ℕ). old.sent.items ++ bs) c.deref.ensures.value in
    first_all (seen_marks old.trail.marks.items) c.len-self.result new (c.len-self.ensures ∙ sym (length-map old.trail.marks.items seen_mark)) (grown ∙ old.posts)

pub invariant_of-self-2-clause-keeps : goal.invariant_of-self-2-clause-keeps
invariant_of-self-2-clause-keeps g c =
    let old = c.args.self.now in
    let marks : List Mark = seen_marks old.trail.marks.items in
    let pages : Flash = pages_of old.slots.items in
    let lasting = (c.is_lost.ensures.not c.if-is_lost.false).0 in
    let all : length marks ≡ c.len-self.result = length-map old.trail.marks.items seen_mark ∙ sym c.len-self.ensures in
    ∥∥₁_map old.keeps (same_keeps_opened g.D.Disk old.shape old.opened_log.items old.opened_image.items marks old.durable old.redo c.commit_steps.new.redo
    c.commit_steps.ensures.clean c.commit_steps.ensures.image_clean lasting c.len-self.result pages
    (λ clean start k. inl (subst (λ (n : ℕ). KeepsTrail {D = g.row.D.Denot} g.D.Disk c.commit_steps.new.redo old.shape start marks n pages) all
    (c.if-not-commit_steps.ensures.keeps refl clean old.shape start marks old.durable pages k))))
