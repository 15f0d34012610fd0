use Rattle.std.proofs.Common.{◌≡◌, ◌∙◌, ◌≤◌, ℕ, List, [], ◌∷◌, ◌++◌, length, refl, sym, ap, subst, inl, arith, IsTrue}
use Rattle.std.{proofs.Math.Logic.∥∥₁_map, proofs.lemmas.List.length-map, proofs.lemmas.List.append-nil}
use Rattle.pk_base.{specs.Page.Flash, specs.Page.whole}
use Rattle.pk_base.specs.Mark.{Mark, program, erase, post}
use Rattle.pk_nand.specs.Seen.{mark as seen_mark, marks as seen_marks}
use Rattle.pk_file.{specs.Slots.pages_of, specs.Logged.KeepsTrail}
use Rattle.pk_durable.specs.Durable.{OpenedAs, KeepsOpened}
use Rattle.pk_durable.proofs.Keeping.{same_keeps_opened, step_keeps_opened, post_keeps_opened, keeps_opened}
use Rattle.pk_durable.proofs.Posts.{posted_same, posted_post, first_same, first_all}
use Rattle.pk_durable.proofs.flash.DurableFlash.open.Goals as goal

pub invariant_of-result-clause-fit : goal.invariant_of-result-clause-fit
invariant_of-result-clause-fit g c = c.in-Ok.ensures.fit

pub invariant_of-result-clause-keeps : goal.invariant_of-result-clause-keeps
invariant_of-result-clause-keeps g c =
    let redo = c.in-Ok-new-2.redo in
    let opened = c.in-Ok.opened in
    let pages : Flash = pages_of opened.slots.items in
    let log = c.read_files.new.log in
    let image = c.read_files.new.image in
    ∣ (λ clean image_clean.
    let log_clean = subst (λ (d : g.row.D.Denot). IsTrue (g.D.Disk.is_clean d)) c.in-Ok-new-2.ensures.disks.0 clean in
    let both_clean = subst (λ (d : g.row.D.Denot). IsTrue (g.D.Disk.is_clean d)) c.in-Ok-new-2.ensures.disks.1 image_clean in
    let found = c.in-Ok.ensures.found log_clean both_clean in
    let keeps = c.in-Ok-new-2.ensures.keeps pages c.in-Ok.ensures.log_only c.in-Ok.ensures.image_only found.2 in
    subst (λ (ms : List Mark). OpenedAs {D = g.row.D.Denot} g.D.Disk redo c.args.shape opened.log.items opened.image.items ms 0 pages) (sym (ap seen_marks c.in-Ok-new.ensures))
    (keeps_opened g.D.Disk c.args.shape redo opened.log.items opened.image.items (g.D.Disk.seen log) (g.D.Disk.seen image) opened.replay pages found.0 found.1
    c.in-Ok-new-2.ensures.shape found.2 keeps)) ∣₁
