use Rattle.std.proofs.Common.{◌≡◌, ◌∙◌, ℕ, List, [], ◌∷◌, ◌++◌, length, sym, refl, ap, subst, arith, IsTrue}
use Rattle.pk_base.specs.Shape.{Shape}
use Rattle.pk_base.specs.Page.{Flash}
use Rattle.pk_base.specs.Mark.{Mark, erase, after}
use Rattle.pk_nand.specs.BoardState.{shape_or_none}
use Rattle.std.proofs.Common.{Some}
use Rattle.std.proofs.lemmas.List.{length-map}
use Rattle.pk_redo.specs.Kept.{KeepsPages}
use Rattle.pk_file.{specs.Slots.pages_of, specs.Slots.slot_page, proofs.Rows.erase_done}
use Rattle.pk_file.proofs.Logging.{reads_kept, reads_more, call_reads, call_keeps, call_kept, keeps_more}
use Rattle.pk_file.proofs.logged.erase_logged.Goals as goal

pub returns-in-Err-clause-crash : goal.returns-in-Err-clause-crash
returns-in-Err-clause-crash g c clean start trail least k =
    let pages : Flash = pages_of c.args.slots.now.items in
    reads_more g.D.Disk c.args.shape.now start trail least c.ready.new.self (erase c.args.block)
    (call_reads g.D.Disk c.args.shape.now start trail least c.args.redo.now c.ready.new.self pages c.ready.ensures.shape k (λ kept h. c.ready.ensures.keeps clean kept pages h refl))

pub returns-in-Err-clause-failed : goal.returns-in-Err-clause-failed
returns-in-Err-clause-failed g c clean start trail least k =
    let pages : Flash = pages_of c.args.slots.now.items in
    call_keeps g.D.Disk c.args.shape.now start trail least c.args.redo.now c.ready.new.self pages c.ready.ensures.shape k (λ kept h. c.ready.ensures.keeps clean kept pages h refl)

pub returns-clause-pages : goal.returns-clause-pages
returns-clause-pages g c =
    let shape : Shape = c.args.shape.now in
    let count : ℕ = c.block_pages-count.result in
    erase_done (Some shape) shape refl c.block_pages-count.ensures.shape c.args.block count count
    (pages_of c.args.slots.now.items) (pages_of c.erase_slots.new.slots.items)
    c.block_pages-count.ensures.value (omega arith) (omega arith) c.requires.exists (length-map c.args.slots.now.items slot_page ∙ c.requires.count) c.erase_slots.ensures.pages

pub returns-clause-keeps : goal.returns-clause-keeps
returns-clause-keeps g c clean start trail least k =
    let shape : Shape = c.args.shape.now in
    let pages : Flash = pages_of c.args.slots.now.items in
    let same : c.ready.new.self.shape ≡ shape = c.ready.ensures.shape ∙ c.requires.shape in
    let before = subst (λ (d : g.row.D.Denot). IsTrue (g.D.Disk.is_clean d)) c.erase.ensures.disks.0 clean in
    let mid = call_kept g.D.Disk shape start trail least c.args.redo.now c.ready.new.self pages c.ready.ensures.shape k
    (λ kept h. c.ready.ensures.keeps before kept pages h refl) c.in-Ok.ensures.room.ready in
    keeps_more g.D.Disk shape start trail least c.ready.new.self c.erase.new.self (erase c.args.block) pages (pages_of c.erase_slots.new.slots.items)
    (c.erase.ensures.shape ∙ same) mid
    (λ kept h. subst (λ (s : Shape). KeepsPages {D = g.row.D.Denot} g.D.Disk c.erase.new.self kept (after s (erase c.args.block) pages)) same (c.erase.ensures.keeps kept pages h))
    (returns-clause-pages g c)

pub returns-clause-crash : goal.returns-clause-crash
returns-clause-crash g c clean start trail least k =
    reads_kept g.D.Disk c.args.shape.now start (trail ++ erase c.args.block ∷ []) least c.erase.new.self _ (returns-clause-keeps g c clean start trail least k)
