use Rattle.std.proofs.Common.{◌≡◌, ◌∙◌, ℕ, List, [], ◌∷◌, ◌++◌, length, sym, refl, ap, subst, inl, slice_set, IsTrue}
use Rattle.pk_base.specs.Shape.{Shape}
use Rattle.pk_base.specs.Fields.{padded}
use Rattle.pk_base.specs.Page.{Flash, IsPage, whole}
use Rattle.pk_base.specs.Mark.{Mark, program, after}
use Rattle.pk_redo.specs.Kept.{KeepsPages}
use Rattle.pk_file.{specs.Slots.pages_of, specs.Logged.KeepsTrail, specs.Trims.bytes_in}
use Rattle.pk_file.proofs.Logging.{front_padded, reads_kept, reads_more, call_reads, call_keeps, call_kept, keeps_more}
use Rattle.pk_file.proofs.logged.program_logged.Goals as goal

pub returns-in_default-clause-crash : goal.returns-in_default-clause-crash
returns-in_default-clause-crash g c clean start trail least k =
    reads_more g.D.Disk c.args.shape.now start trail least c.args.redo.now (program c.args.page c.args.bytes.now)
    (reads_kept g.D.Disk c.args.shape.now start trail least c.args.redo.now (pages_of c.args.slots.now.items) k)

pub returns-in-Err-clause-crash : goal.returns-in-Err-clause-crash
returns-in-Err-clause-crash g c clean start trail least k =
    let pages : Flash = pages_of c.args.slots.now.items in
    reads_more g.D.Disk c.args.shape.now start trail least c.ready.new.self (program c.args.page c.args.bytes.now)
    (call_reads g.D.Disk c.args.shape.now start trail least c.args.redo.now c.ready.new.self pages c.ready.ensures.shape k (λ kept h. c.ready.ensures.keeps clean kept pages h refl))

pub returns-in-Err-clause-failed : goal.returns-in-Err-clause-failed
returns-in-Err-clause-failed g c clean start trail least k =
    let pages : Flash = pages_of c.args.slots.now.items in
    call_keeps g.D.Disk c.args.shape.now start trail least c.args.redo.now c.ready.new.self pages c.ready.ensures.shape k (λ kept h. c.ready.ensures.keeps clean kept pages h refl)

pub returns-clause-fit : goal.returns-clause-fit
returns-clause-fit g c =
    let shape : Shape = c.args.shape.now in
    c.set_slot.ensures.fit shape c.requires.fit (λ bs e.
    let same : bytes_in c.in-Ok.kept ≡ bs = cc in
    subst (λ (b : List ℕ). IsPage shape b) (sym c.in-Ok.ensures ∙ same) (c.requires.full, c.known.ensures))

pub returns-clause-keeps : goal.returns-clause-keeps
returns-clause-keeps g c clean start trail least k =
    let shape : Shape = c.args.shape.now in
    let pages : Flash = pages_of c.args.slots.now.items in
    let bytes : List ℕ = c.args.bytes.now in
    let same : c.ready.new.self.shape ≡ shape = c.ready.ensures.shape ∙ c.requires.shape in
    let size : ℕ = c.ready.new.self.shape.page_bytes in
    let full : length bytes ≡ size = c.requires.full ∙ sym (ap (λ (s : Shape). s.page_bytes) same) in
    let is : padded size c.as_slice.result.now ≡ bytes = ap (λ (l : List ℕ). padded size l) c.as_slice.ensures.value ∙ front_padded c.in-Ok.kept bytes size c.in-Ok.ensures full in
    let before = subst (λ (d : g.row.D.Denot). IsTrue (g.D.Disk.is_clean d)) c.program.ensures.disks.0 clean in
    let mid = call_kept g.D.Disk shape start trail least c.args.redo.now c.ready.new.self pages c.ready.ensures.shape k
    (λ kept h. c.ready.ensures.keeps before kept pages h refl) c.in-Ok-ready.ensures.room.ready in
    let behind : pages_of c.set_slot.new.slots.items ≡ slice_set pages c.args.page (whole bytes) =
    c.set_slot.ensures.pages ∙ ap (λ (b : List ℕ). slice_set pages c.args.page (whole b)) c.in-Ok.ensures in
    keeps_more g.D.Disk shape start trail least c.ready.new.self c.program.new.self (program c.args.page bytes) pages (pages_of c.set_slot.new.slots.items)
    (c.program.ensures.shape ∙ same) mid
    (λ kept h. subst (λ (b : List ℕ). KeepsPages {D = g.row.D.Denot} g.D.Disk c.program.new.self kept (slice_set pages c.args.page (whole b))) is (c.program.ensures.keeps kept pages h))
    behind

pub returns-clause-crash : goal.returns-clause-crash
returns-clause-crash g c clean start trail least k =
    reads_kept g.D.Disk c.args.shape.now start (trail ++ program c.args.page c.args.bytes.now ∷ []) least c.program.new.self _ (returns-clause-keeps g c clean start trail least k)
