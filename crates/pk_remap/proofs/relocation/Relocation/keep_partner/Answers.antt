use Rattle.std.proofs.Common.{◌≡◌, ◌-◌, ℕ, List, length, take, sym, ap, ◌∙◌, arith}
use Rattle.pk_base.specs.Page.{page_at, whole}
use Rattle.pk_nand.specs.BoardState.{BoardState}
use Rattle.pk_remap.{specs.Serving.outer_of, proofs.Running.answer_whole, proofs.Running.refilled, proofs.Outer.page_inside, proofs.Outer.outer_page, proofs.Outer.kept_other, proofs.Outer.kept_whole}
use Rattle.pk_remap.proofs.relocation.Relocation.keep_partner.Goals as goal

pub read_into-requires-clause-exists : goal.read_into-requires-clause-exists
read_into-requires-clause-exists g c =
    let inside = c.requires.inside in
    rw c.inner_page-at.ensures (page_inside c.args.self.now (g.N.Nand.state c.args.inner.now) c.requires.rests (c.args.page - 1) (omega (arith, inside)))

pub returns-in-Ok-Whole : goal.returns-in-Ok-Whole
returns-in-Ok-Whole g c =
    let r = c.args.self.now in
    let board : BoardState = g.N.Nand.state c.args.inner.now in
    let inside = c.requires.inside in
    let found = answer_whole (page_at board.pages c.inner_page-at.result) (rw c.in-Ok-Whole.field-0-is at c.in-Ok-Whole.ensures.found) in
    let outer : page_at (outer_of r board.pages) (c.args.page - 1) ≡ whole found.0 =
    outer_page r board c.requires.rests (c.args.page - 1) (omega (arith, inside)) ∙ ap (page_at board.pages) (sym c.inner_page-at.ensures) ∙ found.1 in
    let new : List ℕ = c.read_into.new.buffer in
    let buffer = refilled r.partner new (c.read_into.auto.buffer ∙ c.deref_mut.ensures.len) (c.read_into.auto.buffer ∙ ap length c.deref_mut.ensures.value) c.requires.rests.room.kept_page in
    let taken : take r.shape.page_bytes new ≡ found.0 = rw c.page_bytes-size.ensures.value at (c.in-Ok-Whole.ensures.bytes ∙ found.2 _) in
    kept_whole r board c.requires.rests c.args.page inside (rw c.block_pages.ensures.value at c.if-page-block_pages-eq0.false) _ _
    (g.N.Nand.state c.read_into.new.inner) found.0 (rw buffer.0 buffer.1) c.in-Ok-Whole.ensures.ok outer
    (ap (λ (x : List ℕ). take r.shape.page_bytes x) buffer.0 ∙ taken)

pub returns-in-Ok-Erased : goal.returns-in-Ok-Erased
returns-in-Ok-Erased g c =
    let r = c.args.self.now in
    let new : List ℕ = c.read_into.new.buffer in
    let buffer = refilled r.partner new (c.read_into.auto.buffer ∙ c.deref_mut.ensures.len) (c.read_into.auto.buffer ∙ ap length c.deref_mut.ensures.value) c.requires.rests.room.kept_page in
    kept_other r (g.N.Nand.state c.args.inner.now) c.requires.rests c.args.page _ _
    (g.N.Nand.state c.read_into.new.inner) (rw buffer.0 buffer.1) c.in-Ok-Erased.ensures.ok

pub returns-in-Ok-Torn : goal.returns-in-Ok-Torn
returns-in-Ok-Torn g c =
    let r = c.args.self.now in
    let new : List ℕ = c.read_into.new.buffer in
    let buffer = refilled r.partner new (c.read_into.auto.buffer ∙ c.deref_mut.ensures.len) (c.read_into.auto.buffer ∙ ap length c.deref_mut.ensures.value) c.requires.rests.room.kept_page in
    kept_other r (g.N.Nand.state c.args.inner.now) c.requires.rests c.args.page _ _
    (g.N.Nand.state c.read_into.new.inner) (rw buffer.0 buffer.1) c.in-Ok-Torn.ensures.ok
