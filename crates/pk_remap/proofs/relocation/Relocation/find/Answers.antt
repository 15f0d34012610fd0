use Rattle.std.proofs.Common.{ℕ, List, length, refl, ap, ◌∙◌}
use Rattle.pk_nand.specs.BoardState.{BoardState}
use Rattle.pk_remap.{proofs.Running.refilled, proofs.Outer.found_rests, proofs.Outer.found_taken}
use Rattle.pk_remap.proofs.relocation.Relocation.find.Goals as goal

pub returns-in-Ok-Some-clause-found : goal.returns-in-Ok-Some-clause-found
returns-in-Ok-Some-clause-found g c =
    let r = c.args.self.now in
    let board : BoardState = g.N.Nand.state c.args.inner.now in
    let new : List ℕ = c.newest_by.new.buffer in
    let buffer = refilled r.copy new (c.newest_by.auto.buffer ∙ c.deref_mut.ensures.len) (c.newest_by.auto.buffer ∙ ap length c.deref_mut.ensures.value) c.requires.room.read_page in
    rw c.take_found.ensures
    (found_rests r board c.requires c.in-Ok-Some.top c.newest_by.new.serves _ (rw c.in-Ok-Some.field-0-is at c.in-Ok-Some.ensures.found)
    (rw c.in-Ok-Some.field-0-is at c.in-Ok-Some.ensures.few) (c.in-Ok-Some.ensures.all ∙ c.requires.room.all) (rw buffer.0 buffer.1)
    (g.N.Nand.state c.newest_by.new.inner) c.in-Ok-Some.ensures.ok)

pub returns-in-Ok-Some-clause-taken : goal.returns-in-Ok-Some-clause-taken
returns-in-Ok-Some-clause-taken g c =
    rw c.take_found.ensures
    (found_taken c.args.self.now (g.N.Nand.state c.args.inner.now) c.requires c.in-Ok-Some.top c.newest_by.new.serves c.args.self.now.copy
    (rw c.in-Ok-Some.field-0-is at c.in-Ok-Some.ensures.found)
    (rw c.in-Ok-Some.field-0-is at c.in-Ok-Some.ensures.few) (c.in-Ok-Some.ensures.all ∙ c.requires.room.all))

pub returns-in-Ok-Some-clause-most : goal.returns-in-Ok-Some-clause-most
returns-in-Ok-Some-clause-most g c = rw c.take_found.ensures (λ e. refl)
