use Rattle.std.{proofs.Common.◌≡◌, proofs.Common.◌≤◌, proofs.Common.◌-◌, proofs.Common.ℕ, proofs.Common.length, proofs.Common.take, proofs.Common.replicate, proofs.Common.refl, proofs.Common.sym}
use Rattle.std.{proofs.Common.ap, proofs.Common.subst, proofs.Common.◌∙◌, proofs.Common.arith, specs.Prelude.Ok}
use Rattle.pk_base.{specs.Shape.Shape, specs.Shape.IsShape, specs.Shape.page_count, specs.Page.page_at, specs.Page.erased}
use Rattle.pk_nand.{specs.BoardState.BoardState, specs.declared.types.LoadFault.TheVariants.Fault}
use Rattle.pk_remap.{specs.declared.image.Image.TheVariants.Sure, specs.declared.relocation.Relocation.Relocation as InMemory, specs.Running.relocation_of, specs.Running.HasPageBuffers}
use Rattle.pk_remap.{specs.FirstTable.IsMade, specs.FirstTable.IsNoneOrErased, specs.Serving.PassesCalls, specs.Answers.MakeAnswers, specs.Causes.ImageOpened, specs.Causes.inner_fault}
use Rattle.pk_remap.specs.Remapped.{is_open, is_sure, is_missing, remap_board, outer_pages, spares_left}
use Rattle.pk_remap.proofs.Opening.{unknown_make_refused, unknown_made, make_refused_as, make_cause_as}
use Rattle.pk_remap.{proofs.Finding.newest-found, proofs.Counting.has_table, proofs.Remapping.no_bool, proofs.Remapping.holds_closed, proofs.Remapping.holds_rest}
use Rattle.pk_remap.proofs.remap.Remap.make_table.Goals as goal

pub write_first_table-requires : goal.write_first_table-requires
write_first_table-requires g c =
    let self = c.args.self.now in
    let room = self.holds.room in
    let P : InMemory → Type 0 = λ w. IsMade w.shape w.spares (g.N.Nand.state self.inner) in
    record {
      made = subst P (sym c.fit.ensures) c.requires.made;
      few = (let same = ap (λ (w : InMemory). w.spares) c.fit.ensures in let few = self.holds.few in omega (arith, same, few));
      none = ap (λ (w : InMemory). w.taken) c.fit.ensures;
      room = subst HasPageBuffers (sym c.fit.ensures)
          (record { fits = omega arith; all = room.all; kept_page = room.kept_page; new_page = room.new_page; read_page = room.read_page });
    }

pub invariant_of-self : goal.invariant_of-self
invariant_of-self g c =
    let own = c.in-Ok.ensures in
    let shape : c.write_first_table.new.self.shape ≡ c.args.shape = own.shape ∙ ap (λ (x : InMemory). x.shape) c.fit.ensures in
    record {
      holds = holds_rest Sure c.write_first_table.new.self (g.N.Nand.state c.write_first_table.new.inner) own.rests refl;
      logs = record { unfit = λ e. no_bool (sym e); sized = λ e. c.requires.sized ∙ sym (ap (λ (s : Shape). s.page_bytes) shape) };
    }

pub invariant_of-self-in-Err : goal.invariant_of-self-in-Err
invariant_of-self-in-Err g c =
    let self = c.args.self.now in
    let w = c.write_first_table.new.self in
    let own = c.in-Err.ensures in
    let shape : w.shape ≡ c.args.shape = own.shape ∙ ap (λ (x : InMemory). x.shape) c.fit.ensures in
    let spares : w.spares ≡ self.work.spares = own.spares ∙ ap (λ (x : InMemory). x.spares) c.fit.ensures in
    let few = self.holds.few in
    let none = own.none in
    record {
      holds = holds_closed self.image w (g.N.Nand.state c.write_first_table.new.inner) (ap is_open c.requires.unknown) (ap is_sure c.requires.unknown)
          (λ e. no_bool (sym (ap is_missing c.requires.unknown) ∙ e))
          (subst (λ (s : Shape). IsShape s) (sym shape) c.known.ensures) (omega (arith, spares, few)) (omega (arith, none)) own.room;
      logs = record { unfit = self.logs.unfit; sized = λ e. no_bool (sym (ap is_open c.requires.unknown) ∙ e) };
    }

pub returns-in-Ok : goal.returns-in-Ok
returns-in-Ok g c =
    let self = c.args.self.now in
    let old : BoardState = g.N.Nand.state self.inner in
    let new : BoardState = g.N.Nand.state c.write_first_table.new.inner in
    let w = c.write_first_table.new.self in
    let own = c.in-Ok.ensures in
    let shape : w.shape ≡ c.args.shape = own.shape ∙ ap (λ (x : InMemory). x.shape) c.fit.ensures in
    let spares : w.spares ≡ self.work.spares = own.spares ∙ ap (λ (x : InMemory). x.spares) c.fit.ensures in
    let none = own.none in
    let all : outer_pages w.shape w.spares new.pages ≡ replicate (page_count w.shape) erased =
    (λ i. outer_pages (own.shape i) (own.spares i) new.pages) ∙ own.shown ∙ ap (λ (s : Shape). replicate (page_count s) erased) (sym own.shape) in
    let P : Shape → Type 0 = λ s. MakeAnswers (remap_board self.image self.work self.log self.counts old) s (Ok tt) (remap_board Sure w c.args.log self.counts new) in
    let Q : Shape → Type 0 = λ s. ImageOpened w.spares s (w.spares - w.taken) new in
    let R : ℕ → Type 0 = λ n. ImageOpened n c.args.shape (w.spares - w.taken) new in
    let C : InMemory → Type 0 = λ x. PassesCalls (IsNoneOrErased x.shape x.spares) old new in
    let used : length (take w.used w.serves) ≤ w.taken = own.rests.used in
    let opened : ImageOpened w.spares w.shape (w.spares - w.taken) new = record {
      shape_is = own.rests.ready.shape_is;
      top = (w.top, (relocation_of w).table);
      newest = newest-found w.shape w.spares (page_at new.pages) w.top (relocation_of w).table own.rests.top;
      others = omega (arith, none, used);
    } in
    record {
      answers = subst P shape (unknown_made self.image c.requires.unknown self.work w self.log c.args.log self.counts old new
          (ap (λ s. s.input) own.rest) (ap (λ s. s.posted) own.rest) c.requires.told tt
          (has_table w new w.top (relocation_of w).table own.rests.ready own.rests.top own.rests.used) all);
      cause = (subst R spares (subst Q shape opened), omega (arith, none, spares), c.requires.allowed);
      cuts = subst C c.fit.ensures own.cuts;
      spares = spares;
    }

pub returns-in-Err : goal.returns-in-Err
returns-in-Err g c =
    let self = c.args.self.now in
    let old : BoardState = g.N.Nand.state self.inner in
    let is = c.in-Err.ensures in
    let there = c.refuse.new.self in
    let C : InMemory → Type 0 = λ x. PassesCalls (IsNoneOrErased x.shape x.spares) old (g.N.Nand.state c.write_first_table.new.inner) in
    let S : BoardState → Type 0 = λ s. PassesCalls (IsNoneOrErased c.args.shape self.work.spares) old s in
    record {
      answers = make_refused_as c.refuse.ensures.fault c.refuse.ensures.board
          (unknown_make_refused self.image c.requires.unknown self.work c.write_first_table.new.self self.log self.log self.counts old (g.N.Nand.state c.write_first_table.new.inner)
          (ap (λ s. s.input) is.rest) (ap (λ s. s.posted) is.rest) refl c.args.shape Fault (λ at e. cc));
      cause = make_cause_as self.work.spares c.args.shape old c.refuse.ensures.fault (ap g.N.Nand.state c.refuse.ensures.inner) (spares_left there.image there.work)
          (inner_fault c.requires.allowed is.faults);
      cuts = subst S (sym (ap g.N.Nand.state c.refuse.ensures.inner)) (subst C c.fit.ensures is.cuts);
      spares = ap (λ (x : InMemory). x.spares) c.refuse.ensures.work ∙ is.spares ∙ ap (λ (x : InMemory). x.spares) c.fit.ensures;
    }
