use Rattle.std.proofs.Common.{◌≡◌, ◌*◌, ℕ, refl, sym, ap, subst, ◌∙◌, arith}
use Rattle.std.specs.Prelude.{Result, IsErr, None}
use Rattle.pk_base.{specs.declared.shape.ShapeError.ShapeError, specs.Shape.Shape}
use Rattle.pk_nand.{specs.BoardState.BoardState, specs.Calls.IsReady, specs.declared.types.LoadFault.TheVariants.BadImage}
use Rattle.pk_remap.{specs.declared.relocation.Relocation.Relocation as InMemory, specs.Places.inner_shape, specs.Causes.LoadCause, specs.Causes.no_outer_shape}
use Rattle.pk_remap.{specs.Remapped.RemapHolds, specs.Remapped.is_open, specs.Remapped.is_sure, specs.Remapped.is_missing, specs.Remapped.spares_left}
use Rattle.pk_remap.{proofs.Remapping.no_bool, proofs.Remapping.holds_closed, proofs.Remapping.reading_none, proofs.Opening.with_spares, proofs.Opening.unknown_refused, proofs.Opening.unknown_then}
use Rattle.pk_remap.proofs.Opening.{load_refused_as, load_cause_as, named_ok}
use Rattle.pk_remap.{specs.Remapped.without_spares, specs.MostCalls.AtMostCalls, proofs.Bounding.calls_none}
use Rattle.pk_remap.proofs.remap.Remap.open_image.Goals as goal

pub invariant_of-self : goal.invariant_of-self
invariant_of-self g c =
    let self = c.args.self.now in
    let h = self.holds in
    let inner : BoardState = g.N.Nand.state self.inner in
    let P : InMemory → Type 0 = λ w. RemapHolds self.image w inner in
    let fitted : InMemory = record self.work { shape = c.in-Ok.shape; number = 0; used = 0; top = 0; next = None; taken = 0 } in
    record {
      holds = subst P (sym c.fit.ensures)
          (holds_closed self.image fitted inner (ap is_open c.requires.unknown) (ap is_sure c.requires.unknown) (λ e. no_bool (sym (ap is_missing c.requires.unknown) ∙ e))
          c.known.ensures h.few (omega arith)
          (record { fits = omega arith; all = h.room.all; kept_page = h.room.kept_page; new_page = h.room.new_page; read_page = h.room.read_page }));
      logs = record { unfit = self.logs.unfit; sized = λ e. no_bool (sym (ap is_open c.requires.unknown) ∙ e) };
    }

pub open_table-requires-clause-ready : goal.open_table-requires-clause-ready
open_table-requires-clause-ready g c =
    let self = c.args.self.now in
    let inner : BoardState = g.N.Nand.state self.inner in
    let same : inner_shape c.in-Ok.shape self.work.spares ≡ c.args.found.now =
    with_spares c.args.found.now c.in-Ok.shape self.work.spares (sym c.in-Ok.is ∙ c.outer_shape.ensures) c.known.ensures in
    let P : Shape → Type 0 = λ s. IsReady inner s in
    let Q : InMemory → Type 0 = λ w. IsReady inner (inner_shape w.shape w.spares) in
    subst Q (sym c.fit.ensures) (subst P (sym same) c.requires.ready)

pub open_table-requires-clause-none : goal.open_table-requires-clause-none
open_table-requires-clause-none g c = ap (λ (w : InMemory). w.taken) c.fit.ensures

pub returns-in-Ok-clause-answers : goal.returns-in-Ok-clause-answers
returns-in-Ok-clause-answers g c =
    let self = c.args.self.now in
    unknown_then self.image c.requires.unknown self.work c.fit.new.self self.log self.log self.counts (g.N.Nand.state self.inner) (g.N.Nand.state self.inner)
    refl refl refl c.open_table.result _ c.open_table.ensures.answers

pub returns-in-Ok-clause-cause : goal.returns-in-Ok-clause-cause
returns-in-Ok-clause-cause g c =
    let self = c.args.self.now in
    let there = c.open_table.new.self in
    let P : ℕ → Type 0 = λ n. LoadCause n (g.N.Nand.state self.inner) c.open_table.result (spares_left there.image there.work) (g.N.Nand.state there.inner) in
    subst P (ap (λ (w : InMemory). w.spares) c.fit.ensures) c.open_table.ensures.cause

pub returns-in-Err-clause-answers : goal.returns-in-Err-clause-answers
returns-in-Err-clause-answers g c =
    let self = c.args.self.now in
    load_refused_as c.refuse.ensures.fault c.refuse.ensures.board
    (unknown_refused self.image c.requires.unknown self.work self.work self.log self.log self.counts (g.N.Nand.state self.inner) (g.N.Nand.state self.inner) refl refl refl (BadImage 32))

pub returns-in-Err-clause-cause : goal.returns-in-Err-clause-cause
returns-in-Err-clause-cause g c =
    let self = c.args.self.now in
    let T : Result Shape ShapeError → Type 0 = λ r. IsErr r in
    load_cause_as self.work.spares (g.N.Nand.state self.inner) c.refuse.ensures.fault (ap g.N.Nand.state c.refuse.ensures.inner)
    (spares_left c.refuse.new.self.image c.refuse.new.self.work)
    (no_outer_shape c.args.found.now c.requires.ready.shape_is (subst T (sym c.in-Err.is ∙ c.outer_shape.ensures) refl) refl)

pub returns-in-Ok-clause-reads : goal.returns-in-Ok-clause-reads
returns-in-Ok-clause-reads g c = c.open_table.ensures.reads

pub returns-in-Err-clause-reads : goal.returns-in-Err-clause-reads
returns-in-Err-clause-reads g c = reading_none (g.N.Nand.state c.args.self.now.inner) (g.N.Nand.state c.refuse.new.self.inner) (ap g.N.Nand.state c.refuse.ensures.inner)

pub returns-in-Ok-clause-calls : goal.returns-in-Ok-clause-calls
returns-in-Ok-clause-calls g c =
    let self = c.args.self.now in
    let is = named_ok (without_spares c.args.found.now self.work.spares) c.in-Ok.shape (sym c.in-Ok.is ∙ c.outer_shape.ensures) in
    let same : c.fit.new.self.shape.block_pages ≡ c.args.found.now.block_pages = ap (λ (w : InMemory). w.shape.block_pages) c.fit.ensures ∙ ap (λ (s : Shape). s.block_pages) is in
    let T : ℕ → Type 0 = λ n. AtMostCalls (2 * n) (g.N.Nand.state self.inner) (g.N.Nand.state c.open_table.new.self.inner) in
    subst T same c.open_table.ensures.calls

pub returns-in-Ok-clause-spares : goal.returns-in-Ok-clause-spares
returns-in-Ok-clause-spares g c = c.open_table.ensures.spares ∙ ap (λ (w : InMemory). w.spares) c.fit.ensures

pub returns-in-Err-clause-calls : goal.returns-in-Err-clause-calls
returns-in-Err-clause-calls g c = calls_none _ (g.N.Nand.state c.args.self.now.inner) (g.N.Nand.state c.refuse.new.self.inner) (ap g.N.Nand.state c.refuse.ensures.inner)

pub returns-in-Err-clause-spares : goal.returns-in-Err-clause-spares
returns-in-Err-clause-spares g c = ap (λ (w : InMemory). w.spares) c.refuse.ensures.work
