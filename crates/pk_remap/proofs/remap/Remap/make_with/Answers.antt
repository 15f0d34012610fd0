use Rattle.std.{proofs.Common.refl, proofs.Common.sym, proofs.Common.subst, proofs.Common.ap, proofs.Common.◌∙◌, proofs.Common.Some, proofs.Common.replicate, specs.Prelude.Err}
use Rattle.pk_base.{specs.Shape.Shape, specs.Shape.page_count, specs.Page.erased}
use Rattle.pk_nand.{specs.BoardState.BoardState, specs.declared.types.LoadFault.LoadFault}
use Rattle.pk_remap.{specs.declared.image.Image.TheVariants.Unknown, specs.Remapped.is_open, specs.Remapped.is_missing, specs.Remapped.spares_left}
use Rattle.pk_remap.{proofs.Remapping.no_bool, proofs.Remapping.holds_closed}
use Rattle.pk_remap.proofs.Opening.{missing_failed, missing_then, make_cause_from, make_cause_refused, make_refused_as, make_cause_as}
use Rattle.pk_nand.{specs.Calls.Made, specs.Calls.MakeFailed}
use Rattle.pk_remap.{specs.declared.relocation.Relocation.Relocation as InMemory, specs.Loading.table_written, specs.Loading.inner_not_made}
use Rattle.pk_remap.proofs.remap.Remap.make_with.Goals as goal

pub make-requires : goal.make-requires
make-requires g c = c.args.self.now.holds.missing (ap is_missing c.requires.missing)

pub invariant_of-self : goal.invariant_of-self
invariant_of-self g c =
    let self = c.args.self.now in
    let h = self.holds in
    record {
      holds = holds_closed Unknown self.work (g.N.Nand.state c.make.new.self) refl refl (λ e. no_bool e) h.shape_is h.few h.taken h.room;
      logs = record { unfit = λ e. self.logs.unfit (ap is_open c.requires.missing); sized = λ e. no_bool e };
    }

pub make_table-requires-clause-made : goal.make_table-requires-clause-made
make_table-requires-clause-made g c =
    let made = c.in-Ok.ensures.ok in
    record {
      shape_is = made.shape_is ∙ ap (λ (s : Shape). Some s) c.requires.inner;
      all_erased = made.all_erased ∙ ap (λ (s : Shape). replicate (page_count s) erased) c.requires.inner;
    }

pub returns-in-Ok-clause-answers : goal.returns-in-Ok-clause-answers
returns-in-Ok-clause-answers g c =
    let self = c.args.self.now in
    let rest = c.in-Ok.ensures.ok.rest in
    missing_then self.image c.requires.missing self.work self.log self.counts (g.N.Nand.state self.inner) (g.N.Nand.state c.make.new.self)
    (ap (λ s. s.input) rest) (ap (λ s. s.posted) rest) c.args.shape c.make_table.result _ c.make_table.ensures.answers

pub returns-in-Ok-clause-cause : goal.returns-in-Ok-clause-cause
returns-in-Ok-clause-cause g c =
    let self = c.args.self.now in
    make_cause_from self.work.spares c.args.shape (g.N.Nand.state self.inner) (g.N.Nand.state c.make.new.self) (g.N.Nand.state c.make_table.new.self.inner)
    c.make_table.result _ c.requires.allowed (ap (λ s. s.flash_faults) c.in-Ok.ensures.ok.rest) c.make_table.ensures.cause

pub returns-in-Err-clause-answers : goal.returns-in-Err-clause-answers
returns-in-Err-clause-answers g c =
    let self = c.args.self.now in
    let rest = c.in-Err.ensures.err in
    make_refused_as c.refuse.ensures.fault c.refuse.ensures.board
    (missing_failed self.image c.requires.missing self.work self.log self.counts (g.N.Nand.state self.inner) (g.N.Nand.state c.make.new.self)
    (ap (λ s. s.input) rest) (ap (λ s. s.posted) rest) c.args.shape c.in-Err.fault
    (λ at e. c.make.ensures.bad at (c.in-Err.is ∙ ap (λ (f : LoadFault). Err f) e)))

pub returns-in-Err-clause-cause : goal.returns-in-Err-clause-cause
returns-in-Err-clause-cause g c =
    let self = c.args.self.now in
    let old : BoardState = g.N.Nand.state self.inner in
    let left = spares_left c.refuse.new.self.image c.refuse.new.self.work in
    make_cause_as self.work.spares c.args.shape old c.refuse.ensures.fault (ap g.N.Nand.state c.refuse.ensures.inner) left
    (make_cause_refused self.work.spares c.args.shape old (g.N.Nand.state c.make.new.self) c.in-Err.fault left c.make.result
    c.requires.allowed c.in-Err.is c.make.ensures.fault c.make.ensures.bad)

pub returns-in-Ok-clause-cuts : goal.returns-in-Ok-clause-cuts
returns-in-Ok-clause-cuts g c =
    let self = c.args.self.now in
    let T : Shape → Type 0 = λ s. Made (g.N.Nand.state self.inner) (g.N.Nand.state c.make.new.self) s in
    table_written (g.N.Nand.state c.make.new.self) (subst T c.requires.inner c.in-Ok.ensures.ok) c.make_table.ensures.cuts

pub returns-in-Err-clause-cuts : goal.returns-in-Err-clause-cuts
returns-in-Err-clause-cuts g c =
    let T : BoardState → Type 0 = λ s. MakeFailed (g.N.Nand.state c.args.self.now.inner) s in
    inner_not_made (subst T (sym (ap g.N.Nand.state c.refuse.ensures.inner)) c.in-Err.ensures.err)

pub returns-in-Err-clause-spares : goal.returns-in-Err-clause-spares
returns-in-Err-clause-spares g c = ap (λ (w : InMemory). w.spares) c.refuse.ensures.work
