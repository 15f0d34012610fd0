use Rattle.std.proofs.Common.{inl, inr, ◌*◌, refl, sym, ap, subst, ◌∙◌, Option}
use Rattle.std.specs.Prelude.{Err}
use Rattle.pk_base.specs.Shape.{Shape}
use Rattle.pk_nand.{specs.BoardState.BoardState, specs.BoardState.shape_or_none, specs.declared.types.LoadFault.LoadFault}
use Rattle.pk_remap.{specs.declared.relocation.Relocation.Relocation as InMemory, specs.MostCalls.AtMostCalls, proofs.Bounding.calls_none}
use Rattle.pk_remap.{specs.declared.image.Image.TheVariants.Missing, specs.Remapped.is_open, specs.Remapped.is_sure, specs.Remapped.is_missing, specs.Remapped.spares_left}
use Rattle.pk_remap.{proofs.Remapping.no_bool, proofs.Remapping.holds_closed, proofs.Remapping.reading_none}
use Rattle.pk_remap.proofs.Opening.{unknown_refused, unknown_none, unknown_then, load_cause_refused, load_cause_from, load_refused_as, load_cause_as}
use Rattle.pk_remap.proofs.remap.Remap.load_inner.Goals as goal

pub invariant_of-self : goal.invariant_of-self
invariant_of-self g c =
    let self = c.args.self.now in
    let h = self.holds in
    record {
      holds = holds_closed self.image self.work (g.N.Nand.state c.load.new.self) (ap is_open c.requires.unknown) (ap is_sure c.requires.unknown)
          (λ e. no_bool (sym (ap is_missing c.requires.unknown) ∙ e)) h.shape_is h.few h.taken h.room;
      logs = self.logs;
    }

pub invariant_of-self-in-Ok-None : goal.invariant_of-self-in-Ok-None
invariant_of-self-in-Ok-None g c =
    let self = c.args.self.now in
    let h = self.holds in
    record {
      holds = holds_closed Missing self.work (g.N.Nand.state c.load.new.self) refl refl (λ e. c.in-Ok-None.ensures.ok.bare c.in-Ok-None.field-0-is) h.shape_is h.few h.taken h.room;
      logs = record { unfit = λ e. self.logs.unfit (ap is_open c.requires.unknown); sized = λ e. no_bool e };
    }

pub open_image-requires-clause-ready : goal.open_image-requires-clause-ready
open_image-requires-clause-ready g c = c.in-Ok-Some.ensures.ok.ready c.in-Ok-Some.found c.in-Ok-Some.field-0-is

pub returns-in-Ok-Some-clause-answers : goal.returns-in-Ok-Some-clause-answers
returns-in-Ok-Some-clause-answers g c =
    let self = c.args.self.now in
    let rest = c.in-Ok-Some.ensures.ok.rest in
    unknown_then self.image c.requires.unknown self.work self.work self.log self.log self.counts (g.N.Nand.state self.inner) (g.N.Nand.state c.load.new.self)
    (ap (λ s. s.input) rest) (ap (λ s. s.posted) rest) refl c.open_image.result _ c.open_image.ensures.answers

pub returns-in-Ok-Some-clause-cause : goal.returns-in-Ok-Some-clause-cause
returns-in-Ok-Some-clause-cause g c =
    let self = c.args.self.now in
    load_cause_from self.work.spares (g.N.Nand.state self.inner) (g.N.Nand.state c.load.new.self) (g.N.Nand.state c.open_image.new.self.inner) c.open_image.result _
    (ap (λ s. s.flash_faults) c.in-Ok-Some.ensures.ok.rest) c.open_image.ensures.cause

pub returns-in-Ok-None-clause-answers : goal.returns-in-Ok-None-clause-answers
returns-in-Ok-None-clause-answers g c =
    let self = c.args.self.now in
    let rest = c.in-Ok-None.ensures.ok.rest in
    unknown_none self.image c.requires.unknown self.work self.work self.log self.log self.counts (g.N.Nand.state self.inner) (g.N.Nand.state c.load.new.self)
    (ap (λ s. s.input) rest) (ap (λ s. s.posted) rest) refl c.requires.none_bad

pub returns-in-Ok-None-clause-cause : goal.returns-in-Ok-None-clause-cause
returns-in-Ok-None-clause-cause g c = c.in-Ok-None.ensures.ok.shape_is ∙ c.in-Ok-None.field-0-is

pub returns-in-Err-clause-answers : goal.returns-in-Err-clause-answers
returns-in-Err-clause-answers g c =
    let self = c.args.self.now in
    let rest = c.in-Err.ensures.err.rest in
    load_refused_as c.refuse.ensures.fault c.refuse.ensures.board
    (unknown_refused self.image c.requires.unknown self.work self.work self.log self.log self.counts (g.N.Nand.state self.inner) (g.N.Nand.state c.load.new.self)
    (ap (λ s. s.input) rest) (ap (λ s. s.posted) rest) refl c.in-Err.fault)

pub returns-in-Err-clause-cause : goal.returns-in-Err-clause-cause
returns-in-Err-clause-cause g c =
    let self = c.args.self.now in
    let old : BoardState = g.N.Nand.state self.inner in
    let left = spares_left c.refuse.new.self.image c.refuse.new.self.work in
    load_cause_as self.work.spares old c.refuse.ensures.fault (ap g.N.Nand.state c.refuse.ensures.inner) left
    (load_cause_refused self.work.spares old (g.N.Nand.state c.load.new.self) c.in-Err.fault left c.load.result c.in-Err.is c.load.ensures.fault c.load.ensures.bad)

pub returns-in-Ok-Some-clause-reads : goal.returns-in-Ok-Some-clause-reads
returns-in-Ok-Some-clause-reads g c =
    let mid : BoardState = g.N.Nand.state c.load.new.self in
    let T : Shape → Type 0 = λ s. AtMostCalls (2 * s.block_pages) mid (g.N.Nand.state c.open_image.new.self.inner) in
    let shape = ap (λ (o : Option Shape). shape_or_none o) (c.in-Ok-Some.ensures.ok.shape_is ∙ c.in-Ok-Some.field-0-is) in
    record { mid = mid; loads = inl (_, c.in-Ok-Some.ensures.ok); reads = c.open_image.ensures.reads; calls = subst T (sym shape) c.open_image.ensures.calls }

pub returns-in-Ok-None-clause-reads : goal.returns-in-Ok-None-clause-reads
returns-in-Ok-None-clause-reads g c =
    let mid : BoardState = g.N.Nand.state c.load.new.self in
    record { mid = mid; loads = inl (_, c.in-Ok-None.ensures.ok); reads = refl; calls = calls_none _ mid mid refl }

pub returns-in-Err-clause-reads : goal.returns-in-Err-clause-reads
returns-in-Err-clause-reads g c =
    let mid : BoardState = g.N.Nand.state c.load.new.self in
    let same = ap g.N.Nand.state c.refuse.ensures.inner in
    record {
      mid = mid;
      loads = inr (c.in-Err.ensures.err, λ some at e. c.load.ensures.held some at (c.in-Err.is ∙ ap (λ (f : LoadFault). Err f) (sym c.refuse.ensures.fault) ∙ e));
      reads = reading_none mid (g.N.Nand.state c.refuse.new.self.inner) same;
      calls = calls_none _ mid (g.N.Nand.state c.refuse.new.self.inner) same;
    }

pub returns-in-Err-clause-spares : goal.returns-in-Err-clause-spares
returns-in-Err-clause-spares g c = ap (λ (w : InMemory). w.spares) c.refuse.ensures.work
