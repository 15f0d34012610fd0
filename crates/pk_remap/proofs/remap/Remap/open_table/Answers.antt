use Rattle.std.proofs.Common.{◌≡◌, ℕ, ◌*◌, refl, sym, ap, subst, ◌∙◌, arith, None}
use Rattle.std.specs.Prelude.{max}
use Rattle.pk_base.specs.Page.{Flash, page_at}
use Rattle.pk_nand.{specs.BoardState.BoardState, specs.declared.types.LoadFault.TheVariants.BadImage, specs.declared.types.LoadFault.TheVariants.Fault}
use Rattle.pk_remap.{specs.Newest.newest_table, specs.Causes.LoadCause, specs.Causes.no_table, proofs.Outer.find_same}
use Rattle.pk_remap.{specs.Remapped.is_open, specs.Remapped.is_sure, specs.Remapped.is_missing, specs.Remapped.spares_left}
use Rattle.pk_remap.{proofs.Remapping.no_bool, proofs.Remapping.holds_closed, proofs.Remapping.same_fits, proofs.Remapping.reading_none, proofs.Remapping.reading_reads, proofs.Remapping.reading_then}
use Rattle.pk_remap.proofs.Opening.{unknown_refused, unknown_then, load_cause_from, load_refused_as, load_cause_as}
use Rattle.pk_remap.{specs.declared.relocation.Relocation.Relocation as InMemory, proofs.Bounding.calls_still}
use Rattle.pk_remap.proofs.remap.Remap.open_table.Goals as goal

pub find-requires : goal.find-requires
find-requires g c =
    let h = c.args.self.now.holds in
    record { ready = c.requires.ready; shape_is = h.shape_is; few = h.few; taken = h.taken; room = h.room }

pub invariant_of-self : goal.invariant_of-self
invariant_of-self g c =
    let self = c.args.self.now in
    let old : BoardState = g.N.Nand.state self.inner in
    let new : BoardState = g.N.Nand.state c.find.new.inner in
    let same = find_same self.work old c.find.result c.find.new.self new c.find.ensures.found in
    let fits = same_fits self.work c.find.new.self self.holds.shape_is self.holds.few same in
    record {
      holds = holds_closed self.image c.find.new.self new (ap is_open c.requires.unknown) (ap is_sure c.requires.unknown)
          (λ e. no_bool (sym (ap is_missing c.requires.unknown) ∙ e)) fits.0 fits.1 fits.2 same.room;
      logs = record { unfit = self.logs.unfit; sized = λ e. no_bool (sym (ap is_open c.requires.unknown) ∙ e) };
    }

pub open_log-requires-clause-rests : goal.open_log-requires-clause-rests
open_log-requires-clause-rests g c = (rw c.in-Ok-true.field-0-test at c.in-Ok-true.ensures.found).0

pub open_log-requires-clause-all : goal.open_log-requires-clause-all
open_log-requires-clause-all g c =
    let own : c.find.new.self.taken ≡ max c.args.self.now.work.taken c.find.new.self.used = c.in-Ok-true.ensures.most c.in-Ok-true.field-0-test in
    let none = c.requires.none in
    omega (arith, own, none)

pub returns-in-Ok-true : goal.returns-in-Ok-true
returns-in-Ok-true g c =
    let self = c.args.self.now in
    let old : BoardState = g.N.Nand.state self.inner in
    let new : BoardState = g.N.Nand.state c.find.new.inner in
    let own = rw c.in-Ok-true.field-0-test at c.in-Ok-true.ensures.found in
    let there = c.open_log.new.self in
    let P : ℕ → Type 0 = λ n. LoadCause n new c.open_log.result (spares_left there.image there.work) (g.N.Nand.state there.inner) in
    record {
      answers = unknown_then self.image c.requires.unknown self.work c.find.new.self self.log self.log self.counts old new
          (ap (λ s. s.input) own.1) (ap (λ s. s.posted) own.1) refl c.open_log.result _ c.open_log.ensures.answers;
      cause = load_cause_from self.work.spares old new (g.N.Nand.state there.inner) c.open_log.result (spares_left there.image there.work)
          (ap (λ s. s.flash_faults) own.1) (subst P own.2.spares c.open_log.ensures.cause);
      reads = reading_then old new (g.N.Nand.state there.inner) (reading_reads (2 * self.work.shape.block_pages) old new own.1) c.open_log.ensures.reads;
      calls = calls_still _ old new (g.N.Nand.state there.inner) (ap g.N.Nand.state c.open_log.ensures.inner) c.find.ensures.calls;
      spares = c.open_log.ensures.spares ∙ own.2.spares;
    }

pub returns-in-Ok-false : goal.returns-in-Ok-false
returns-in-Ok-false g c =
    let self = c.args.self.now in
    let old : BoardState = g.N.Nand.state self.inner in
    let new : BoardState = g.N.Nand.state c.find.new.inner in
    let own = rw c.in-Ok-false.field-0-test at c.in-Ok-false.ensures.found in
    let P : Flash → Type 0 = λ f. newest_table self.work.shape self.work.spares (page_at f) ≡ None in
    record {
      answers = load_refused_as c.refuse.ensures.fault c.refuse.ensures.board (unknown_refused self.image c.requires.unknown self.work c.find.new.self self.log self.log self.counts old new
          (ap (λ s. s.input) own.1) (ap (λ s. s.posted) own.1) refl (BadImage 32));
      cause = load_cause_as self.work.spares old c.refuse.ensures.fault (ap g.N.Nand.state c.refuse.ensures.inner) (spares_left c.refuse.new.self.image c.refuse.new.self.work)
          (no_table self.work.shape (ap (λ s. s.shape) own.1 ∙ c.requires.ready.shape_is) (subst P (sym (ap (λ s. s.pages) own.1)) own.0) refl);
      reads = reading_then old new (g.N.Nand.state c.refuse.new.self.inner) (reading_reads (2 * self.work.shape.block_pages) old new own.1)
          (reading_none new (g.N.Nand.state c.refuse.new.self.inner) (ap g.N.Nand.state c.refuse.ensures.inner));
      calls = calls_still _ old new (g.N.Nand.state c.refuse.new.self.inner) (ap g.N.Nand.state c.refuse.ensures.inner) c.find.ensures.calls;
      spares = ap (λ (w : InMemory). w.spares) c.refuse.ensures.work ∙ own.2.spares;
    }

pub returns-in-Err : goal.returns-in-Err
returns-in-Err g c =
    let self = c.args.self.now in
    let old : BoardState = g.N.Nand.state self.inner in
    let failed = c.in-Err.ensures.found.0 in
    let there = c.refuse-in-Err in
    record {
      answers = load_refused_as there.ensures.fault there.ensures.board
          (unknown_refused self.image c.requires.unknown self.work c.find.new.self self.log self.log self.counts old (g.N.Nand.state c.find.new.inner)
          (ap (λ s. s.input) failed.rest) (ap (λ s. s.posted) failed.rest) refl Fault);
      cause = load_cause_as self.work.spares old there.ensures.fault (ap g.N.Nand.state there.ensures.inner) (spares_left there.new.self.image there.new.self.work) failed.flash;
      reads = reading_then old (g.N.Nand.state c.find.new.inner) (g.N.Nand.state there.new.self.inner) failed.rest
          (reading_none (g.N.Nand.state c.find.new.inner) (g.N.Nand.state there.new.self.inner) (ap g.N.Nand.state there.ensures.inner));
      calls = calls_still _ old (g.N.Nand.state c.find.new.inner) (g.N.Nand.state there.new.self.inner) (ap g.N.Nand.state there.ensures.inner) c.find.ensures.calls;
      spares = ap (λ (w : InMemory). w.spares) there.ensures.work ∙ c.in-Err.ensures.found.1.spares;
    }
