use Rattle.std.{proofs.Common.refl, proofs.Common.sym, proofs.Common.ap, proofs.Common.subst, proofs.Common.◌∙◌, specs.Prelude.Result, specs.Prelude.Err, specs.Prelude.IsOk, specs.Prelude.IsErr}
use Rattle.pk_base.{specs.declared.shape.ShapeError.ShapeError, specs.Shape.Shape}
use Rattle.pk_nand.{specs.BoardState.BoardState, specs.declared.types.LoadFault.TheVariants.Fault}
use Rattle.pk_remap.{specs.Places.inner_shape, specs.Remapped.spares_left, specs.Causes.MakeCause, specs.Causes.not_allowed}
use Rattle.pk_remap.{specs.Loading.no_call_made, specs.declared.relocation.Relocation.Relocation as InMemory}
use Rattle.pk_remap.{proofs.Remapping.missing_is, proofs.Opening.named_ok, proofs.Opening.missing_refused, proofs.Opening.make_refused_as, proofs.Opening.make_cause_as}
use Rattle.pk_remap.proofs.nand.RemapNand.make.Goals as goal

pub make_inner-requires : goal.make_inner-requires
make_inner-requires g c =
    let allowed = sym c.in-Ok.is ∙ c.inner_shape.ensures in
    let T : Result Shape ShapeError → Type 0 = λ r. IsOk r in
    record {
      missing = missing_is c.args.self.now.image c.requires;
      inner = named_ok (inner_shape c.args.shape c.args.self.now.work.spares) c.in-Ok.inner allowed;
      allowed = subst T allowed refl;
    }

pub returns-in-Ok : goal.returns-in-Ok
returns-in-Ok g c =
    let own = c.make_inner.ensures.answers in
    record {
      ok = own.ok;
      err = own.err;
      fault = own.fault;
      no_fault = own.no_fault;
      ready = own.ready;
      bad = own.bad;
      cause = c.make_inner.ensures.cause;
      cuts = c.make_inner.ensures.cuts;
      spares = c.make_inner.ensures.spares;
    }

pub returns-in-Err : goal.returns-in-Err
returns-in-Err g c =
    let self = c.args.self.now in
    let inner : BoardState = g.N.Nand.state self.inner in
    let there = c.refuse.new.self in
    let own = make_refused_as c.refuse.ensures.fault c.refuse.ensures.board
    (missing_refused self.image (missing_is self.image c.requires) self.work self.log self.counts inner c.args.shape Fault (λ at e. cc)) in
    let R : Result Shape ShapeError → Type 0 = λ r. IsErr r in
    let cause : MakeCause self.work.spares c.args.shape inner (Err Fault) (spares_left there.image there.work) inner =
    not_allowed (subst R (sym c.in-Err.is ∙ c.inner_shape.ensures) refl) refl in
    record {
      ok = own.ok;
      err = own.err;
      fault = own.fault;
      no_fault = own.no_fault;
      ready = own.ready;
      bad = own.bad;
      cause = make_cause_as self.work.spares c.args.shape inner c.refuse.ensures.fault (ap g.N.Nand.state c.refuse.ensures.inner) (spares_left there.image there.work) cause;
      cuts = no_call_made (ap g.N.Nand.state c.refuse.ensures.inner);
      spares = ap (λ (w : InMemory). w.spares) c.refuse.ensures.work;
    }
