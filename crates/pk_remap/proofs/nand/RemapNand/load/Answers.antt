use Rattle.std.proofs.Common.{◌≡◌, Bool, refl, sym, ap, ◌∙◌, arith}
use Rattle.pk_nand.specs.BoardState.{BoardState}
use Rattle.pk_remap.{specs.Remapped.open_spares_left, specs.Remapped.spares_left, proofs.Remapping.no_bool, proofs.Opening.load_known, proofs.Opening.load_closed, proofs.Opening.shut_none}
use Rattle.pk_remap.{specs.Remapped.remap_board, proofs.Showing.opens_outer}
use Rattle.pk_remap.proofs.nand.RemapNand.load.Goals as goal

pub returns-then-is_open : goal.returns-then-is_open
returns-then-is_open g c =
    let self = c.args.self.now in
    let has_open = sym c.is_open.ensures ∙ c.if-is_open.true in
    let own = load_known self.image self.work self.log self.counts (g.N.Nand.state self.inner) has_open (self.holds.opened has_open) in
    record {
      ok = own.ok;
      err = own.err;
      fault = own.fault;
      no_fault = own.no_fault;
      ready = own.ready;
      bad = own.bad;
      held = λ some at e. cc;
      known = λ e. (refl, refl);
      cause = λ e. no_bool (sym e ∙ has_open);
      reads = λ e. no_bool (sym e ∙ has_open);
      opens = λ e. no_bool (sym e ∙ has_open);
      spares = refl;
      left = omega arith;
    }

pub returns-else-is_open : goal.returns-else-is_open
returns-else-is_open g c =
    let self = c.args.self.now in
    let inner : BoardState = g.N.Nand.state self.inner in
    let shut = sym c.is_open.ensures ∙ c.if-is_open.false in
    let there = c.load_inner.new.self in
    let own = load_closed self.image self.work self.log self.counts inner shut c.load_inner.result _ c.load_inner.ensures.answers in
    let none : spares_left self.image self.work ≡ 0 = ap (λ (b : Bool). open_spares_left b self.work) shut in
    record {
      ok = own.ok;
      err = own.err;
      fault = own.fault;
      no_fault = own.no_fault;
      ready = own.ready;
      bad = own.bad;
      held = λ some at e. shut_none self.image self.work self.log self.counts inner shut some;
      known = λ e. no_bool (sym shut ∙ e);
      cause = λ e. c.load_inner.ensures.cause;
      reads = λ e. c.load_inner.ensures.reads;
      opens = λ e shape held. opens_outer self.work.spares shape inner (g.N.Nand.state there.inner) held
          (remap_board self.image self.work self.log self.counts inner) there.image there.work there.log there.counts
          c.load_inner.ensures.spares _ c.load_inner.result c.load_inner.ensures.reads own c.load_inner.ensures.cause;
      spares = c.load_inner.ensures.spares;
      left = omega (arith, none);
    }
