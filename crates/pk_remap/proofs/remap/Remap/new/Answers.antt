use Rattle.std.proofs.Common.{refl, arith}
use Rattle.pk_remap.{specs.declared.image.Image.TheVariants.Unknown, proofs.Remapping.no_bool, proofs.Remapping.holds_closed}
use Rattle.pk_remap.proofs.remap.Remap.new.Goals as goal

pub invariant_of-result : goal.invariant_of-result
invariant_of-result g c = record {
  holds = holds_closed Unknown c.in-Ok.work (g.N.Nand.state c.args.inner) refl refl (λ e. no_bool e) c.in-Ok.ensures.shape
      (let few = c.requires.few in let is = c.in-Ok.ensures.spares in omega (arith, few, is))
      (let none = c.in-Ok.ensures.none in omega (arith, none)) c.in-Ok.ensures.room;
  logs = record { unfit = λ e. c.new-marks.ensures.bare; sized = λ e. no_bool e };
}
