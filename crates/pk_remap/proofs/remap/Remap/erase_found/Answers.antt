use Rattle.std.proofs.Common.{refl, ap}
use Rattle.pk_remap.{specs.declared.image.Image.TheVariants.Sure, specs.declared.image.Image.TheVariants.Unsure, specs.Remapped.is_open, specs.Remapped.is_sure}
use Rattle.pk_remap.proofs.Remapping.{rests, holds_rest, holds_unsure, same_fits, log_sized}
use Rattle.pk_remap.proofs.remap.Remap.erase_found.Goals as goal

pub erase_outer-requires-clause-rests : goal.erase_outer-requires-clause-rests
erase_outer-requires-clause-rests g c =
    let self = c.args.self.now in
    rests self.image self.work (g.N.Nand.state self.inner) self.holds (ap is_sure c.requires.sure)

pub invariant_of-self : goal.invariant_of-self
invariant_of-self g c =
    let self = c.args.self.now in
    let w = c.erase_outer.new.self in
    let own = c.in-Ok.ensures.outcome in
    record {
      holds = holds_rest Sure w (g.N.Nand.state c.erase_outer.new.inner) own.1 refl;
      logs = log_sized self.image Sure self.work.shape w.shape self.log self.log (ap is_open c.requires.sure) refl own.3.shape refl self.logs;
    }

pub invariant_of-self-in-Err : goal.invariant_of-self-in-Err
invariant_of-self-in-Err g c =
    let self = c.args.self.now in
    let w = c.erase_outer.new.self in
    let own = c.in-Err.ensures.outcome in
    let fits = same_fits self.work w self.holds.shape_is self.holds.few own.2 in
    record {
      holds = holds_unsure w (g.N.Nand.state c.erase_outer.new.inner) fits.0 fits.1 fits.2 own.2.room c.in-Err.ensures.counts.table;
      logs = log_sized self.image Unsure self.work.shape w.shape self.log self.log (ap is_open c.requires.sure) refl own.2.shape refl self.logs;
    }
