use Rattle.std.proofs.Common.{refl, ap}
use Rattle.pk_nand.specs.BoardState.{BoardState}
use Rattle.pk_remap.{specs.declared.image.Image.TheVariants.Sure, specs.Remapped.SameTaken}
use Rattle.pk_remap.proofs.Remapping.{holds_rest, holds_table, table_again, same_fits, log_sized, unsure_is, reading_reads}
use Rattle.pk_remap.proofs.remap.Remap.search_table.Goals as goal

pub find-requires : goal.find-requires
find-requires g c =
    let h = c.args.self.now.holds in
    record { ready = (h.opened c.requires.opened).ready; shape_is = h.shape_is; few = h.few; taken = h.taken; room = h.room }

pub unreachable-requires : goal.unreachable-requires
unreachable-requires g c =
    let own = rw c.in-Ok-false.field-0-test at c.in-Ok-false.ensures.found in
    (c.args.self.now.holds.opened c.requires.opened).some own.0

pub invariant_of-self : goal.invariant_of-self
invariant_of-self g c =
    let self = c.args.self.now in
    let own = rw c.in-Ok-true.field-0-test at c.in-Ok-true.ensures.found in
    record {
      holds = holds_rest Sure c.find.new.self (g.N.Nand.state c.find.new.inner) own.0 refl;
      logs = log_sized self.image Sure self.work.shape c.find.new.self.shape self.log self.log c.requires.opened refl own.2.shape refl self.logs;
    }

pub invariant_of-self-in-Err : goal.invariant_of-self-in-Err
invariant_of-self-in-Err g c =
    let self = c.args.self.now in
    let old : BoardState = g.N.Nand.state self.inner in
    let new : BoardState = g.N.Nand.state c.find.new.inner in
    let own = c.in-Err.ensures.found in
    let table = self.holds.opened c.requires.opened in
    let fits = same_fits self.work c.find.new.self self.holds.shape_is self.holds.few own.1 in
    let same : SameTaken self.work c.find.new.self = record { shape = own.1.shape; spares = own.1.spares; taken = c.find.ensures.taken table.used } in
    record {
      holds = holds_table self.image c.find.new.self new c.requires.opened c.requires.unsure fits.0 fits.1 fits.2 own.1.room
          (table_again self.work c.find.new.self old new same (ap (λ s. s.shape) own.0.rest) (ap (λ s. s.pages) own.0.rest) table);
      logs = log_sized self.image self.image self.work.shape c.find.new.self.shape self.log self.log c.requires.opened c.requires.opened own.1.shape refl self.logs;
    }

pub returns-in-Ok-true-clause-found : goal.returns-in-Ok-true-clause-found
returns-in-Ok-true-clause-found g c =
    let self = c.args.self.now in
    let own = rw c.in-Ok-true.field-0-test at c.in-Ok-true.ensures.found in
    record {
      sure = refl;
      same = record { shape = own.2.shape; spares = own.2.spares; taken = c.find.ensures.taken (self.holds.opened c.requires.opened).used };
      reads = reading_reads _ (g.N.Nand.state self.inner) (g.N.Nand.state c.find.new.inner) own.1;
      no_fault = (ap (λ s. s.flash_faults) own.1, ap (λ s. s.read_faults) own.1, ap (λ s. s.stop_faults) own.1, ap (λ s. s.failed_at) own.1);
    }

pub returns-in-Err-clause-found : goal.returns-in-Err-clause-found
returns-in-Err-clause-found g c =
    let self = c.args.self.now in
    let own = c.in-Err.ensures.found in
    record {
      unsure = unsure_is self.image c.requires.opened c.requires.unsure;
      same = record { shape = own.1.shape; spares = own.1.spares; taken = c.find.ensures.taken (self.holds.opened c.requires.opened).used };
      failed = own.0;
    }
