use Rattle.std.{proofs.Common.◌≡◌, proofs.Common.◌<◌, proofs.Common.sym, proofs.Common.ap, proofs.Common.subst, proofs.Common.◌∙◌, proofs.Common.arith, specs.Prelude.IfOk, specs.Prelude.OnOk}
use Rattle.pk_base.{specs.Shape.Shape, specs.Shape.page_count, specs.Page.Flash, specs.Page.page_at, specs.Mark.erase}
use Rattle.pk_nand.{specs.BoardState.BoardState, specs.Operations.filled, specs.Seen.answer}
use Rattle.pk_remap.{specs.Remapped.is_open, specs.Remapped.is_sure, proofs.Outer.rests_again, proofs.Bounding.calls_page, proofs.Bounding.calls_more}
use Rattle.pk_remap.proofs.Remapping.{rests, outer_same, open_there, holds_rest, reading_page, reading_then, rose_page}
use Rattle.pk_remap.proofs.remap.Remap.read_page.Goals as goal

pub read_outer-requires : goal.read_outer-requires
read_outer-requires g c =
    let there = c.find_table.new.self in
    let found = c.in-Ok.ensures.found in
    let P : Shape → Type 0 = λ s. c.args.page < page_count s in
    record {
      rests = rests there.image there.work (g.N.Nand.state there.inner) there.holds (ap is_sure found.sure);
      inside = subst P (sym found.same.shape) c.requires.inside;
      room = c.requires.room ∙ sym (ap (λ (s : Shape). s.page_bytes) found.same.shape);
    }

pub invariant_of-self : goal.invariant_of-self
invariant_of-self g c =
    let there = c.find_table.new.self in
    let mid : BoardState = g.N.Nand.state there.inner in
    let new : BoardState = g.N.Nand.state c.read_outer.new.inner in
    let found = c.in-Ok.ensures.found in
    let rest = rests there.image there.work mid there.holds (ap is_sure found.sure) in
    let reads = reading_page mid new _ c.read_outer.result c.read_outer.ensures.ok c.read_outer.ensures.err in
    record {
      holds = holds_rest there.image there.work new
          (rests_again there.work mid rest there.work.kept there.work.partner new rest.room.kept_page (ap (λ s. s.shape) reads) (ap (λ s. s.pages) reads))
          (open_there there.image (ap is_open found.sure));
      logs = there.logs;
    }

pub returns-in-Ok : goal.returns-in-Ok
returns-in-Ok g c =
    let self = c.args.self.now in
    let old : BoardState = g.N.Nand.state self.inner in
    let there = c.find_table.new.self in
    let mid : BoardState = g.N.Nand.state there.inner in
    let new : BoardState = g.N.Nand.state c.read_outer.new.inner in
    let found = c.in-Ok.ensures.found in
    let same = outer_same self.work old (self.holds.opened c.requires.opened) self.holds.taken (erase 0)
    there.image there.work mid found (rests there.image there.work mid there.holds (ap is_sure found.sure)) in
    let P : Flash → Type 0 = λ f. IfOk c.read_outer.result (λ r. r ≡ answer (page_at f c.args.page)) in
    let Q : Flash → Type 0 = λ f. OnOk c.read_outer.result (c.read_outer.new.into ≡ filled (page_at f c.args.page) c.args.into.now) in
    record {
      found = subst P same c.read_outer.ensures.found;
      bytes = subst Q same c.read_outer.ensures.bytes;
      err = rose_page old mid new _ c.read_outer.result found.no_fault.1 c.read_outer.ensures.err;
      reads = reading_then old mid new found.reads (reading_page mid new _ c.read_outer.result c.read_outer.ensures.ok c.read_outer.ensures.err);
      calls = calls_page _ _ old mid new c.read_outer.result c.read_outer.ensures.ok c.read_outer.ensures.err c.find_table.ensures.calls;
      opened = ap is_open found.sure;
      same = found.same;
      log = c.find_table.ensures.log;
      counts = c.find_table.ensures.counts;
    }

pub returns-in-Err : goal.returns-in-Err
returns-in-Err g c =
    let lost = c.in-Err.ensures.found in
    record {
      found = tt;
      bytes = tt;
      err = lost.failed.read;
      reads = lost.failed.rest;
      calls = calls_more _ _ (g.N.Nand.state c.args.self.now.inner) (g.N.Nand.state c.find_table.new.self.inner) (omega arith) c.find_table.ensures.calls;
      opened = ap is_open lost.unsure;
      same = lost.same;
      log = c.find_table.ensures.log;
      counts = c.find_table.ensures.counts;
    }
