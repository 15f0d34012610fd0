use Rattle.std.{proofs.Common.◌≡◌, proofs.Common.◌/◌, proofs.Common.◌-◌, proofs.Common.ℕ, proofs.Common.sym, proofs.Common.ap, proofs.Common.◌∙◌, specs.Prelude.Some}
use Rattle.pk_base.{specs.Shape.Shape, specs.Page.Flash, specs.Page.page_at}
use Rattle.pk_nand.{specs.BoardState.BoardState, specs.Calls.counted, specs.Operations.filled, specs.Seen.answer}
use Rattle.pk_remap.{specs.declared.mark_log.MarkLog.MarkLog, specs.Logged.told}
use Rattle.pk_remap.proofs.Remapping.{opens_page, shape_open, pages_open, page_open, read_answer, read_failed_answer, left_open}
use Rattle.pk_remap.proofs.nand.RemapNand.read.Goals as goal

pub read_page-requires : goal.read_page-requires
read_page-requires g c =
    let self = c.args.self.now in
    let old : BoardState = g.N.Nand.state self.inner in
    let has_open = opens_page self.work self.log self.counts old self.image c.args.page c.requires.exists in
    record {
      opened = has_open;
      inside = page_open self.image self.work self.log self.counts old has_open c.args.page (self.holds.opened has_open) c.requires.exists;
      room = c.requires.room ∙ ap (λ (s : Shape). s.page_bytes) (shape_open self.image self.work self.log self.counts old has_open);
    }

pub returns-in-Ok : goal.returns-in-Ok
returns-in-Ok g c =
    let self = c.args.self.now in
    let old : BoardState = g.N.Nand.state self.inner in
    let has_open = opens_page self.work self.log self.counts old self.image c.args.page c.requires.exists in
    let there = c.read_page.new.self in
    let new : BoardState = g.N.Nand.state there.inner in
    let pages = sym (pages_open self.image self.work self.log self.counts old has_open) in
    let same = c.read_page.ensures.same in
    let noted : told there.log ≡ told self.log = ap (λ (l : MarkLog). told l) c.read_page.ensures.log in
    let is : there.counts ≡ record self.counts { reads = counted self.counts.reads } =
    c.read_page.ensures.counts ∙ (λ i. record self.counts { reads = c.raise.ensures i }) in
    record {
      found = c.in-Ok.ensures.found ∙ ap (λ (f : Flash). answer (page_at f c.args.page)) pages;
      bytes = c.in-Ok.ensures.bytes ∙ ap (λ (f : Flash). filled (page_at f c.args.page) c.args.into.now) pages;
      ok = read_answer self.image there.image self.work there.work self.log there.log self.counts there.counts old new has_open c.read_page.ensures.opened
          (self.holds.opened has_open) c.read_page.result same noted c.read_page.ensures.reads is;
      err = tt;
      cause = tt;
      only_reads = c.read_page.ensures.reads;
      calls = c.read_page.ensures.calls;
      spares = same.spares;
      left = left_open there.image there.work c.read_page.ensures.opened ∙ (λ i. same.spares i - same.taken i) ∙ sym (left_open self.image self.work has_open);
    }

pub returns-in-Err : goal.returns-in-Err
returns-in-Err g c =
    let self = c.args.self.now in
    let old : BoardState = g.N.Nand.state self.inner in
    let has_open = opens_page self.work self.log self.counts old self.image c.args.page c.requires.exists in
    let there = c.read_page.new.self in
    let new : BoardState = g.N.Nand.state there.inner in
    let same = c.read_page.ensures.same in
    let noted : told there.log ≡ told self.log = ap (λ (l : MarkLog). told l) c.read_page.ensures.log in
    let n : there.work.shape.block_pages ≡ self.work.shape.block_pages = ap (λ (s : Shape). s.block_pages) same.shape in
    let block : c.block_of-block.result ≡ c.args.page / self.work.shape.block_pages = c.block_of-block.ensures ∙ ap (λ (m : ℕ). c.args.page / m) n in
    let is : c.read_failed.new.self ≡ record self.counts {
      reads = counted self.counts.reads;
      flash_faults = counted self.counts.flash_faults;
      read_faults = counted self.counts.read_faults;
      failed_at = Some (c.args.page / self.work.shape.block_pages);
    } =
    c.read_failed.ensures ∙ (λ i. record (c.read_page.ensures.counts i) {
      flash_faults = counted (c.read_page.ensures.counts i).flash_faults;
      read_faults = counted (c.read_page.ensures.counts i).read_faults;
      failed_at = Some (block i);
    }) ∙ (λ i. record self.counts {
      reads = c.raise.ensures i;
      flash_faults = counted self.counts.flash_faults;
      read_faults = counted self.counts.read_faults;
      failed_at = Some (c.args.page / self.work.shape.block_pages);
    }) in
    record {
      found = tt;
      bytes = tt;
      ok = tt;
      err = read_failed_answer self.image there.image self.work there.work self.log there.log self.counts c.read_failed.new.self old new has_open c.read_page.ensures.opened
          (self.holds.opened has_open) c.args.page same noted c.read_page.ensures.reads is;
      cause = c.in-Err.ensures.err;
      only_reads = c.read_page.ensures.reads;
      calls = c.read_page.ensures.calls;
      spares = same.spares;
      left = left_open there.image there.work c.read_page.ensures.opened ∙ (λ i. same.spares i - same.taken i) ∙ sym (left_open self.image self.work has_open);
    }
