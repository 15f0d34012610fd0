use Rattle.std.proofs.Common.{◌∙◌, ◌<◌, ℕ, ap, subst, sym, refl, inl, inr}
use Rattle.std.proofs.lemmas.Result.{on_ok_weaker}
use Rattle.pk_base.{specs.Shape.page_count, specs.Page.Flash, specs.Page.page_at}
use Rattle.pk_image.specs.Image.{flash_in_file}
use Rattle.pk_redo.specs.Image.{ReadAs}
use Rattle.pk_redo.proofs.Keeping.{lacks_set, long_image, pages_after, flash_written}
use Rattle.pk_redo.proofs.redo_log.RedoLog.end_run.Goals as goal

pub returns-in-Err-clause-keeps : goal.returns-in-Err-clause-keeps
returns-in-Err-clause-keeps g c = λ clean kept k same.
    let self = c.args.self.now in
    let long = long_image g.D.Disk self kept kept k (g.met.D.Disk.seen_may_stay self.image) in
    inl (record {
      base = k.base;
      marks = k.marks;
      later = k.later;
      files = record {
        stands = k.files.stands;
        ready = k.files.ready;
        within = c.checkpoint.ensures.crash k.marks k.base (lacks_set g.D.Disk self kept kept k c.requires.empty) k.files.within;
        header = k.files.header;
      };
      batch = k.batch;
      is_kept = k.is_kept;
      is_now = k.is_now;
      lacking = k.lacking;
      others = λ page low lacks. c.checkpoint.ensures.others page long low lacks ∙ k.others page low lacks;
      zeros = c.checkpoint.ensures.zeros long k.zeros;
    })

pub returns-clause-keeps : goal.returns-clause-keeps
returns-clause-keeps g c = λ clean kept k same.
    let self = c.args.self.now in
    let image = c.checkpoint.new.image in
    let long = long_image g.D.Disk self kept kept k (g.met.D.Disk.seen_may_stay self.image) in
    let within = c.checkpoint.ensures.crash k.marks k.base (lacks_set g.D.Disk self kept kept k c.requires.empty) k.files.within in
    let shown = λ (page : ℕ). ap (λ (f : Flash). page_at f page) same in
    let written = λ (page : ℕ) (low : page < page_count self.shape). c.in-Ok.ensures.written long k.zeros (λ k' low lacks. k.others k' low lacks ∙ sym (shown k')) page low ∙ shown page in
    inr (inr (
      refl,
      λ l i may_l may_i. inl (subst (λ (f : Flash). ReadAs self.shape l i f) k.is_kept
          (c.close.ensures.crash clean k.base k.marks k.files.stands within (pages_after g.D.Disk self kept k image written) l i may_l may_i)),
    ))

pub returns-clause-done : goal.returns-clause-done
returns-clause-done g c =
    on_ok_weaker c.close.result (λ done clean kept k same.
    let self = c.args.self.now in
    let image = c.checkpoint.new.image in
    let long = long_image g.D.Disk self kept kept k (g.met.D.Disk.seen_may_stay self.image) in
    let within = c.checkpoint.ensures.crash k.marks k.base (lacks_set g.D.Disk self kept kept k c.requires.empty) k.files.within in
    let shown = λ (page : ℕ). ap (λ (f : Flash). page_at f page) same in
    let written = λ (page : ℕ) (low : page < page_count self.shape). c.in-Ok.ensures.written long k.zeros (λ k' low lacks. k.others k' low lacks ∙ sym (shown k')) page low ∙ shown page in
    record {
      no_batch = (done clean).0;
      one_image = λ i may. (done clean).1 i may ∙ sym c.close.ensures.seen;
      pages = ap (flash_in_file self.shape) c.close.ensures.seen ∙ flash_written g.D.Disk self kept k image within (g.met.D.Disk.seen_may_stay image) written;
    }) c.close.ensures.done
