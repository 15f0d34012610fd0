use Rattle.std.proofs.Common.{◌+◌, ◌<◌, ℕ, List, [], drop, length, slice_index, refl, sym, ◌∙◌, ap, subst, inl, inr, arith}
use Rattle.pk_base.{specs.Shape.page_count, specs.Page.Flash, specs.Page.page_at}
use Rattle.pk_image.{specs.Header.header_bytes, specs.Image.state_byte, specs.Image.page_in_file, specs.Image.page_place}
use Rattle.pk_redo.specs.Record.{RecordFits}
use Rattle.pk_redo.specs.Image.{ReadAs, LogSays}
use Rattle.pk_redo.proofs.Keeping.{lacks_set, long_image, says_at, says_stands, pages_after, header_after, flash_written, within_itself, own_record}
use Rattle.pk_redo.proofs.redo_log.RedoLog.settle.Goals as goal

pub returns-in-Err-clause-keeps : goal.returns-in-Err-clause-keeps
returns-in-Err-clause-keeps g c = λ clean kept k same.
    let self = c.args.self.now in
    let long = long_image g.D.Disk self kept kept k (g.met.D.Disk.seen_may_stay self.image) in
    inl (record {
      base = k.base;
      marks = k.marks;
      later = k.later;
      files = record {
        stands = k.files.stands;
        ready = k.files.ready;
        within = c.checkpoint.ensures.crash k.marks k.base (lacks_set g.D.Disk self kept kept k c.requires.empty) k.files.within;
        header = k.files.header;
      };
      batch = k.batch;
      is_kept = k.is_kept;
      is_now = k.is_now;
      lacking = k.lacking;
      others = λ page low lacks. c.checkpoint.ensures.others page long low lacks ∙ k.others page low lacks;
      zeros = c.checkpoint.ensures.zeros long k.zeros;
    })

pub returns-in-Ok-finish-clause-keeps : goal.returns-in-Ok-finish-clause-keeps
returns-in-Ok-finish-clause-keeps g c = λ clean kept k same.
    let self = c.args.self.now in
    let image = c.checkpoint.new.image in
    let long = long_image g.D.Disk self kept kept k (g.met.D.Disk.seen_may_stay self.image) in
    let within = c.checkpoint.ensures.crash k.marks k.base (lacks_set g.D.Disk self kept kept k c.requires.empty) k.files.within in
    let shown = λ (page : ℕ). ap (λ (f : Flash). page_at f page) same in
    let written = λ (page : ℕ) (low : page < page_count self.shape). c.in-Ok.ensures.written long k.zeros (λ k' low lacks. k.others k' low lacks ∙ sym (shown k')) page low ∙ shown page in
    let stay = g.met.D.Disk.seen_may_stay image in
    let fits = subst (λ (bytes : List ℕ). RecordFits self.shape (drop 9 bytes) (header_bytes self.shape) (λ page. state_byte (page_at kept page)) []) (sym c.deref.ensures.value)
    (subst (λ (f : Flash). RecordFits self.shape (drop 9 c.note_record.new.first.items) (header_bytes self.shape) (λ page. state_byte (page_at f page)) []) same c.note_record.ensures.fits) in
    let own = own_record g.D.Disk self kept k image within stay written (drop 9 c.deref.result.now) fits in
    let done = c.in-Ok-finish.ensures.done clean own in
    let says : LogSays g.D.Disk c.finish.new.log self.shape (g.D.Disk.seen image) [] (16 + c.len.result) (16 + c.len.result + length c.as_slice-blank.result.now) =
    says_at g.D.Disk _ _ _ _ _ _ _ _ (search (arith, c.len.ensures, c.deref.ensures.value, c.deref.ensures.len))
    (search (arith, c.len.ensures, c.deref.ensures.value, c.deref.ensures.len)) done.0 in
    inl (record {
      base = g.D.Disk.seen image;
      marks = [];
      later = [];
      files = record {
        stands = says_stands g.D.Disk c.finish.new.log self.shape (g.D.Disk.seen image) [] _ _ (search arith) says;
        ready = λ is. says;
        within = within_itself g.D.Disk self kept k image within stay written _ done.1;
        header = header_after g.D.Disk self kept k image within stay written;
      };
      batch = sym c.requires.empty;
      is_kept = flash_written g.D.Disk self kept k image within stay written;
      is_now = refl;
      lacking = λ page lacks. absurd (search (arith, c.clear_pages.ensures.none page, lacks));
      others = λ page low lacks. ap (λ (file : List ℕ). page_in_file self.shape file page) c.finish.ensures.seen ∙ written page low;
      zeros = λ page i low from below.
          ap (λ (file : List ℕ). slice_index file (page_place self.shape page + i)) c.finish.ensures.seen ∙ c.checkpoint.ensures.zeros long k.zeros page i low from below;
    })

pub returns-in-Err-finish-clause-keeps : goal.returns-in-Err-finish-clause-keeps
returns-in-Err-finish-clause-keeps g c = λ clean kept k same.
    let self = c.args.self.now in
    let image = c.checkpoint.new.image in
    let long = long_image g.D.Disk self kept kept k (g.met.D.Disk.seen_may_stay self.image) in
    let within = c.checkpoint.ensures.crash k.marks k.base (lacks_set g.D.Disk self kept kept k c.requires.empty) k.files.within in
    let shown = λ (page : ℕ). ap (λ (f : Flash). page_at f page) same in
    let written = λ (page : ℕ) (low : page < page_count self.shape). c.in-Ok.ensures.written long k.zeros (λ k' low lacks. k.others k' low lacks ∙ sym (shown k')) page low ∙ shown page in
    let stay = g.met.D.Disk.seen_may_stay image in
    let fits = subst (λ (bytes : List ℕ). RecordFits self.shape (drop 9 bytes) (header_bytes self.shape) (λ page. state_byte (page_at kept page)) []) (sym c.deref.ensures.value)
    (subst (λ (f : Flash). RecordFits self.shape (drop 9 c.note_record.new.first.items) (header_bytes self.shape) (λ page. state_byte (page_at f page)) []) same c.note_record.ensures.fits) in
    let own = own_record g.D.Disk self kept k image within stay written (drop 9 c.deref.result.now) fits in
    inr (inr (
      refl,
      λ l i may_l may_i. inl (subst (λ (f : Flash). ReadAs self.shape l i f) k.is_kept
          (c.finish.ensures.crash clean k.base k.marks k.files.stands within (pages_after g.D.Disk self kept k image written) own l i may_l may_i)),
    ))
