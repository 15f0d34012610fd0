use Rattle.std.proofs.Common.{◌∙◌, ◌+◌, ◌++◌, ℕ, [], refl, sym, subst, inl, inr, arith}
use Rattle.pk_redo.specs.Image.{LogSays}
use Rattle.pk_redo.proofs.Keeping.{all_kept, all_after, all_set, either_after, says_stands}
use Rattle.pk_redo.proofs.redo_log.RedoLog.barrier.Goals as goal

pub returns-then-is_empty-clause-done : goal.returns-then-is_empty-clause-done
returns-then-is_empty-clause-done g c = λ clean kept now k. all_kept g.D.Disk c.args.self.now kept now k (c.if-is_empty.ensures.yes refl)

pub returns-in-Ok-clause-keeps : goal.returns-in-Ok-clause-keeps
returns-in-Ok-clause-keeps g c = λ clean kept now k.
    let self = c.args.self.now in
    let fits = self.fits (c.if-is_empty.ensures.no refl) in
    let done = c.in-Ok.ensures.done k.base k.marks k.later (k.files.ready fits.0) k.files.within k.batch in
    let len = c.len.ensures ∙ c.commit_pending.ensures.filled in
    let says = subst (λ (n : ℕ). LogSays g.D.Disk c.commit_pending.new.log self.shape k.base (k.marks ++ k.later) (self.end + n) self.room) (sym len) done.0 in
    inr (inl (record {
      base = k.base;
      marks = k.marks ++ k.later;
      later = [];
      files = record {
        stands = says_stands g.D.Disk c.commit_pending.new.log self.shape k.base (k.marks ++ k.later) _ _ (omega (arith, len, fits.1)) says;
        ready = λ is. says;
        within = done.1;
        header = k.files.header;
      };
      batch = sym c.clear.ensures.filled;
      is_kept = all_after g.D.Disk self kept now k;
      is_now = refl;
      lacking = all_set g.D.Disk self kept now k;
      others = k.others;
      zeros = k.zeros;
    }))

pub returns-in-Ok-clause-done : goal.returns-in-Ok-clause-done
returns-in-Ok-clause-done g c = λ clean kept now k.
    let self = c.args.self.now in
    let fits = self.fits (c.if-is_empty.ensures.no refl) in
    let done = c.in-Ok.ensures.done k.base k.marks k.later (k.files.ready fits.0) k.files.within k.batch in
    let len = c.len.ensures ∙ c.commit_pending.ensures.filled in
    let says = subst (λ (n : ℕ). LogSays g.D.Disk c.commit_pending.new.log self.shape k.base (k.marks ++ k.later) (self.end + n) self.room) (sym len) done.0 in
    record {
      base = k.base;
      marks = k.marks ++ k.later;
      later = [];
      files = record {
        stands = says_stands g.D.Disk c.commit_pending.new.log self.shape k.base (k.marks ++ k.later) _ _ (omega (arith, len, fits.1)) says;
        ready = λ is. says;
        within = done.1;
        header = k.files.header;
      };
      batch = sym c.clear.ensures.filled;
      is_kept = all_after g.D.Disk self kept now k;
      is_now = refl;
      lacking = all_set g.D.Disk self kept now k;
      others = k.others;
      zeros = k.zeros;
    }

pub returns-in-Err-clause-keeps : goal.returns-in-Err-clause-keeps
returns-in-Err-clause-keeps g c = λ clean kept now k.
    let self = c.args.self.now in
    let fits = self.fits (c.if-is_empty.ensures.no refl) in
    inr (inr (refl, either_after g.D.Disk self _ kept now k (c.commit_pending.ensures.crash k.base k.marks k.later (k.files.ready fits.0) k.files.within k.batch)))
