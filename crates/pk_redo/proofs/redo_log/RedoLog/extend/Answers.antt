use Rattle.std.proofs.Common.{◌≡◌, ◌+◌, ℕ, ◌∷◌, length, sym, subst, arith}
use Rattle.pk_redo.specs.Log.{AllReady}
use Rattle.pk_redo.specs.Image.{LogSays}
use Rattle.pk_redo.proofs.Keeping.{says_stands}
use Rattle.pk_redo.proofs.redo_log.RedoLog.extend.Goals as goal

pub returns-in-Ok-clause-keeps : goal.returns-in-Ok-clause-keeps
returns-in-Ok-clause-keeps g c = λ kept now k.
    let self = c.args.self.now in
    let low = self.ready c.requires.ready in
    let was = k.files.ready c.requires.ready in
    let size : c.len.result ≡ length c.deref.result.now = search (arith, c.len.ensures, c.deref.ensures.value, c.deref.ensures.len) in
    let more = c.in-Ok.ensures.done (was.first ∷ was.later) was.ready in
    let says : LogSays g.D.Disk c.extend.new.disk self.shape k.base k.marks self.end (self.room + c.len.result) = record {
      first = was.first;
      later = was.later;
      ready = subst (λ (n : ℕ). AllReady g.D.Disk c.extend.new.disk (was.first ∷ was.later) self.end (self.room + n)) (sym size) more;
      says = was.says;
      of_base = was.of_base;
    } in
    record {
      base = k.base;
      marks = k.marks;
      later = k.later;
      files = record {
        stands = says_stands g.D.Disk c.extend.new.disk self.shape k.base k.marks _ _ (omega (arith, low)) says;
        ready = λ is. says;
        within = k.files.within;
        header = k.files.header;
      };
      batch = k.batch;
      is_kept = k.is_kept;
      is_now = k.is_now;
      lacking = k.lacking;
      others = k.others;
      zeros = k.zeros;
    }

pub returns-in-Err-clause-keeps : goal.returns-in-Err-clause-keeps
returns-in-Err-clause-keeps g c = λ kept now k.
    let self = c.args.self.now in
    let was = k.files.ready c.requires.ready in
    let says : LogSays g.D.Disk c.extend.new.disk self.shape k.base k.marks self.end self.room = record {
      first = was.first;
      later = was.later;
      ready = c.extend.ensures.crash (was.first ∷ was.later) was.ready;
      says = was.says;
      of_base = was.of_base;
    } in
    record {
      base = k.base;
      marks = k.marks;
      later = k.later;
      files = record {
        stands = says_stands g.D.Disk c.extend.new.disk self.shape k.base k.marks _ _ (self.ready c.requires.ready) says;
        ready = λ is. says;
        within = k.files.within;
        header = k.files.header;
      };
      batch = k.batch;
      is_kept = k.is_kept;
      is_now = k.is_now;
      lacking = k.lacking;
      others = k.others;
      zeros = k.zeros;
    }
