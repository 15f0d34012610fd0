use Rattle.std.proofs.Common.{◌++◌, ◌<◌, ℕ, [], ◌∷◌, length, arith}
use Rattle.pk_base.{specs.Mark.Mark, specs.Mark.erase}
use Rattle.pk_redo.proofs.Tables.{row_set, set_within, unset_both}
use Rattle.pk_redo.proofs.Keeping.{now_after, lacking_after, others_after}
use Rattle.pk_redo.proofs.redo_log.RedoLog.erase.Goals as goal

pub returns-clause-keeps : goal.returns-clause-keeps
returns-clause-keeps g c = λ kept now k.
    let self = c.args.self.now in
    let lacks = c.note_row.new.set.items in
    let mark : Mark = erase c.args.block in
    let count = c.block_pages-count.ensures in
    let set = λ (page : ℕ) (low : page < length self.lacks.items). row_set self.shape c.args.block page self.lacks.items lacks (omega (arith, count.shape.block_least)) low
    (rw count.value at c.note_row.ensures.inside) (rw count.value at c.note_row.ensures.outside) in
    record {
      base = k.base;
      marks = k.marks;
      later = k.later ++ (mark ∷ []);
      files = record { stands = k.files.stands; ready = k.files.ready; within = k.files.within; header = k.files.header };
      batch = c.erase.ensures.read k.later k.batch;
      is_kept = k.is_kept;
      is_now = now_after g.D.Disk self lacks mark kept now k;
      lacking = λ page is. lacking_after g.D.Disk self lacks mark kept now k page (set page (omega (arith, set_within lacks page is, c.note_row.ensures.len))).0 is;
      others = λ page low not. others_after g.D.Disk self lacks mark kept now k page low (unset_both _ _ _ (set page (omega (arith, low, self.sizes.0))).1 not);
      zeros = k.zeros;
    }
