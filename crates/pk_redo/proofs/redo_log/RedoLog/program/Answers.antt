use Rattle.std.proofs.Common.{◌++◌, ℕ, [], ◌∷◌, arith}
use Rattle.pk_base.{specs.Fields.padded, specs.Mark.Mark, specs.Mark.program}
use Rattle.pk_redo.proofs.Tables.{one_set, unset_both}
use Rattle.pk_redo.proofs.Keeping.{now_after, lacking_after, others_after}
use Rattle.pk_redo.proofs.redo_log.RedoLog.program.Goals as goal

pub returns-clause-keeps : goal.returns-clause-keeps
returns-clause-keeps g c = λ kept now k.
    let self = c.args.self.now in
    let lacks = c.note_row.new.set.items in
    let mark : Mark = program c.args.page (padded self.shape.page_bytes c.args.front.now) in
    let set = λ (page : ℕ). one_set c.args.page page self.lacks.items lacks (omega (arith, c.requires.exists, self.sizes.0)) c.note_row.ensures.inside c.note_row.ensures.outside in
    record {
      base = k.base;
      marks = k.marks;
      later = k.later ++ (mark ∷ []);
      files = record { stands = k.files.stands; ready = k.files.ready; within = k.files.within; header = k.files.header };
      batch = c.program.ensures.read k.later k.batch;
      is_kept = k.is_kept;
      is_now = now_after g.D.Disk self lacks mark kept now k;
      lacking = λ page is. lacking_after g.D.Disk self lacks mark kept now k page (set page).0 is;
      others = λ page low not. others_after g.D.Disk self lacks mark kept now k page low (unset_both _ _ _ (set page).1 not);
      zeros = k.zeros;
    }
