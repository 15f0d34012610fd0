use Rattle.std.proofs.Common.{◌≡◌, ◌∙◌, sym, inl, inr}
use Rattle.std.proofs.lemmas.Bool.{cases_eq}
use Rattle.pk_redo.specs.declared.redo_log.LogState.TheVariants.{Found, Ready}
use Rattle.pk_redo.proofs.Keeping.{all_kept, still_now}
use Rattle.pk_redo.proofs.redo_log.RedoLog.begin.Goals as goal

pub returns-in-Found-clause-keeps : goal.returns-in-Found-clause-keeps
returns-in-Found-clause-keeps g c = λ clean kept now k same.
    let self = c.args.self.now in
    let empty : self.batch.filled ≡ 9 = elim (cases_eq self.batch.filled 9) [
      | inl is ↦ is
      | inr other ↦ absurd (let clash : Found ≡ Ready = sym c.in-Found.is ∙ (self.fits other).0 in cc)
    ] in
    still_now g.D.Disk c.settle.new.self kept now (c.settle.ensures.keeps clean now (all_kept g.D.Disk self kept now k empty) same)
