use Rattle.std.proofs.Common.{◌∙◌, ◌+◌, ℕ, List, ◌++◌, drop, sym, subst, inl, arith}
use Rattle.std.proofs.lemmas.Result.{on_ok_weaker}
use Rattle.pk_redo.specs.Steps.{BodySays}
use Rattle.pk_redo.specs.Image.{LogSays}
use Rattle.pk_redo.proofs.Keeping.{says_read, says_fewer}
use Rattle.pk_redo.proofs.redo_calls.commit_pending.Goals as goal

pub returns-in-Ok-2-clause-crash : goal.returns-in-Ok-2-clause-crash
returns-in-Ok-2-clause-crash g c base marks now says within steps l i may_l may_i =
    inl (says_read g.D.Disk _ _ _ base marks _ _ (omega (arith, c.requires.fits)) says within l i (c.len.ensures.crash l may_l) may_i)

pub returns-in-Err-clause-crash : goal.returns-in-Err-clause-crash
returns-in-Err-clause-crash g c base marks now says within steps l i may_l may_i =
    inl (says_read g.D.Disk _ _ _ base marks _ _ (omega (arith, c.requires.fits)) says within l i (c.len.ensures.crash l may_l) may_i)

pub returns-clause-done : goal.returns-clause-done
returns-clause-done g c =
    on_ok_weaker c.barrier.result (λ done base marks now says within steps.
    let shape = c.args.shape.now in
    let body = subst (λ (bytes : List ℕ). BodySays shape (drop 9 bytes) now) (sym c.as_slice.ensures.bytes) (c.seal.ensures.steps shape now steps) in
    let all = done base marks now (says_fewer g.D.Disk _ _ _ base marks _ _ c.len.ensures.crash says) within body in
    (subst (λ (n : ℕ). LogSays g.D.Disk c.barrier.new.log shape base (marks ++ now) (c.args.end + n) c.args.room) (c.as_slice.ensures.len ∙ c.seal.ensures.filled) all.0, all.1))
    c.barrier.ensures.done
