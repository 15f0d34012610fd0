use Rattle.std.proofs.Common.{ap, arith, rules, length}
use Rattle.pk_text.{proofs.Turning.Turns-input, proofs.Showing.Data-part, proofs.Showing.Data-advances, proofs.Showing.Data-failed}
use Rattle.pk_text.proofs.record.show_some.Goals as goal

pub returns-in-Ok-false-clause-quits : goal.returns-in-Ok-false-clause-quits
returns-in-Ok-false-clause-quits g c = λ more.
    let over = rw c.in-Ok-false.field-0-test at c.in-Ok-false.ensures.ok in Data-part c.args.left more _ _ _ _ c.requires.some over.0 over.1

pub returns-in-Err-clause-quits : goal.returns-in-Err-clause-quits
returns-in-Err-clause-quits g c = λ more. Turns-input _ _ _ _ c.in-Err.ensures.err

pub returns-in-Ok-clause-advances : goal.returns-in-Ok-clause-advances
returns-in-Ok-clause-advances g c = λ more.
    Data-advances c.args.left c.min-count.result more _ c.fill.new.self c.take.new.self _ _ _ _ (rw c.in-Ok-true.field-0-test at c.in-Ok-true.ensures.ok).0
    (omega (arith, c.min.ensures, c.min-count.ensures, ap length c.front.ensures)) (omega (arith, c.min.ensures, c.min-count.ensures)) (search rules) c.take.ensures c.in-Ok.ensures.ok

pub returns-in-Err-post_piece-clause-quits : goal.returns-in-Err-post_piece-clause-quits
returns-in-Err-post_piece-clause-quits g c = λ more.
    Data-failed c.args.left c.min-count.result more _ c.fill.new.self _ _ _ _ (rw c.in-Ok-true.field-0-test at c.in-Ok-true.ensures.ok).0
    (omega (arith, c.min.ensures, c.min-count.ensures, ap length c.front.ensures)) (omega (arith, c.min.ensures, c.min-count.ensures)) (search rules) c.in-Err-post_piece.ensures.err
