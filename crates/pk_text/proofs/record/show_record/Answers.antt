use Rattle.std.proofs.Common.{List, ℕ}
use Rattle.pk_text.{specs.Written.Written, specs.Records.head_shown, specs.Turns.TurnsFrom, specs.Steps.ahead}
use Rattle.pk_text.proofs.Turning.{TextAdvances-then, Turns-behind, on_ok, if_err}
use Rattle.pk_text.proofs.Showing.{Front-advances, Front-failed, End-advances, End-failed}
use Rattle.pk_text.proofs.record.show_record.Goals as goal

pub returns-in-Err-clause-quits : goal.returns-in-Err-clause-quits
returns-in-Err-clause-quits g c = λ more. Front-failed more c.args.feed.now c.args.head.now.items _ _ c.in-Err.ensures.err

pub returns-in-Ok-show_data-clause-advances : goal.returns-in-Ok-show_data-clause-advances
returns-in-Ok-show_data-clause-advances g c =
    on_ok c.end_line.result (λ posted. λ more.
    TextAdvances-then _ _ _ _ _ _ _ _ _
    (TextAdvances-then _ _ _ _ _ _ _ _ _ (Front-advances c.in-Ok.size more c.args.feed.now c.args.head.now.items _ _ c.in-Ok.ensures.size c.in-Ok.ensures.ok) (c.in-Ok-show_data.ensures.advances more))
    (End-advances more _ _ _ posted))
    c.end_line.ensures.ok

pub returns-in-Ok-show_data-clause-quits : goal.returns-in-Ok-show_data-clause-quits
returns-in-Ok-show_data-clause-quits g c =
    let a = g.B.Nand.state c.args.board.now in
    if_err (λ end. (more : List ℕ → Written) → TurnsFrom (head_shown c.args.head.now.items more) (ahead c.args.feed.now a) a (g.B.Nand.state c.end_line.new.board) end)
    c.end_line.result c.end_line.ensures.kind c.end_line.ensures.err
    (λ f. λ more.
    Turns-behind _ _ _ _ _ _ _ _
    (TextAdvances-then _ _ _ _ _ _ _ _ _ (Front-advances c.in-Ok.size more c.args.feed.now c.args.head.now.items _ _ c.in-Ok.ensures.size c.in-Ok.ensures.ok) (c.in-Ok-show_data.ensures.advances more))
    (End-failed more _ _ _ f))

pub returns-in-Err-show_data-clause-quits : goal.returns-in-Err-show_data-clause-quits
returns-in-Err-show_data-clause-quits g c = λ more.
    Turns-behind _ _ _ _ _ _ _ _ (Front-advances c.in-Ok.size more c.args.feed.now c.args.head.now.items _ _ c.in-Ok.ensures.size c.in-Ok.ensures.ok) (c.in-Err-show_data.ensures.quits more)
