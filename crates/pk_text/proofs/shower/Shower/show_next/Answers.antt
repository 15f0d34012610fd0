use Rattle.std.proofs.Common.{suc}
use Rattle.pk_text.{specs.Records.shown_from, proofs.Showing.Head-advances, proofs.Showing.Head-part}
use Rattle.pk_text.proofs.Turning.{TextAdvances-then, Turns-behind, Turns-input, on_ok, if_err_map, not_empty}
use Rattle.pk_text.proofs.shower.Shower.show_next.Goals as goal

pub returns-in-Ok-true-clause-advances : goal.returns-in-Ok-true-clause-advances
returns-in-Ok-true-clause-advances g c =
    on_ok c.show_record.result (λ shown. λ taken few.
    TextAdvances-then _ _ _ _ _ _ _ _ _
    (Head-advances taken _ _ c.take_head.new.head.items _ _ few (rw c.in-Ok-true.field-0-test at c.in-Ok-true.ensures.ok)) (shown (shown_from (suc taken))))
    c.show_record.ensures.advances

pub returns-in-Ok-true-clause-quits : goal.returns-in-Ok-true-clause-quits
returns-in-Ok-true-clause-quits g c =
    if_err_map _ _ c.show_record.result (λ end. λ quit. λ taken few.
    Turns-behind _ _ _ _ _ _ _ end
    (Head-advances taken _ _ c.take_head.new.head.items _ _ few (rw c.in-Ok-true.field-0-test at c.in-Ok-true.ensures.ok)) (quit (shown_from (suc taken))))
    c.show_record.ensures.quits

pub returns-else-is_empty-clause-quits : goal.returns-else-is_empty-clause-quits
returns-else-is_empty-clause-quits g c = λ taken few.
    Head-part taken _ _ c.take_head.new.head.items _ _ few
    (not_empty _ c.is_empty.result c.is_empty.ensures c.if-is_empty.false) (rw c.in-Ok-false.field-0-test at c.in-Ok-false.ensures.ok)

pub returns-in-Err-clause-quits : goal.returns-in-Err-clause-quits
returns-in-Err-clause-quits g c = λ taken few. Turns-input _ _ _ _ c.in-Err.ensures.err
