use Rattle.pk_text.proofs.Lining.{Line-advances, Line-last, Line-not, No-line}
use Rattle.pk_text.proofs.assembler.Assembler.assemble_next.Goals as goal

pub returns-in-Err-clause-quits : goal.returns-in-Err-clause-quits
returns-in-Err-clause-quits g c = λ taken few. No-line taken c.args.number _ _ _ _ _ c.in-Err.end few c.in-Err.ensures.err

pub returns-then-ended-clause-advances : goal.returns-then-ended-clause-advances
returns-then-ended-clause-advances g c = λ taken few.
    Line-advances taken c.args.number c.in-Ok-give_line.next _ _ _ _ _ _ few (rw c.if-ended.true at c.in-Ok.ensures.ok) (rw c.bytes-line.ensures at c.in-Ok-give_line.ensures.ok)

pub returns-else-ended-clause-quits : goal.returns-else-ended-clause-quits
returns-else-ended-clause-quits g c = λ taken few.
    Line-last taken c.args.number c.in-Ok-give_line.next _ _ _ _ _ _ few (rw c.if-ended.false at c.in-Ok.ensures.ok) (rw c.bytes-line.ensures at c.in-Ok-give_line.ensures.ok)

pub returns-in-Err-give_line-clause-quits : goal.returns-in-Err-give_line-clause-quits
returns-in-Err-give_line-clause-quits g c = λ taken few.
    Line-not taken c.args.number _ _ _ _ _ _ c.in-Ok.ended c.in-Err-give_line.end few c.in-Ok.ensures.ok (rw c.bytes-line.ensures at c.in-Err-give_line.ensures.err)
