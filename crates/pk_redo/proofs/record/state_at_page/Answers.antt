use Rattle.std.proofs.Common.{◌≡◌, ◌∙◌, ◌%◌, ◌/◌, ◌+◌, arith}
use Rattle.pk_redo.proofs.Tables.{state_read}
use Rattle.pk_redo.proofs.record.state_at_page.Goals as goal

pub returns-then-place-eq0 : goal.returns-then-place-eq0
returns-then-place-eq0 c = omega arith ∙ state_read c.args.bytes.now 32 c.args.page 0 c.if-place-eq0.true

pub returns-then-place-eq1 : goal.returns-then-place-eq1
returns-then-place-eq1 c = omega arith ∙ state_read c.args.bytes.now 32 c.args.page 1 c.if-place-eq1.true

pub returns-then-place-eq2 : goal.returns-then-place-eq2
returns-then-place-eq2 c = omega arith ∙ state_read c.args.bytes.now 32 c.args.page 2 c.if-place-eq2.true

pub returns : goal.returns
returns c =
    let last : c.args.page % 4 ≡ 3 = omega (arith, c.if-place-eq0.false, c.if-place-eq1.false, c.if-place-eq2.false) in
    let byte = (c.type_inv.bytes (32 + c.args.page / 4)).fits in
    omega (arith, byte) ∙ state_read c.args.bytes.now 32 c.args.page 3 last
