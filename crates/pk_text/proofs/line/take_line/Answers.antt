use Rattle.std.proofs.Common.{ap, ◌∙◌, subst, sym, arith, List, ℕ, length, rules}
use Rattle.std.proofs.lemmas.Grind.{common_steps}
use Rattle.pk_text.{specs.Steps.Fed, specs.Steps.IsLine, proofs.Turning.Failed-then, proofs.Turning.Fed-empty, proofs.Turning.Fed-over_none, proofs.Turning.is_none, proofs.Turning.not_empty}
use Rattle.pk_text.proofs.Lining.{Line-ended, Line-final, Line-more, IsLine-more, plain_byte}
use Rattle.pk_text.proofs.line.take_line.Goals as goal

pub returns-then-byte-eq10-clause-ok : goal.returns-then-byte-eq10-clause-ok
returns-then-byte-eq10-clause-ok g c =
    let i = c.loop-count.invariant in
    Line-ended _ _ _ _ _ _ _ c.in-Ok-Some.field-0 c.in-Ok-Some.byte i.plain i.fed c.in-Ok-Some.ensures.ok c.in-Ok-Some.field-0-is c.if-byte-eq10.true

pub returns-in-Ok-None-clause-ok : goal.returns-in-Ok-None-clause-ok
returns-in-Ok-None-clause-ok g c =
    let i = c.loop-count.invariant in
    Line-final _ _ _ _ _ _ _ c.in-Ok-None.field-0 i.plain i.fed c.in-Ok-None.ensures.ok c.in-Ok-None.field-0-is (not_empty _ c.is_empty.result c.is_empty.ensures c.if-is_empty.false)

pub returns-in-Err-clause-err : goal.returns-in-Err-clause-err
returns-in-Err-clause-err g c = Failed-then _ _ _ c.loop-count.invariant.fed.moved c.in-Err.ensures.err

pub loop-count-preserved : goal.loop-count-preserved
loop-count-preserved g c =
    let i = c.loop-count.invariant in
    let line : List ℕ = c.loop-count.line.items in
    let same = c.push.ensures in
    let F : List ℕ → Type 0 = λ l. Fed c.args.feed.now c.next.new.self (g.B.Nand.state c.args.board.now) (g.B.Nand.state c.next.new.board) l in
    record {
      fed = subst F (sym (ap (λ b. b.items) same)) (Line-more _ _ _ line _ _ _ c.in-Ok-Some.field-0 c.in-Ok-Some.byte i.fed c.in-Ok-Some.ensures.ok c.in-Ok-Some.field-0-is);
      plain = subst IsLine (sym (ap (λ b. b.items) same)) (IsLine-more line c.in-Ok-Some.byte i.plain (plain_byte c.in-Ok-Some.byte c.if-byte-eq10.false));
      size = grind (arith, common_steps);
      room = ap (λ b. b.room) same ∙ i.room;
    }

pub loop-count-init : goal.loop-count-init
loop-count-init g c =
    let none = ap (λ b. b.items) c.clear.ensures in
    record { fed = Fed-empty _ _ _ none; plain = subst IsLine (sym none) tt; size = ap length none; room = search rules }

pub returns-then-is_empty-clause-err : goal.returns-then-is_empty-clause-err
returns-then-is_empty-clause-err g c =
    Fed-over_none _ _ _ _ _ _ _ c.in-Ok-None.field-0 (is_none _ c.is_empty.result c.is_empty.ensures c.if-is_empty.true)
    c.loop-count.invariant.fed c.in-Ok-None.ensures.ok c.in-Ok-None.field-0-is
