use Rattle.std.proofs.Common.{ap, ◌∙◌, subst, sym, List, ℕ, arith, length, rules}
use Rattle.std.proofs.lemmas.Grind.{common_steps}
use Rattle.pk_text.{specs.Steps.Fed, proofs.Turning.Failed-then, proofs.Turning.Fed-empty, proofs.Turning.Fed-over, proofs.Lining.Line-more}
use Rattle.pk_text.proofs.record.take_head.Goals as goal

pub returns-in-Err-clause-err : goal.returns-in-Err-clause-err
returns-in-Err-clause-err g c = Failed-then _ _ _ c.loop-count.invariant.fed.moved c.in-Err.ensures.err

pub loop-count-preserved : goal.loop-count-preserved
loop-count-preserved g c =
    let i = c.loop-count.invariant in
    let same = c.push.ensures in
    let F : List ℕ → Type 0 = λ l. Fed c.args.feed.now c.next.new.self (g.B.Nand.state c.args.board.now) (g.B.Nand.state c.next.new.board) l in
    record {
      fed = subst F (sym (ap (λ b. b.items) same)) (Line-more _ _ _ c.loop-count.head.items _ _ _ c.in-Ok-Some.field-0 c.in-Ok-Some.byte i.fed c.in-Ok-Some.ensures.ok c.in-Ok-Some.field-0-is);
      size = grind (arith, common_steps);
      room = ap (λ b. b.room) same ∙ i.room;
    }

pub loop-count-init : goal.loop-count-init
loop-count-init g c =
    let none = ap (λ b. b.items) c.clear.ensures in
    record { fed = Fed-empty _ _ _ none; size = ap length none; room = search rules }

pub returns-in-Ok-None-clause-ok : goal.returns-in-Ok-None-clause-ok
returns-in-Ok-None-clause-ok g c =
    let i = c.loop-count.invariant in
    let h = Fed-over _ _ _ _ _ _ _ c.in-Ok-None.field-0 i.fed c.in-Ok-None.ensures.ok c.in-Ok-None.field-0-is in
    (h.0, omega (arith, i.size), h.1)
