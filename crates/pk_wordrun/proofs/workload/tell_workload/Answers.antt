use Rattle.std.proofs.Common.{List, ℕ, ap, subst, ◌∙◌}
use Rattle.pk_nvme.specs.Bytes.{RoomyList}
use Rattle.pk_nand.{specs.BoardState.BoardState, specs.Operations.after_post, specs.Operations.PostFailed}
use Rattle.pk_wordrun.proofs.Generating.{counted, told_summary, told_unposted}
use Rattle.pk_wordrun.proofs.workload.tell_workload.Goals as goal

pub returns-in-Ok-say : goal.returns-in-Ok-say
returns-in-Ok-say g c = λ m holds.
    let b = g.B.Nand.state c.serve_workload.new.board in
    let w = c.in-Ok.ensures.served m holds in
    let k = c.counts-counts.ensures in
    let has = ap (λ (x : BoardState). x.shape) w.asked.rest ∙ w.asked.shape_is in
    let are = counted (g.D.Engine.agrees c.serve_workload.new.drive) c.args.shape b
    (g.D.Engine.sight c.serve_workload.new.drive) c.counts-counts.result has c.in-Ok.ensures.running c.in-Ok.ensures.none k.numbers.1 k.map w.asked.left w.asked.held in
    let text = c.bytes.ensures ∙ ap (λ (t : RoomyList). t.items) (c.say.ensures w.asked.answered.all w.sums) in
    told_summary _ _ _ _ _ _ _ _ w _ _ are (g.B.Nand.state c.say-in-Ok.new.board) (c.in-Ok-say.ensures.posts ∙ ap (λ (t : List ℕ). after_post b t) text)

pub returns-in-Err-say : goal.returns-in-Err-say
returns-in-Err-say g c = λ m holds.
    let b = g.B.Nand.state c.serve_workload.new.board in
    let w = c.in-Ok.ensures.served m holds in
    let k = c.counts-counts.ensures in
    let has = ap (λ (x : BoardState). x.shape) w.asked.rest ∙ w.asked.shape_is in
    let are = counted (g.D.Engine.agrees c.serve_workload.new.drive) c.args.shape b
    (g.D.Engine.sight c.serve_workload.new.drive) c.counts-counts.result has c.in-Ok.ensures.running c.in-Ok.ensures.none k.numbers.1 k.map w.asked.left w.asked.held in
    let text = c.bytes.ensures ∙ ap (λ (t : RoomyList). t.items) (c.say.ensures w.asked.answered.all w.sums) in
    let T : List ℕ → Type 0 = λ t. PostFailed b (g.B.Nand.state c.say-in-Ok.new.board) t in
    told_unposted _ _ _ _ _ _ _ _ w _ _ are (g.B.Nand.state c.say-in-Ok.new.board) (subst T text c.in-Err-say.ensures.fails)
