use Rattle.std.proofs.Common.{sym, ◌∙◌, arith}
use Rattle.pk_walk.proofs.Wanting.{above_here, above_not_here, above_past}
use Rattle.pk_walk.proofs.buffers.search_above.Goals as goal

pub returns-then-has_key : goal.returns-then-has_key
returns-then-has_key g c = above_here c.args.key.now c.args.buffer.now.entries c.from-at.result _ c.len-end.ensures.rising c.from-at.ensures.place c.at.ensures
    (sym c.has_key.ensures ∙ c.if-has_key.true)

pub returns-else-has_key : goal.returns-else-has_key
returns-else-has_key g c = above_not_here c.args.key.now c.args.buffer.now.entries c.from-at.result _ c.from-at.ensures.place c.at.ensures (sym c.has_key.ensures ∙ c.if-has_key.false)

pub returns-else-at-end : goal.returns-else-at-end
returns-else-at-end g c = above_past c.args.key.now c.args.buffer.now.entries c.from-at.result c.from-at.ensures.place
    (let n = c.len-end.ensures.len in let h = c.if-at-end.false in omega (arith, n, h))
