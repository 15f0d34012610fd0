use Rattle.std.{proofs.Common.◌≡◌, proofs.Common.ℕ, proofs.Common.ap, proofs.Common.sym, proofs.Common.subst, proofs.Common.◌∙◌, proofs.Common.drop, proofs.Common.slice_get, specs.Ordering.is_gt}
use Rattle.pk_walk.{specs.declared.position.Position.TheVariants.Above, specs.Visible.is_wanted, specs.Visible.wanted, specs.Visible.first_of}
use Rattle.pk_walk.proofs.Wanting.{above_there, above_end, above_next}
use Rattle.pk_walk.proofs.buffers.place_above.Goals as goal

pub lowest_above-requires-clause-first : goal.lowest_above-requires-clause-first
lowest_above-requires-clause-first g c =
    above_there c.args.key.now c.args.buffer.now.entries c.args.hint c.key.result.now c.key.ensures (ap is_gt (sym c.compare.ensures ∙ c.in-Greater.is))

pub lowest_above-requires-else-hint-len-clause-first : goal.lowest_above-requires-else-hint-len-clause-first
lowest_above-requires-else-hint-len-clause-first g c =
    let es = c.args.buffer.now.entries in
    subst (λ (n : ℕ). slice_get es n ≡ first_of (wanted (is_wanted (Above c.args.key.now)) (drop n es))) (sym c.len-else-hint-len.ensures.len) (above_end c.args.key.now es)

pub returns-in-Equal : goal.returns-in-Equal
returns-in-Equal g c = above_next c.args.key.now c.args.buffer.now.entries c.args.hint c.key.result.now c.len.ensures.rising c.key.ensures (sym c.compare.ensures ∙ c.in-Equal.is)
