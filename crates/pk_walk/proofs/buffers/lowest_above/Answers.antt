use Rattle.std.proofs.Common.{◌≡◌, ℕ, ◌-◌, suc, ap, sym, ◌∙◌, arith, drop}
use Rattle.std.specs.Ordering.{is_gt}
use Rattle.pk_walk.{specs.declared.position.Position.TheVariants.Above, specs.Visible.is_wanted, specs.Visible.wanted, specs.Visible.first_of, proofs.Wanting.above_behind}
use Rattle.pk_walk.proofs.buffers.lowest_above.Goals as goal

pub returns-else-is_gt : goal.returns-else-is_gt
returns-else-is_gt g c = search (arith, above_behind, c.args.key.now, c.args.buffer.now.entries, c.key.result.now, c.len.ensures.rising, c.key.ensures)
