-- How many flash operations a Store makes at most, by its parts.
use Rattle.std.proofs.Common.{ℕ, ◌+◌, ◌≤◌, arith}
use Rattle.pk_base.{specs.Shape.Shape, specs.Shape.IsShape, specs.Shape.charge, specs.Shape.greatest, specs.Shape.most_pages, proofs.ShapeLemmas.charge_most}
use Rattle.pk_law_work.specs.Calls.{pair_calls, store_roots}
use Rattle.pk_nand.specs.BoardState.{BoardState}
use Rattle.pk_background.{specs.Costs.Spends, specs.Costs.space_and_put_calls, proofs.Callings.spends_within}

-- a value has most pages at most
pub spends_stored : (shape : Shape) (len : ℕ) (old new : BoardState) → IsShape shape → len ≤ greatest shape → Spends (pair_calls + space_and_put_calls shape (charge shape len)) store_roots old new
    → Spends (pair_calls + space_and_put_calls shape (most_pages shape)) store_roots old new
spends_stored shape len old new is short spends =
    let most = charge_most shape len is short in
    spends_within (pair_calls + space_and_put_calls shape (charge shape len))
    (pair_calls + space_and_put_calls shape (most_pages shape)) store_roots store_roots old new (omega (arith, most)) (omega arith) spends
