-- A log with an empty buffer and a fresh epoch has room for any key.
use Rattle.std.proofs.Common.{◌≡◌, ℕ, ◌<◌, Bool, true, false, ◌&&◌, ◌==◌, [], length, arith, refl}
use Rattle.std.proofs.lemmas.Bool.Decides.{nat_tests}
use Rattle.pk_base.{specs.Key.Key, specs.Shape.Shape, specs.Shape.IsShape, specs.Shape.buffer, specs.Shape.epoch_commits, proofs.ShapeLemmas.block_pages_positive, proofs.ZeroLemmas.some_is_not_zero}
use Rattle.pk_law_work.specs.Backlog.{is_tight}
use Rattle.pk_jrn.specs.Epochs.{left_of}
use Rattle.pk_log.specs.State.{LogState, needs_freeze}

not_same : (n : ℕ) → 0 < n → (0 == n) ≡ false
not_same n more = grind (arith, nat_tests)

pub no_need : (log : LogState) (key : Key) → log.active.entries ≡ [] → 0 < log.active.capacity → 0 < left_of log.epoch → needs_freeze log key ≡ false
no_need log key none some left =
    let full : (0 == log.active.capacity) ≡ false = not_same log.active.capacity some in
    let no_page : (left_of log.epoch == 0) ≡ false = some_is_not_zero (left_of log.epoch) left in
    rw (none, full, no_page) (last (length log.pending == 0))
  where
    last : (b : Bool) → (b && false) ≡ false
    last true = refl
    last false = refl

pub left_some : (shape : Shape) → IsShape shape → 0 < buffer shape
left_some shape is_shape = let least = is_shape.page_least in omega (arith, least)

-- and room for the moves of any reclaim
pub frozen_is_room : (shape : Shape) → IsShape shape → is_tight shape 0 (epoch_commits shape) ≡ false
frozen_is_room shape is_shape =
    let few = is_shape.moves_fit in
    let positive = block_pages_positive shape is_shape in
    grind (arith, nat_tests, few, positive)
