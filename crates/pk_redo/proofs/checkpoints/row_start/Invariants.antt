use Rattle.std.proofs.Common.{◌≡◌, ℕ, ◌<◌, ◌≤◌, get_or, false}
use Rattle.pk_redo.proofs.checkpoints.row_start.Given as goal

abbrev pub invariant-loop-page : goal.invariant-loop-page
invariant-loop-page l = (k : ℕ) → l.from ≤ k → k < l.page → get_or l.lacks.items k false ≡ false
