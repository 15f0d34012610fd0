use Rattle.std.proofs.Common.{◌≡◌, ℕ, ◌<◌, ◌≤◌, get_or, true, false}
use Rattle.pk_redo.proofs.checkpoints.row_end.Given as goal

abbrev pub invariant-loop-page : goal.invariant-loop-page
invariant-loop-page l = (k : ℕ) → l.first ≤ k → k < l.page → get_or l.lacks.items k false ≡ true
