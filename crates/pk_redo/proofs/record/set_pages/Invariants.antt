use Rattle.std.proofs.Common.{◌≡◌, ◌↔◌, ℕ, List, ◌<◌, length, take, get_or, true, false}
use Rattle.pk_base.specs.Shape.{page_count}
use Rattle.pk_redo.specs.Steps.{Sets, step_marks}
use Rattle.pk_redo.proofs.record.set_pages.Given as goal

abbrev pub invariant-loop-i : goal.invariant-loop-i
invariant-loop-i l = record {
  len : length l.set.items ≡ page_count l.shape;
  is_set : (log : List ℕ) (k : ℕ) → k < page_count l.shape → (get_or l.set.items k false ≡ true) ↔ Sets l.shape (step_marks l.shape log (take l.i l.steps)) k;
}
