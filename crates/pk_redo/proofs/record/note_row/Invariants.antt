use Rattle.std.proofs.Common.{◌≡◌, ◌⊎◌, ℕ, ◌+◌, ◌<◌, ◌≤◌, length, get_or, true, false}
use Rattle.pk_redo.proofs.record.note_row.Given as goal

abbrev pub invariant-loop-page : goal.invariant-loop-page
invariant-loop-page l = record {
  most : l.page ≤ l.first + l.count;
  inside : (k : ℕ) → l.first ≤ k → k < l.page → k < length l.fn.set.items → get_or l.set.items k false ≡ true;
  outside : (k : ℕ) → (k < l.first) ⊎ (l.page ≤ k) → get_or l.set.items k false ≡ get_or l.fn.set.items k false;
  len : length l.set.items ≡ length l.fn.set.items;
}
