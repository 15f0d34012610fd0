-- no value begins at one of the pages before this one
use Rattle.std.proofs.Common.{◌≡◌, ℕ, ◌<◌, ◌≤◌, get_or}
use Rattle.pk_scan.proofs.taken.begins_before.Given as goal

abbrev pub invariant-loop-page : goal.invariant-loop-page
invariant-loop-page g l = (k : ℕ) → l.from ≤ k → k < l.page → get_or l.live.heads k 0 ≡ 0
