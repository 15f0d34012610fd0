use Rattle.std.proofs.Common.{◌≡◌, ◌<◌, ℕ, List, [], length, map, get_or, Some}
use Rattle.pk_nvme.specs.Text.{number_of}
use Rattle.pk_top.proofs.words.read_numbers.Given as goal

abbrev pub invariant-loop-i : goal.invariant-loop-i
invariant-loop-i l =
    (length l.into ≡ length l.initial.into) × ((k : ℕ) → k < l.i → number_of (get_or (map (λ w. w.now) l.words) k []) ≡ Some (get_or l.into k 0))
