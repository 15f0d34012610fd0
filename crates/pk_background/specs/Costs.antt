-- The most flash operations that the parts of a Store make, and the most roots that they install.
use Rattle.std.specs.Prelude.{ℕ, ◌+◌, ◌<◌, ◌≤◌}
use Rattle.pk_base.specs.Shape.{Shape}
use Rattle.pk_law_work.{specs.Rest.whole_reclaim, specs.Calls.commit_calls, specs.Calls.lookup_calls, specs.Calls.room_calls}
use Rattle.pk_nand.{specs.BoardState.BoardState, specs.Calls.last_count}
use Rattle.pk_model.specs.Wear.{roots}
use Rattle.pk_call.specs.Calling.{FewCalls}

-- At most this many flash operations were made, failed ones included, and at most this many roots installed.
pub record Spends (most_calls most_roots : ℕ) (old new : BoardState) : Type 0 where
  pub calls : FewCalls most_calls old new
  pub installs : roots new ≤ roots old + most_roots

-- the numbers of roots suffice for this many more
abbrev pub NumbersLast : ℕ → BoardState → Type 0
NumbersLast more board = roots board + more < last_count

-- a block is taken, and this many pages of a value are programmed
abbrev pub place_calls : ℕ → ℕ
place_calls count = 1 + count

module _ (shape : Shape) where
  -- the pending entries are committed, and reclaims are run, with the room that their moves may need
  abbrev pub reclaim_calls : ℕ
  reclaim_calls = commit_calls + whole_reclaim shape + room_calls shape

  -- room for an entry, its value of n pages, and a commit if the journal page is full
  abbrev pub put_calls : ℕ → ℕ
  put_calls count = room_calls shape + place_calls count + commit_calls

  -- reclaims before that, and a lookup after them
  abbrev pub space_and_put_calls : ℕ → ℕ
  space_and_put_calls count = reclaim_calls + lookup_calls + put_calls count
