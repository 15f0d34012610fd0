-- The most flash operations that a command makes, and the most roots that it installs, part by part.
use Rattle.std.specs.Prelude.{ℕ, ◌+◌, ◌*◌, ◌≤◌, sum}
use Rattle.pk_base.specs.Shape.{Shape, IsShape, caps, most_pages, most_calls, commit_programs}
use Rattle.pk_law_work.{specs.Rest.whole_freeze, specs.Rest.whole_reclaim, specs.Work.emptying}

-- a page of each run
abbrev pub lookup_calls : ℕ
lookup_calls = 4

-- a commit of the pending entries, which makes no other call than its programs
abbrev pub commit_calls : ℕ
commit_calls = commit_programs

-- the second program of a pair that a Store or a Delete finds half made
abbrev pub pair_calls : ℕ
pair_calls = 1

module _ (shape : Shape) where
  -- the pending entries are committed, the frozen buffer is emptied, and the active one is frozen
  abbrev pub room_calls : ℕ
  room_calls = commit_calls + emptying shape 4 + whole_freeze

  -- the pending entries are committed, a whole reclaim is run with the freeze that it may need, and a block is taken
  abbrev pub space_calls : ℕ
  space_calls = commit_calls + whole_reclaim shape + room_calls + 1

  abbrev pub store_calls : ℕ
  store_calls = lookup_calls + pair_calls + space_calls + room_calls + most_pages shape + commit_calls

  abbrev pub delete_calls : ℕ
  delete_calls = lookup_calls + pair_calls + room_calls + commit_calls

  abbrev pub retrieve_calls : ℕ
  retrieve_calls = lookup_calls + most_pages shape

  -- each page of each run
  abbrev pub list_calls : ℕ
  list_calls = sum (caps shape)

-- most roots of four merges and a freeze, and of the two times that a Store may make them
abbrev pub room_roots : ℕ
room_roots = 4 + 1

abbrev pub store_roots : ℕ
store_roots = 2 * room_roots

-- no command makes more calls than the most
abbrev pub CallsMost : Type 0
CallsMost =
    (shape : Shape) → IsShape shape
    → (store_calls shape ≤ most_calls shape) × (delete_calls shape ≤ most_calls shape) × (retrieve_calls shape ≤ most_calls shape) × (list_calls shape ≤ most_calls shape)
