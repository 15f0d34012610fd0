-- What a reclaim keeps in memory.
use Rattle.std.specs.Prelude.{◌≡◌, ◌⊎◌, ℕ, zero, suc, ◌+◌, ◌-◌, ◌*◌, ◌%◌, ◌<◌, ◌≤◌, List, [], ◌∷◌, length, filter, take, slice_index, slice_get, slice_set, IsSome, is_none, nat_lt, Bool, true, false}
use Rattle.std.specs.Prelude.{if◌then◌else◌, Option, Some, None}
use Rattle.std.specs.FinMap.Entries.{put, find}
use Rattle.pk_base.{specs.Key.Key, specs.Key.key_cmp, specs.Shape.Shape, specs.Entry.Entry, specs.Entry.Place, specs.Entry.put_entry}
use Rattle.pk_law_work.{specs.Rest.steps_of, specs.Jobs.reclaim_rest}
use Rattle.pk_gc.{specs.declared.course.Course.Course, specs.declared.course.Phase.Phase, specs.declared.moves.Move.Move}
use Rattle.pk_gc.specs.declared.course.Phase.TheVariants.{Idle, Copies, Commits, GivesBack}

-- The shape, how far a reclaim has come, the values that were copied in it, the entries of the commit that is half made, and the page between a
-- read and a program.
pub record JobState : Type 0 where
  pub shape : Shape
  pub phase : Phase
  pub moves : List Move
  pub entries : List Entry
  pub page : List ℕ

-- these entries while a commit is half made, and otherwise none
abbrev pub entries_in : Phase → List Entry → List Entry
entries_in Idle es = []
entries_in (Copies c) es = []
entries_in (Commits victim) es = es
entries_in (GivesBack victim) es = []

-- the place to which a value was copied
abbrev pub new_place : Move → Place
new_place m = record { page = m.to; len = m.len }

-- the keys of copied values, with the new places
abbrev pub placed_at : List Move → List (Key × Place)
placed_at [] = []
placed_at (m ∷ ms) = (m.key, new_place m) ∷ placed_at ms

-- the entry that names the new place
abbrev pub moved_entry : Move → Entry
moved_entry m = put_entry m.key (new_place m)

-- a value begins at the old place still
abbrev pub is_left : List ℕ → Move → Bool
is_left heads m = nat_lt 0 (slice_index heads m.from)

-- the moves whose old place is still live
abbrev pub left_of : List ℕ → List Move → List Move
left_of heads ms = filter (is_left heads) ms

-- the heads if such a value goes to its new place
abbrev pub heads_behind : List ℕ → Move → List ℕ
heads_behind heads m = if is_left heads m then slice_set (slice_set heads m.from 0) m.to m.count else heads

-- the entries of a buffer, with that of such a value
abbrev pub entries_behind : List ℕ → List Entry → Move → List Entry
entries_behind heads es m = if is_left heads m then put key_cmp m.key (Some (new_place m)) es else es

-- the buffer has no entry of this key
abbrev pub is_new : List Entry → Entry → Bool
is_new es e = is_none (find key_cmp e.0 es)

-- the heads and the entries if all of these values that remain go to their new places
abbrev pub heads_all : List ℕ → List Move → List ℕ
heads_all heads [] = heads
heads_all heads (m ∷ ms) = heads_all (heads_behind heads m) ms

abbrev pub entries_all : List ℕ → List Entry → List Move → List Entry
entries_all heads es [] = es
entries_all heads es (m ∷ ms) = entries_all (heads_behind heads m) (entries_behind heads es m) ms

-- a value that remains may go to its new place: there is room for it in the live map and in the buffer
abbrev pub CanGo : ℕ → ℕ → List ℕ → List Entry → Move → Type 0
CanGo block_pages capacity heads es m =
    is_left heads m ≡ true
    → (slice_get heads m.from ≡ Some m.count) × (slice_get (slice_set heads m.from 0) m.to ≡ Some 0) × (m.to % block_pages + m.count ≤ block_pages)
    × ((length es < capacity) ⊎ IsSome (find key_cmp m.key es))

-- and so each of them, after those before it
abbrev pub CanGoAll : ℕ → ℕ → List ℕ → List Entry → List Move → Type 0
CanGoAll block_pages capacity heads es ms =
    (i : ℕ) (m : Move) → slice_get ms i ≡ Some m → CanGo block_pages capacity (heads_all heads (take i ms)) (entries_all heads es (take i ms)) m

-- ---- how far it has come

-- the page of the victim that is copied next, the page to which it goes, and the first page that was not looked at
abbrev pub source : Shape → Course → ℕ
source shape c = c.victim * shape.block_pages + c.seen

abbrev pub target : Shape → Course → ℕ
target shape c = c.output * shape.block_pages + c.used

abbrev pub unseen : Shape → Course → ℕ
unseen shape c = source shape c + c.left

-- the pages of the values that begin at this page and at the n - 1 after it
abbrev pub live_from : List ℕ → ℕ → ℕ → ℕ
live_from heads page zero = 0
live_from heads page (suc n) = slice_index heads page + live_from heads (page + 1) n

-- and in the rest of the victim
abbrev pub live_unseen : Shape → List ℕ → Course → ℕ
live_unseen shape heads c = live_from heads (unseen shape c) (c.victim * shape.block_pages + shape.block_pages - unseen shape c)

-- the page was read, and then programmed
abbrev pub read_next : Course → Course
read_next c = record c { held = true }

abbrev pub programmed : Course → Course
programmed c = record c { seen = c.seen + 1; used = c.used + 1; left = c.left - 1; held = false }

-- the next value begins at this page of the victim, and has this many
abbrev pub begun_at : Course → ℕ → ℕ → Course
begun_at c seen count = record c { seen = seen; left = count; held = true }

-- the reclaim of this block to that one, at its start
abbrev pub started : ℕ → ℕ → Course
started victim output = record { victim = victim; output = output; seen = 0; used = 0; left = 0; held = false }

-- what remains of the copy: a read and a program for each page that is still to be copied, the two programs of the moves' commit, and the giving
-- back
abbrev pub steps_left : Shape → List ℕ → Course → ℕ
steps_left shape heads c = steps_of (reclaim_rest (c.left + live_unseen shape heads c) c.held 3)

-- and of a reclaim, if one runs
abbrev pub left_in : Shape → List ℕ → Phase → Option ℕ
left_in shape heads Idle = None
left_in shape heads (Copies c) = Some (steps_left shape heads c)
left_in shape heads (Commits victim) = Some (steps_of (reclaim_rest 0 false 2))
left_in shape heads (GivesBack victim) = Some (steps_of (reclaim_rest 0 false 1))
