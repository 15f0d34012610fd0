-- A key gets a value, or loses its own: the steps of that, one after another.
use Rattle.std.proofs.Common.{◌≡◌, inl, inr, ℕ, ◌≤◌, refl, sym, ap, subst, ◌∙◌, List, [], ◌++◌, length, Bool, Option, Some}
use Rattle.std.{specs.FinMap.insert, specs.FinMap.Entries.find}
use Rattle.pk_base.{specs.Entry.Place, specs.Key.Key, specs.Key.key_cmp, specs.Key.space_of, specs.Shape.Shape, specs.Shape.charge, specs.Page.Flash, specs.EntryChecks.IsPlace, specs.Mark.all_posted}
use Rattle.pk_base.specs.Map.{Map, live}
use Rattle.pk_plan.specs.declared.owner.Owner.TheVariants.{Values as for_values}
use Rattle.pk_nand.{specs.BoardState.BoardState, specs.Calls.IsReady}
use Rattle.pk_pool.specs.Blocks.{used_by}
use Rattle.pk_model.{specs.Growth.Reaches, specs.Growth.Goes, specs.Crashes.CrashFinds, specs.Crashes.commit, specs.Crashes.change}
use Rattle.pk_model.{specs.Spaces.in_space, specs.Spaces.limit_of, specs.Spaces.limits_at, proofs.Growing.at_end, proofs.Growing.Reaches-then, proofs.Growing.Goes-then, proofs.Growing.reached_limits}
use Rattle.pk_values.{specs.State.needs_reclaim, specs.Entries.IsInOpen}
use Rattle.pk_parts.{specs.Parts.Parts, specs.Moves.StandsFor, specs.Moves.Keeps, specs.Moves.KeepsAll, specs.Moves.BreaksAll, specs.Moves.IsWritten, proofs.Keeping.board_has}
use Rattle.pk_changes.{specs.Noting.Puts, proofs.Changing.IsStill, proofs.Changing.kept_reaches, proofs.Changing.kept_goes, proofs.Changing.taken_reaches, proofs.Changing.taken_goes}
use Rattle.pk_changes.specs.Changes.{HasRoomFor, MayPut, MayTake, ChangesAll, FailsToChange}

-- ---- a step that keeps the map leaves what a change requires

-- with the same limits, the same room for a value
room_moved : (shape : Shape) (old new : Flash) (m : Map) (key : Key) (value : List ℕ) → limits_at shape new ≡ limits_at shape old → HasRoomFor shape old m key value → HasRoomFor shape new m key value
room_moved shape old new m key value same room = record {
  spaced = subst (λ (limits : List ℕ). space_of key ≤ length limits) (sym same) room.spaced;
  own = subst (λ (limits : List ℕ). live shape (in_space (space_of key) (insert m key value)) ≤ limit_of limits (space_of key)) (sym same) room.own;
  all = room.all;
}

-- calls along which the tree grows keep both
module _ (shape : Shape) (old new : BoardState) (P : Flash → List ℕ → Type 0) (has : old.shape ≡ Some shape) (reached : Reaches shape old new P) (key : Key) where
  pub room_after : (m : Map) (value : List ℕ) → HasRoomFor shape old.pages m key value → HasRoomFor shape new.pages m key value
  room_after m value = room_moved shape old.pages new.pages m key value (reached_limits shape old new P has reached)

  pub spaced_after : space_of key ≤ length (limits_at shape old.pages) → space_of key ≤ length (limits_at shape new.pages)
  spaced_after = subst (λ (limits : List ℕ). space_of key ≤ length limits) (sym (reached_limits shape old new P has reached))

pub may_put_after : (a b : Parts) (shape : Shape) (m : Map) (old new : BoardState) (key : Key) (value : List ℕ) (place : Option Place)
    → old.shape ≡ Some shape → MayPut a shape old.pages m key value place → Keeps a b shape m old new
    → MayPut b shape new.pages m key value place
may_put_after a b shape m old new key value place has may keeps = record {
  stands = keeps.stands;
  old_is = ap (find key_cmp key) (keeps.same_places may.stands) ∙ may.old_is;
  bytes = may.bytes;
  room = room_after shape old new (CrashFinds shape commit old.pages m) has keeps.cuts key m value may.room;
}

pub may_take_after : (a b : Parts) (shape : Shape) (m : Map) (old new : BoardState) (key : Key) (place : Place)
    → old.shape ≡ Some shape → MayTake a shape old.pages m key place → Keeps a b shape m old new → MayTake b shape new.pages m key place
may_take_after a b shape m old new key place has may keeps = record {
  stands = keeps.stands;
  old_is = ap (find key_cmp key) (keeps.same_places may.stands) ∙ may.old_is;
  bytes = may.bytes;
  spaced = spaced_after shape old new (CrashFinds shape commit old.pages m) has keeps.cuts key may.spaced;
}

pub reclaim_same : (a b : Parts) (count : ℕ) (is : Bool) → b.log.shape ≡ a.log.shape → b.values ≡ a.values → used_by for_values b.pool.states ≡ used_by for_values a.pool.states
    → needs_reclaim a.log.shape a.values a.pool (charge a.log.shape count) ≡ is → needs_reclaim b.log.shape b.values b.pool (charge b.log.shape count) ≡ is
reclaim_same a b count is shapes spaces used needs = rw (shapes, spaces, used) needs

-- ---- a step that keeps the map, and a change after it

module _ (shape : Shape) (s0 s1 : BoardState) (has : s0.shape ≡ Some shape) (m m' : Map)
    (first : Reaches shape s0 s1 (CrashFinds shape commit s0.pages m)) (still : IsStill shape s1.pages s0.pages m) where
  silent : all_posted first.0 ≡ []
  silent = (at_end first.0 s0 s1 (CrashFinds shape commit s0.pages m) first.1).0

  later_cut : (f : Flash) (q : List ℕ) → CrashFinds shape (change m') s1.pages m f q → CrashFinds shape (change m') s0.pages m f (all_posted first.0 ++ q)
  later_cut f q (quiet, inl same) =
      (ap (λ (p : List ℕ). p ++ q) silent ∙ quiet, elim still [ inl as_before ↦ inl (same ∙ as_before) | inr is ↦ inr (inl (same ∙ is)) ])
  later_cut f q (quiet, inr is) = (ap (λ (p : List ℕ). p ++ q) silent ∙ quiet, inr is)

  pub later_reaches : (s2 : BoardState) → Reaches shape s1 s2 (CrashFinds shape (change m') s1.pages m) → Reaches shape s0 s2 (CrashFinds shape (change m') s0.pages m)
  unfolding kept_reaches
  later_reaches s2 second = Reaches-then shape first.0 s0 s1 (CrashFinds shape (change m') s0.pages m) has (kept_reaches shape s0 s1 has m m' first).1 first.2 s2 (CrashFinds shape (change m') s1.pages m) later_cut second

  pub later_goes : (s2 : BoardState) → Goes shape s1 s2 (CrashFinds shape (change m') s1.pages m) → Goes shape s0 s2 (CrashFinds shape (change m') s0.pages m)
  unfolding kept_reaches
  later_goes s2 second = Goes-then shape first.0 s0 s1 (CrashFinds shape (change m') s0.pages m) has (kept_reaches shape s0 s1 has m m' first).1 first.2 s2 (CrashFinds shape (change m') s1.pages m) later_cut second

  -- the change was in memory, before a step that keeps the map after it
  pub changes : (s2 : BoardState) → Reaches shape s1 s2 (CrashFinds shape commit s1.pages m') → Reaches shape s0 s2 (CrashFinds shape (change m') s0.pages m)
  changes s2 second = later_reaches s2 (taken_reaches shape s1 s2 m m' second)

  pub change_goes : (s2 : BoardState) → Goes shape s1 s2 (CrashFinds shape commit s1.pages m') → Goes shape s0 s2 (CrashFinds shape (change m') s0.pages m)
  change_goes s2 second = later_goes s2 (taken_goes shape s1 s2 m m' second)

-- ---- a change of the map, by what it asks

module _ (a b : Parts) (s0 s1 : BoardState) (ready : IsReady s0 a.log.shape) (changed : Map → Map) (May : Shape → Map → Type 0)
    (stands : (shape : Shape) (m : Map) → May shape m → StandsFor a shape s0.pages m) where
  -- the step that was to keep the map stopped the drive
  pub change_broken : BreaksAll a s0 s1 → FailsToChange May changed s0 s1
  change_broken breaks shape m may = let was = stands shape m may in kept_goes shape s0 s1 (board_has a s0 shape m ready was) m (changed m) (breaks shape m was)

  -- a step that keeps the map, the change in memory, and a step that keeps the map after it
  module _ (c : Parts) (s2 : BoardState) (keeps : KeepsAll a b s0 s1) (noted : (shape : Shape) (m : Map) → May shape m → StandsFor c shape s1.pages (changed m)) where
    pub change_made : (e : Parts) → KeepsAll c e s1 s2 → ChangesAll May changed e s0 s2
    change_made e kept shape m may =
        let was = stands shape m may in
        let one = keeps shape m was in
        let two = kept shape (changed m) (noted shape m may) in
        record { stands = two.stands; cuts = changes shape s0 s1 (board_has a s0 shape m ready was) m (changed m) one.cuts one.still s2 two.cuts }

    pub change_failed : BreaksAll c s1 s2 → FailsToChange May changed s0 s2
    change_failed breaks shape m may =
        let was = stands shape m may in
        let one = keeps shape m was in
        change_goes shape s0 s1 (board_has a s0 shape m ready was) m (changed m) one.cuts one.still s2 (breaks shape (changed m) (noted shape m may))

-- for some map
pub some_changed : (a c : Parts) (s0 : BoardState) (flash : Flash) (changed : Map → Map) (May : Shape → Map → Type 0) → c.log.shape ≡ a.log.shape → (m : Map) × May a.log.shape m
    → ((shape : Shape) (m : Map) → May shape m → StandsFor c shape flash (changed m)) → (m : Map) × StandsFor c c.log.shape flash m
some_changed a c s0 flash changed May same may noted = (changed may.0, subst (λ (s : Shape). StandsFor c s flash (changed may.0)) (sym same) (noted a.log.shape may.0 may.1))

-- ---- a value was written, its entry noted, and a commit made if the page is full

module _ (a b : Parts) (s0 s1 : BoardState) (key : Key) (value : List ℕ) (page : ℕ) (old : Option Place) (ready : IsReady s0 a.log.shape) (keeps : KeepsAll a b s0 s1)
    (written : IsWritten b a.log.shape s1.pages key value page) (place : IsPlace a.log.shape (record { page = page; len = length value }))
    (in_open : IsInOpen a.log.shape b.values page (charge a.log.shape (length value))) where
  puts : (shape : Shape) (m : Map) → MayPut a shape s0.pages m key value old → Puts b shape s1.pages m key value page old
  puts shape m may =
      let same = may.stands.with.shape_is in
      record {
        may = may_put_after a b shape m s0 s1 key value old (board_has a s0 shape m ready may.stands) may (keeps shape m may.stands);
        written = subst (λ (s : Shape). IsWritten b s s1.pages key value page) same written;
        place = subst (λ (s : Shape). IsPlace s (record { page = page; len = length value })) same place;
        in_open = subst (λ (s : Shape). IsInOpen s b.values page (charge s (length value))) same in_open;
      }

  pub some_puts : (m : Map) × MayPut a a.log.shape s0.pages m key value old → b.log.shape ≡ a.log.shape
      → (flash : Flash) × (m : Map) × (x : List ℕ) × (length x ≡ length value) × Puts b b.log.shape flash m key x page old
  some_puts may same = (s1.pages, may.0, value, refl, subst (λ (s : Shape). Puts b s s1.pages may.0 key value page old) (sym same) (puts a.log.shape may.0 may.1))

  -- the drive represents the map after the entry
  pub put_noted_so : (c : Parts) → ((shape : Shape) (flash : Flash) (m : Map) → Puts b shape flash m key value page old → StandsFor c shape flash (insert m key value))
      → (shape : Shape) (m : Map) → MayPut a shape s0.pages m key value old → StandsFor c shape s1.pages (insert m key value)
  put_noted_so c noted shape m may = noted shape s1.pages m (puts shape m may)
