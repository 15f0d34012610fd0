-- A change of the map after a part of a command that keeps it, and of which no call failed.
use Rattle.std.proofs.Common.{◌≡◌, ℕ, ◌+◌, ◌≤◌, ◌<◌, sym, ap, subst, ◌∙◌, List, length, Some, Result}
use Rattle.std.specs.FinMap.{insert}
use Rattle.pk_base.{specs.Key.Key, specs.Map.Map}
use Rattle.pk_base.specs.Shape.{Shape, greatest, page_entries}
use Rattle.pk_nand.{specs.declared.types.Fault.Fault, specs.BoardState.BoardState, specs.Calls.IsReady}
use Rattle.pk_model.{specs.Crashes.CrashFinds, specs.Crashes.commit, specs.Crashes.change}
use Rattle.pk_parts.{specs.Parts.Parts, specs.Parts.frames_of, specs.Moves.StandsBetween, proofs.Halves.between}
use Rattle.pk_background.{specs.Emptying.StepOrRead, specs.Emptying.OnRunning, specs.Spacing.SameMapAll}
use Rattle.pk_background.{proofs.ReadSteps.Passes, proofs.ReadSteps.reading_then, proofs.ReadSteps.running_says, proofs.SameMaps.SameMap-then}
use Rattle.pk_changes.{specs.Changes.StaysBetween, specs.Changes.ChangesAll, specs.Changes.FailsToChange, proofs.Putting.later_reaches, proofs.Putting.later_goes, proofs.Putting.room_after}
use Rattle.pk_core.specs.Whole.{MayStore, SameMapBetween, ChangesOrReads, StoresWhole, CanStore}

-- Such a part, with at most n reads and n roots: no pair is half made after it, and the drive runs as before.
pub record Leads (a b : Parts) (n : ℕ) (s0 s1 : BoardState) : Type 0 where
  pub before : IsReady s0 a.log.shape
  pub kept : SameMapBetween a b s0 s1
  pub same_shape : b.log.shape ≡ a.log.shape
  pub frames : frames_of b ≡ frames_of a
  pub stopped : b.stopped ≡ a.stopped
  pub passes : Passes n s0 s1

module _ {a b : Parts} {n : ℕ} {s0 s1 : BoardState} (l : Leads a b n s0 s1) where
  -- the board has the shape of the drive
  pub has : (shape : Shape) (m : Map) → StandsBetween a shape s0.pages m → s0.shape ≡ Some shape
  has shape m was = l.before.shape_is ∙ ap (λ s. Some s) was.with.shape_is

  same_map : (c : Parts) (s2 : BoardState) → SameMapAll b c s1 s2 → SameMapBetween a c s0 s2
  same_map c s2 same shape m was =
      let one = l.kept shape m was in
      SameMap-then b shape m s0 s1 (has shape m was) one c s2 (same shape m one.stands)

  pub stays_later : (r : Result Unit Fault) (c : Parts) → OnRunning (StaysBetween b c) r → OnRunning (StaysBetween a c) r
  stays_later r c = running_says (StaysBetween b c) (StaysBetween a c) r (λ second. record {
    frames = second.frames ∙ l.frames;
    stopped = second.stopped ∙ l.stopped;
    same_shape = second.same_shape ∙ l.same_shape;
    few = subst (λ (s : Shape). length c.log.pending < page_entries s) l.same_shape second.few;
  })

  -- a change of the map, by what it asks before the part, and what after
  module _ (changed : Map → Map) (Before After : Shape → Map → Type 0) (stands : (shape : Shape) (m : Map) → Before shape m → StandsBetween a shape s0.pages m)
      (after : (shape : Shape) (m : Map) → Before shape m → After shape m) (c : Parts) (s2 : BoardState) where
    made : ChangesAll After changed c s1 s2 → ChangesAll Before changed c s0 s2
    made changes shape m may =
        let one = l.kept shape m (stands shape m may) in
        let later = changes shape m (after shape m may) in
        record { stands = later.stands; cuts = later_reaches shape s0 s1 (has shape m (stands shape m may)) m (changed m) one.cuts one.still s2 later.cuts }

    failed : FailsToChange After changed s1 s2 → FailsToChange Before changed s0 s2
    failed fails shape m may =
        let one = l.kept shape m (stands shape m may) in
        later_goes shape s0 s1 (has shape m (stands shape m may)) m (changed m) one.cuts one.still s2 (fails shape m (after shape m may))

    pub changes_later : (r : Result Unit Fault) (K : Type 0) (reads : Shape → ℕ) (most : ℕ) → n + reads a.log.shape ≤ most → (K → SameMapAll b c s1 s2)
        → StepOrRead (λ (x : Unit). ChangesAll After changed c s1 s2) K (FailsToChange After changed s1 s2) b.log.shape (reads b.log.shape) s1 s2 r
        → ChangesOrReads Before changed a c most s0 s2 r
    changes_later r K reads most few same second =
        reading_then r (λ (x : Unit). ChangesAll After changed c s1 s2) (λ (x : Unit). ChangesAll Before changed c s0 s2) K (SameMapBetween a c s0 s2)
        (FailsToChange After changed s1 s2) (FailsToChange Before changed s0 s2) a.log.shape n (reads a.log.shape) most s0 s1 s2 few l.passes
        (λ x. made) (λ kept. same_map c s2 (same kept)) failed
        (subst (λ (s : Shape). StepOrRead (λ (x : Unit). ChangesAll After changed c s1 s2) K (FailsToChange After changed s1 s2) s (reads s) s1 s2 r) l.same_shape second)

  -- ---- a key gets a value

  module _ (key : Key) (value : List ℕ) where
    pub store_may : (shape : Shape) (m : Map) → MayStore a shape s0.pages m key value → MayStore b shape s1.pages m key value
    store_may shape m may =
        let one = l.kept shape m may.stands in
        record {
          stands = between b shape s1.pages m one.stands;
          bytes = may.bytes;
          room = room_after shape s0 s1 (CrashFinds shape commit s0.pages m) (has shape m may.stands) one.cuts key m value may.room;
        }

    pub can_store_later : IsReady s1 a.log.shape → length b.log.pending < page_entries a.log.shape → CanStore a s0 key value → CanStore b s1 key value
    can_store_later ready few can = record {
      ready = subst (λ (s : Shape). IsReady s1 s) (sym l.same_shape) ready;
      may = (can.may.0, subst (λ (s : Shape). MayStore b s s1.pages can.may.0 key value) (sym l.same_shape) (store_may a.log.shape can.may.0 can.may.1));
      short = subst (λ (s : Shape). length value ≤ greatest s) (sym l.same_shape) can.short;
      few = subst (λ (s : Shape). length b.log.pending < page_entries s) (sym l.same_shape) few;
    }

    pub stores_later : (r : Result Unit Fault) (c : Parts) (s2 : BoardState) (reads : Shape → ℕ) (most : ℕ) → n + reads a.log.shape ≤ most
        → StoresWhole b c (reads b.log.shape) s1 s2 key value r → StoresWhole a c most s0 s2 key value r
    stores_later r c s2 reads most few second =
        changes_later (λ m. insert m key value) (λ shape m. MayStore a shape s0.pages m key value) (λ shape m. MayStore b shape s1.pages m key value)
        (λ shape m may. may.stands) store_may c s2 r (SameMapBetween b c s1 s2) reads most few (λ same shape m stands. same shape m (between b shape s1.pages m stands)) second
