-- A change of the map after a step that keeps it: what remains of it, and what one leaves that was interrupted.
use Rattle.std.proofs.Common.{◌≡◌, ℕ, ◌<◌, ◌≤◌, sym, ap, subst, ◌∙◌, arith, false, List, length, Option, Some, Result, Ok, Err}
use Rattle.std.specs.{Prelude.IfErr, Prelude.OnOk, FinMap.insert, FinMap.remove}
use Rattle.pk_base.{specs.Entry.Place, specs.Shape.Shape, specs.Shape.charge, specs.Shape.greatest, specs.Shape.page_entries, specs.Key.Key, specs.Map.Map}
use Rattle.pk_nand.{specs.declared.types.Fault.Fault, specs.declared.types.Fault.TheVariants.Reading, specs.declared.types.Fault.TheVariants.Stopped, specs.BoardState.BoardState, specs.Calls.IsReady}
use Rattle.pk_model.{specs.Crashes.change}
use Rattle.pk_parts.{specs.Parts.Parts, specs.Parts.frames_of, specs.Moves.KeepsAll, specs.Moves.BreaksAll, specs.Moves.OnlyCommits, specs.Moves.LeavesValues, specs.Moves.StandsFor}
use Rattle.pk_parts.{specs.Moves.Keeps, proofs.Keeping.board_has}
use Rattle.pk_background.{specs.Emptying.StepOrRead, specs.Emptying.KeepsOrReads, specs.Emptying.OnRunning, specs.Spacing.needs, proofs.Steps.shape_committed}
use Rattle.pk_background.proofs.ReadSteps.{Passes, reading_passes, reads_nothing, reading_failed, reading_then, running_ok}
use Rattle.pk_changes.specs.Changes.{MayPut, MayTake, ChangesAll, FailsToChange, StepChanges, StepsChange, CanPut, CanTake, StepPuts, StepTakes, PutsOrReads, TakesOrReads, StaysBetween}
use Rattle.pk_changes.proofs.Putting.{may_put_after, may_take_after, reclaim_same, change_broken, later_reaches, later_goes}

-- ---- what a drive runs by

pub stays_by : (a b c : Parts) → LeavesValues a b → StaysBetween b c → StaysBetween a c
stays_by a b c first second = record {
  frames = second.frames ∙ first.frames;
  stopped = second.stopped ∙ ap (λ (d : Parts). d.stopped) first.rest;
  same_shape = second.same_shape ∙ first.same_shape;
  few = subst (λ (s : Shape). length c.log.pending < page_entries s) first.same_shape second.few;
}

-- after a step that keeps the map, one that reads nothing
pub stays_then : (r : Result Unit Fault) (a b c : Parts) → LeavesValues a b → IfErr r (λ e. e ≡ Stopped) → OnOk r (StaysBetween b c) → OnRunning (StaysBetween a c) r
stays_then r a b c first stopped second = running_ok (StaysBetween b c) (StaysBetween a c) r (stays_by a b c first) stopped second

-- after a change in memory, and a commit
pub stays_committed : (r : Result Unit Fault) (a c e : Parts) → frames_of c ≡ frames_of a → c.stopped ≡ a.stopped → c.log.shape ≡ a.log.shape
    → OnOk r (OnlyCommits c e) → OnOk r (length e.log.pending < page_entries c.log.shape) → OnOk r (StaysBetween a e)
stays_committed (Ok x) a c e frames stopped shapes rest few = record {
  frames = ap (λ (d : Parts). frames_of d) rest ∙ frames;
  stopped = ap (λ (d : Parts). d.stopped) rest ∙ stopped;
  same_shape = shape_committed c e rest ∙ shapes;
  few = subst (λ (s : Shape). length e.log.pending < page_entries s) shapes few;
}
stays_committed (Err f) a c e frames stopped shapes rest few = tt

-- ---- a change after a step that keeps the map

few_after : (a b : Parts) → b.log.shape ≡ a.log.shape → length b.log.pending ≤ length a.log.pending → length a.log.pending < page_entries a.log.shape → length b.log.pending < page_entries b.log.shape
few_after a b same less few =
    let here : length a.log.pending < page_entries b.log.shape = subst (λ (s : Shape). length a.log.pending < page_entries s) (sym same) few in
    omega (arith, less, here)

-- what a drive keeps to, if a read failed before the change
stays_kept : (a b : Parts) → LeavesValues a b → length b.log.pending ≤ length a.log.pending → length a.log.pending < page_entries a.log.shape → StaysBetween a b
stays_kept a b leaves less few = record {
  frames = leaves.frames;
  stopped = ap (λ (d : Parts). d.stopped) leaves.rest;
  same_shape = leaves.same_shape;
  few = omega (arith, less, few);
}

pub stays_failed : (e : Fault) (a b : Parts) → length a.log.pending < page_entries a.log.shape → OnRunning {T = Unit {0}} (LeavesValues a b) (Err e)
    → OnRunning {T = Unit {0}} (length b.log.pending ≤ length a.log.pending) (Err e) → OnRunning {T = Unit {0}} (StaysBetween a b) (Err e)
stays_failed Reading a b few leaves less = stays_kept a b leaves less few
stays_failed Stopped a b few leaves less = tt

module _ {a b : Parts} {n : ℕ} {s0 s1 : BoardState} {u : Unit {0}} (leaves : LeavesValues a b) (less : length b.log.pending ≤ length a.log.pending) (step : KeepsOrReads a b n s0 s1 (Ok u)) where
  keeps : KeepsAll a b s0 s1
  keeps = step.came.0

  made : Passes n s0 s1
  made = reading_passes u (λ (x : Unit). KeepsAll a b s0 s1) (KeepsAll a b s0 s1) (BreaksAll a s0 s1) a.log.shape n s0 s1 step

  pub can_put_after : (key : Key) (value : List ℕ) (place : Option Place) → CanPut a s0 key value place → CanPut b s1 key value place
  can_put_after key value place can =
      let same = leaves.same_shape in
      record {
        ready = subst (λ (s : Shape). IsReady s1 s) (sym same) step.ready;
        may = (
          can.may.0,
          subst (λ (s : Shape). MayPut b s s1.pages can.may.0 key value place) (sym same)
              (may_put_after a b a.log.shape can.may.0 s0 s1 key value place can.ready.shape_is can.may.1 (keeps a.log.shape can.may.0 can.may.1.stands)),
        );
        short = subst (λ (s : Shape). length value ≤ greatest s) (sym same) can.short;
        few = few_after a b same less can.few;
      }

  -- a value that had room has it still
  pub still_room : (size : ℕ) → needs (charge a.log.shape size) a ≡ false → needs (charge b.log.shape size) b ≡ false
  still_room size room = reclaim_same a b size false leaves.same_shape (ap (λ (d : Parts). d.values) leaves.rest) leaves.as_many room

  pub can_take_after : (key : Key) (place : Place) → CanTake a s0 key place → CanTake b s1 key place
  can_take_after key place can =
      let same = leaves.same_shape in
      record {
        ready = subst (λ (s : Shape). IsReady s1 s) (sym same) step.ready;
        may = (
          can.may.0,
          subst (λ (s : Shape). MayTake b s s1.pages can.may.0 key place) (sym same)
              (may_take_after a b a.log.shape can.may.0 s0 s1 key place can.ready.shape_is can.may.1 (keeps a.log.shape can.may.0 can.may.1.stands)),
        );
        few = few_after a b same less can.few;
      }

  module _ (r : Result Unit Fault) (e : Parts) (s2 : BoardState) (ready : IsReady s0 a.log.shape) where
    -- a change of the map, by what it asks before the step that keeps it, and what after
    module _ (changed : Map → Map) (Before After : Shape → Map → Type 0) (stands : (shape : Shape) (m : Map) → Before shape m → StandsFor a shape s0.pages m)
        (after : (shape : Shape) (m : Map) → s0.shape ≡ Some shape → Before shape m → Keeps a b shape m s0 s1 → After shape m) where
      made_later : ChangesAll After changed e s1 s2 → ChangesAll Before changed e s0 s2
      made_later changes shape m may =
          let one = keeps shape m (stands shape m may) in
          let has = board_has a s0 shape m ready (stands shape m may) in
          let later = changes shape m (after shape m has may one) in
          record { stands = later.stands; cuts = later_reaches shape s0 s1 has m (changed m) one.cuts one.still s2 later.cuts }

      failed_later : FailsToChange After changed s1 s2 → FailsToChange Before changed s0 s2
      failed_later fails shape m may =
          let one = keeps shape m (stands shape m may) in
          let has = board_has a s0 shape m ready (stands shape m may) in
          later_goes shape s0 s1 has m (changed m) one.cuts one.still s2 (fails shape m (after shape m has may one))

      step_later : StepChanges After changed b e 0 s1 s2 r → StepsChange Before changed a e n s0 s2 r
      step_later second =
          reading_then r (λ (x : Unit). ChangesAll After changed e s1 s2) (λ (x : Unit). ChangesAll Before changed e s0 s2) ⊥ (KeepsAll a e s0 s2)
          (FailsToChange After changed s1 s2) (FailsToChange Before changed s0 s2) a.log.shape n 0 n s0 s1 s2 (omega arith) made (λ x. made_later) (λ none. absurd none) failed_later
          (subst (λ (s : Shape). StepOrRead (λ (x : Unit). ChangesAll After changed e s1 s2) ⊥ (FailsToChange After changed s1 s2) s 0 s1 s2 r) leaves.same_shape
          (reads_nothing r (λ (x : Unit). ChangesAll After changed e s1 s2) ⊥ (FailsToChange After changed s1 s2) b.log.shape 0 s1 s2 second))

    pub step_puts_later : (key : Key) (value : List ℕ) (place : Option Place) → StepPuts b e 0 s1 s2 key value place r → PutsOrReads a e n s0 s2 key value place r
    step_puts_later key value place =
        step_later (λ m. insert m key value) (λ shape m. MayPut a shape s0.pages m key value place) (λ shape m. MayPut b shape s1.pages m key value place)
        (λ shape m may. may.stands) (λ shape m. may_put_after a b shape m s0 s1 key value place)

    pub step_takes_later : (key : Key) (place : Place) → StepTakes b e 0 s1 s2 key place r → TakesOrReads a e n s0 s2 key place r
    step_takes_later key place =
        step_later (λ m. remove m key) (λ shape m. MayTake a shape s0.pages m key place) (λ shape m. MayTake b shape s1.pages m key place)
        (λ shape m may. may.stands) (λ shape m. may_take_after a b shape m s0 s1 key place)

-- ---- room could not be made

pub failed_before : (e : Fault) (a b : Parts) (n : ℕ) (s0 s1 : BoardState) → IsReady s0 a.log.shape → KeepsOrReads {T = Unit {0}} a b n s0 s1 (Err e)
    → (changed : Map → Map) (May : Shape → Map → Type 0) → ((shape : Shape) (m : Map) → May shape m → StandsFor a shape s0.pages m) → StepsChange May changed a b n s0 s1 (Err e)
failed_before e a b n s0 s1 ready step changed May stands =
    reading_failed e (λ (x : Unit). KeepsAll a b s0 s1) (λ (x : Unit). ChangesAll May changed b s0 s1) (KeepsAll a b s0 s1) (KeepsAll a b s0 s1) (BreaksAll a s0 s1) (FailsToChange May changed s0 s1)
    a.log.shape n n s0 s1 (omega arith) (λ kept. kept) (change_broken a b s0 s1 ready changed May stands) step
