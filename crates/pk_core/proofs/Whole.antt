-- The second program of a pair that is half made, before a change of the map.
use Rattle.std.proofs.Common.{◌≡◌, ◌⊎◌, inl, inr, ℕ, ◌+◌, ◌≤◌, ◌<◌, refl, sym, ap, subst, ◌∙◌, arith, Bool, true, false, nat_le, List, [], length, Option, Result, Ok, Err}
use Rattle.std.{specs.Prelude.IsOk, specs.FinMap.remove, specs.FinMap.Entries.find}
use Rattle.pk_base.{specs.Entry.Place, specs.Key.Key, specs.Key.key_cmp, specs.Map.Map}
use Rattle.pk_base.specs.Shape.{Shape, charge}
use Rattle.pk_nand.{specs.declared.types.Fault.Fault, specs.declared.types.Fault.TheVariants.Reading, specs.declared.types.Fault.TheVariants.Stopped, specs.BoardState.BoardState, specs.Calls.IsReady}
use Rattle.pk_model.{specs.Reading.reading, specs.Growth.Reaches, specs.Wear.roots, specs.Wear.is_worn}
use Rattle.pk_model.{specs.Crashes.CrashFinds, specs.Crashes.background, specs.Crashes.commit, specs.Crashes.change, proofs.Growing.weaken_went, proofs.Growing.at_end}
use Rattle.pk_law_work.specs.Calls.{commit_calls, pair_calls, room_calls, room_roots, store_roots}
use Rattle.pk_call.specs.Calling.{FewCalls}
use Rattle.pk_law_steps.specs.Under.{places}
use Rattle.pk_log.specs.State.{LogState}
use Rattle.pk_parts.{specs.Parts.Parts, specs.Parts.frames_of, specs.Parts.is_half, specs.Parts.pages_for, specs.Parts.settled_parts, specs.Moves.StandsBetween, specs.Moves.KeepsAll}
use Rattle.pk_parts.{specs.Staying.Stays, specs.Staying.StaysOrOpens, proofs.Halves.not_made, proofs.Halves.is_whole}
use Rattle.pk_parts.{proofs.Standing.found_once, proofs.Staying.opens_behind, proofs.Staying.stays_same, proofs.Staying.stays_then}
use Rattle.pk_background.{specs.Emptying.OnRunning, specs.Pairing.FinishesHalf, specs.Pairing.FailsToFinish, specs.Pairing.FinishesOr, specs.Spacing.SameMapAll}
use Rattle.pk_background.{specs.Costs.Spends, specs.Costs.space_and_put_calls, proofs.Callings.few_program, proofs.Callings.few_same, proofs.Callings.few_within, proofs.Callings.spends_then}
use Rattle.pk_background.{proofs.ReadSteps.passes_none, proofs.ReadSteps.running_says, proofs.SameMaps.SameMapAll-none, proofs.SameMaps.commit_cuts, proofs.SameMaps.same_of}
use Rattle.pk_changes.specs.Changes.{MayPut, MayTake, CanPut, CanTake, TakesOrReads}
use Rattle.pk_changes.proofs.Putting.{spaced_after}
use Rattle.pk_core.proofs.Later.{Leads, has, stays_later, changes_later, store_may, can_store_later, stores_later}
use Rattle.pk_core.proofs.Stored.{same_whole}
use Rattle.pk_core.specs.Whole.{MayTakeBetween, SameMapBetween, ChangesOrReads, TakesWhole, StoresWithin, CanStoreOver, CanTakeBetween, store_most}

-- ---- the pair is whole

-- By at most one program the drive represents every map that it did, by the same lists.
pub record Wholes (a b : Parts) (s0 s1 : BoardState) : Type 0 where
  pub leads : Leads a b 0 s0 s1
  pub same_found : (shape : Shape) (m : Map) (was : StandsBetween a shape s0.pages m) → (leads.kept shape m was).stands.found ≡ was.found
  pub same_pending : b.log.pending ≡ a.log.pending
  pub values : b.values ≡ a.values
  pub stays : Stays a b
  pub same_roots : roots s1 ≡ roots s0
  pub calls : FewCalls pair_calls s0 s1
  pub ready : IsReady s1 a.log.shape

ends_so : (shape : Shape) (s0 s1 : BoardState) (m : Map) → Reaches shape s0 s1 (CrashFinds shape background s0.pages m) → reading shape s1.pages [] ≡ Ok m
ends_so shape s0 s1 m run = (at_end run.0 s0 s1 (CrashFinds shape background s0.pages m) run.1).1

-- by its second program
wholes_half : (a b : Parts) (s0 s1 : BoardState) → IsReady s0 a.log.shape → FinishesHalf a b s0 s1 → Wholes a b s0 s1
wholes_half a b s0 s1 ready f =
    let reads = f.works.reads in
    let same = f.same_roots in
    record {
      leads = record {
        before = ready;
        kept = λ shape m was. let is = f.finished shape m was in record { stands = is.stands; still = inr (ends_so shape s0 s1 m is.cuts); cuts = commit_cuts shape m s0 s1 is.cuts };
        same_shape = ap (λ (l : LogState). l.shape) f.log;
        frames = ap (λ (x : Parts). frames_of x) f.rest;
        stopped = ap (λ (x : Parts). x.stopped) f.rest;
        passes = record { no_fault = f.works.no_fault; rest = f.works.rest; reads = record { up = omega (arith, reads); few = omega (arith, reads) }; roots_few = omega (arith, same) };
      };
      same_found = λ shape m was. (f.finished shape m was).same_found was;
      same_pending = ap (λ (l : LogState). l.pending) f.log;
      values = ap (λ (x : Parts). x.values) f.rest;
      stays = f.stays;
      same_roots = f.same_roots;
      calls = few_program s0 s1 f.program;
      ready = f.ready;
    }

-- it was whole
wholes_none : (a b : Parts) (s0 s1 : BoardState) → is_half a ≡ false → IsReady s0 a.log.shape → b ≡ a → s1 ≡ s0 → Wholes a b s0 s1
wholes_none a b s0 s1 whole ready same_parts same =
    let T : Parts → Type 0 = λ x. Wholes a x s0 s1 in
    let S : BoardState → Type 0 = λ s. Wholes a a s0 s in
    let kept : SameMapBetween a a s0 s0 = same_whole a a s0 s0 whole (SameMapAll-none a s0) in
    let here : S s0 = record {
      leads = record { before = ready; kept = kept; same_shape = refl; frames = refl; stopped = refl; passes = passes_none s0 };
      same_found = λ shape m was.
          let is = (kept shape m was).stands in
          found_once (settled_parts a) a shape s0.pages was.top is.top was.found is.found was.without m is.without m was.with is.with;
      same_pending = refl;
      values = refl;
      stays = stays_same a a refl;
      same_roots = refl;
      calls = few_same pair_calls s0 s0 refl;
      ready = ready;
    } in
    subst T (sym same_parts) (subst S (sym same) here)

pub wholes : (a b : Parts) (s0 s1 : BoardState) → IsReady s0 a.log.shape → (is_half a ≡ true → FinishesOr a b s0 s1 (Ok tt))
    → (is_half a ≡ false → IsOk {T = Unit {0}} {E = Fault} (Ok tt) × (b ≡ a) × (s1 ≡ s0)) → Wholes a b s0 s1
wholes a b s0 s1 ready finishes rests = by (is_half a) refl
  where
    by : (h : Bool) → is_half a ≡ h → Wholes a b s0 s1
    by true e = wholes_half a b s0 s1 ready (finishes e)
    by false e = let r = rests e in wholes_none a b s0 s1 e ready r.1 r.2

-- the program failed
pub fails_half : (f : Fault) (a b : Parts) (s0 s1 : BoardState) → (is_half a ≡ true → FinishesOr a b s0 s1 (Err f))
    → (is_half a ≡ false → IsOk {T = Unit {0}} (Err f) × (b ≡ a) × (s1 ≡ s0)) → (f ≡ Stopped) × FailsToFinish a s0 s1
fails_half f a b s0 s1 finishes rests = by (is_half a) refl
  where
    by : (h : Bool) → is_half a ≡ h → (f ≡ Stopped) × FailsToFinish a s0 s1
    by true e = let is = finishes e in (is.0, is.2)
    by false e = absurd (not_made f (rests e).0)

-- ---- what comes after it

module _ {a b : Parts} {s0 s1 : BoardState} (w : Wholes a b s0 s1) where
  ready_then : IsReady s1 b.log.shape
  ready_then = subst (λ (s : Shape). IsReady s1 s) (sym w.leads.same_shape) w.ready

  pub unworn_then : is_worn s0 ≡ false → is_worn s1 ≡ false
  unworn_then unworn = ap (λ (n : ℕ). nat_le 9223372036854775808 n) w.same_roots ∙ unworn

  pub numbers_then : roots s0 + room_calls a.log.shape < 18446744073709551615 → roots s1 + room_calls b.log.shape < 18446744073709551615
  numbers_then few =
      let same = w.same_roots in
      rw w.leads.same_shape (omega (arith, few, same))

  -- the lists are the same, and so are the places
  found_there : (shape : Shape) (m : Map) (was : StandsBetween a shape s0.pages m) (key : Key)
      → find key_cmp key (places (w.leads.kept shape m was).stands.found b.log.pending) ≡ find key_cmp key (places was.found a.log.pending)
  found_there shape m was key = λ i. find key_cmp key (places (w.same_found shape m was i) (w.same_pending i))

  -- a key may get a value
  pub can_put_then : (key : Key) (value : List ℕ) (p : Option Place) → CanStoreOver a s0 key value p → CanPut b s1 key value p
  can_put_then key value p over =
      let may = over.can.may in
      let can = can_store_later w.leads key value w.ready (rw w.same_pending over.can.few) over.can in
      record {
        ready = ready_then;
        may = (
          may.0,
          subst (λ (s : Shape). MayPut b s s1.pages may.0 key value p) (sym w.leads.same_shape) (record {
            stands = (w.leads.kept a.log.shape may.0 may.1.stands).stands;
            old_is = found_there a.log.shape may.0 may.1.stands key ∙ over.old_is;
            bytes = may.1.bytes;
            room = (store_may w.leads key value a.log.shape may.0 may.1).room;
          }),
        );
        short = can.short;
        few = can.few;
      }

  -- ---- a key loses its value

  module _ (key : Key) (p : Place) where
    take_may : (shape : Shape) (m : Map) → MayTakeBetween a shape s0.pages m key p → MayTake b shape s1.pages m key p
    take_may shape m may =
        let one = w.leads.kept shape m may.stands in
        record {
          stands = one.stands;
          old_is = found_there shape m may.stands key ∙ may.old_is;
          bytes = may.bytes;
          spaced = spaced_after shape s0 s1 (CrashFinds shape commit s0.pages m) (has w.leads shape m may.stands) one.cuts key may.spaced;
        }

    pub can_take_then : CanTakeBetween a s0 key p → CanTake b s1 key p
    can_take_then can = record {
      ready = ready_then;
      may = (can.may.0, subst (λ (s : Shape). MayTake b s s1.pages can.may.0 key p) (sym w.leads.same_shape) (take_may a.log.shape can.may.0 can.may.1));
      few = rw (w.same_pending, w.leads.same_shape) can.few;
    }

    pub takes_whole : (c : Parts) (s2 : BoardState) (r : Result Unit Fault)
        → TakesOrReads b c (room_calls b.log.shape) s1 s2 key p r → TakesWhole a c (room_calls a.log.shape) s0 s2 key p r
    takes_whole c s2 r =
        changes_later w.leads (λ m. remove m key) (λ shape m. MayTakeBetween a shape s0.pages m key p) (λ shape m. MayTake b shape s1.pages m key p)
        (λ shape m may. may.stands) take_may c s2 r (KeepsAll b c s1 s2) (λ s. room_calls s) (room_calls a.log.shape) (omega arith) (same_of b c s1 s2)

  -- ---- what stays beside the map

  module _ (r : Result Unit Fault) (c : Parts) where
    pub moves_whole : OnRunning (Stays b c) r → OnRunning (Stays a c) r
    moves_whole second = running_says (Stays b c) (Stays a c) r (stays_then a b c w.stays) second

    opens_whole : (len : ℕ) → OnRunning (StaysOrOpens b c (charge b.log.shape len)) r → OnRunning (StaysOrOpens a c (charge a.log.shape len)) r
    opens_whole len second =
        running_says (StaysOrOpens b c (charge a.log.shape len)) (StaysOrOpens a c (charge a.log.shape len)) r (opens_behind a b c (charge a.log.shape len) w.stays w.leads.same_shape w.values)
        (subst (λ (s : Shape). OnRunning (StaysOrOpens b c (charge s len)) r) w.leads.same_shape second)

  -- the calls of what comes after it, whose number the shape gives
  spends_whole : (calls : Shape → ℕ) (k : ℕ) (s2 : BoardState) → Spends (calls b.log.shape) k s1 s2 → Spends (pair_calls + calls a.log.shape) k s0 s2
  spends_whole calls k s2 second =
      let same = w.same_roots in
      spends_then pair_calls (calls a.log.shape) (pair_calls + calls a.log.shape) 0 k k s0 s1 s2 (omega arith) (omega arith)
      (record { calls = w.calls; installs = omega (arith, same) }) (subst (λ (s : Shape). Spends (calls s) k s1 s2) w.leads.same_shape second)

  -- the key gets its value after it
  pub stores_whole : (key : Key) (value : List ℕ) (c : Parts) (s2 : BoardState) (r : Result Unit Fault)
      → StoresWithin (store_most b.log.shape) (space_and_put_calls b.log.shape (pages_for b value)) store_roots b c s1 s2 key value r
      → StoresWithin (store_most a.log.shape) (pair_calls + space_and_put_calls a.log.shape (pages_for a value)) store_roots a c s0 s2 key value r
  stores_whole key value c s2 r e = record {
    step = stores_later w.leads key value r c s2 (λ s. store_most s) (store_most a.log.shape) (omega arith) e.step;
    leaves = record { stays = stays_later w.leads r c e.leaves.stays; opens = opens_whole r c (length value) e.leaves.opens; noted = e.leaves.noted; stops = e.leaves.stops };
    spends = spends_whole (λ s. space_and_put_calls s (charge s (length value))) store_roots s2 e.spends;
  }

  pub take_spends : (s2 : BoardState) → Spends (room_calls b.log.shape + commit_calls) room_roots s1 s2 → Spends (pair_calls + (room_calls a.log.shape + commit_calls)) room_roots s0 s2
  take_spends = spends_whole (λ s. room_calls s + commit_calls) room_roots

-- ---- the second program failed

module _ {a : Parts} {s0 s1 : BoardState} (fails : FailsToFinish a s0 s1) where
  -- whatever change of the map was to follow
  pub unmade : (May : Shape → Map → Type 0) (changed : Map → Map) (stands : (shape : Shape) (m : Map) → May shape m → StandsBetween a shape s0.pages m)
      (b : Parts) (most : ℕ) (f : Fault) → f ≡ Stopped → ChangesOrReads May changed a b most s0 s1 (Err f)
  unmade May changed stands b most Reading e = absurd cc
  unmade May changed stands b most Stopped e =
      let reads = fails.stops.reads in
      let few = fails.no_root in
      record {
        came = (
          λ shape m may.
              let run = fails.fails shape m (stands shape m may) in
              (run.0, weaken_went run.0 s0 s1 (CrashFinds shape background s0.pages m) (CrashFinds shape (change (changed m)) s0.pages m) (λ f q cut. (cut.0, inr (inl cut.1))) run.1, run.2),
          record { flash = fails.stops.flash; stop = fails.stops.stop; read = fails.stops.read },
        );
        rest = fails.stops.rest;
        reads = record { up = omega (arith, reads); few = omega (arith, reads) };
        roots_few = omega (arith, few);
        ready = fails.ready;
      }

  pub unmade_spends : (n k : ℕ) → 1 ≤ n → Spends n k s0 s1
  unmade_spends n k some =
      let few = fails.no_root in
      record { calls = few_within 1 n s0 s1 some (few_program s0 s1 fails.program); installs = omega (arith, few) }

-- ---- no pair is half made after it

pub makes_whole : (r : Result Unit Fault) (May : Shape → Map → Type 0) (changed : Map → Map) (a c : Parts) (s0 s2 : BoardState) (most : ℕ) (m : Map) → May a.log.shape m
    → StandsBetween a a.log.shape s0.pages m → ChangesOrReads May changed a c most s0 s2 r → OnRunning (is_half c ≡ false) r
makes_whole (Ok u) May changed a c s0 s2 most m may stands step = is_whole c (step.came.0 a.log.shape m may).stands.whole
makes_whole (Err Reading) May changed a c s0 s2 most m may stands step = is_whole c (step.came.0 a.log.shape m stands).stands.whole
makes_whole (Err Stopped) May changed a c s0 s2 most m may stands step = tt

-- ---- if none was half made, nothing came before it

module _ {a b : Parts} {s0 s1 : BoardState} (same_parts : b ≡ a) (same : s1 ≡ s0) where
  -- what holds of one holds of the other
  pub quiet_from : (P : Parts → BoardState → Type 0) → P b s1 → P a s0
  quiet_from P is = subst (λ (x : Parts). P x s0) same_parts (subst (λ (s : BoardState). P b s) same is)
