-- How much the reclaims before a value take, and what is unchanged after their commit.
use Rattle.std.proofs.Common.{◌≡◌, ℕ, ◌+◌, ◌-◌, ◌≤◌, ◌<◌, true, List, [], length, refl, sym, ap, subst, arith, Result, Ok, Err}
use Rattle.std.specs.Prelude.{◌&&◌}
use Rattle.pk_base.{specs.Entry.Place, specs.Key.Key, specs.Page.Flash, specs.Map.Map, specs.Shape.Shape, specs.Shape.data_blocks, specs.Shape.most_pages}
use Rattle.pk_nand.{specs.declared.types.Fault.Fault, specs.BoardState.BoardState}
use Rattle.pk_model.specs.Wear.{roots}
use Rattle.pk_law_work.{specs.Rest.whole_reclaim, specs.Calls.commit_calls, specs.Calls.room_calls, specs.Calls.room_roots, specs.Calls.space_calls}
use Rattle.pk_law_steps.specs.Under.{places}
use Rattle.pk_gc.{specs.declared.course.Phase.Phase, specs.Standing.held_blocks, specs.Standing.ReclaimStands, specs.Stepping.runs_in}
use Rattle.pk_gc.specs.declared.course.Phase.TheVariants.{Idle, Copies, Commits, GivesBack}
use Rattle.pk_background.{specs.Costs.Spends, specs.Costs.reclaim_calls, specs.Emptying.OnRunning, specs.Reclaiming.is_tight_for, proofs.Callings.spends_then, proofs.ReadSteps.reading_within}
use Rattle.pk_background.{proofs.ReadSteps.running_says}
use Rattle.pk_background.specs.Spacing.{MovesOrReads, StaysSame, needs, steps_for, has_moves, space_left, MaySpace}
use Rattle.pk_background.proofs.SameMaps.{same_of, moves_later, moves_kept, stays_both}
use Rattle.pk_background.{proofs.Emptied.keeps_reads, proofs.Emptied.passes_keeps, proofs.SpaceSteps.values_stay, proofs.SpaceSteps.where_most, proofs.Steps.may_after}
use Rattle.pk_parts.{specs.Parts.Parts, specs.Parts.counts_of, specs.Moves.StandsFor, specs.Moves.MayStep, specs.Moves.StepKeeps, specs.Moves.LeavesValues, specs.Moves.StandsBetween}
use Rattle.pk_parts.{proofs.Halves.counted_of, specs.Staying.Stays, proofs.Reclaiming.reclaim_within}

-- ---- how much the reclaims take

steps_most : (p : Phase) (count : ℕ) (d : Parts) (flash : Flash) (es : List (Key × Place))
    → ReclaimStands p d.log.shape d.reclaim d.values.live flash es → steps_for p count d ≤ whole_reclaim d.log.shape
steps_most Idle count d flash es stands = let few = where_most (needs count d) (whole_reclaim d.log.shape - 1) in omega (arith, few)
steps_most (Copies c) count d flash es stands = let few = reclaim_within (Copies c) d.log.shape true d.reclaim d.values.live flash es stands in omega (arith, few)
steps_most (Commits victim) count d flash es stands = omega arith
steps_most (GivesBack victim) count d flash es stands = let few = where_most (needs count d) (whole_reclaim d.log.shape - 1) in omega (arith, few)

space_within : (count : ℕ) (d : Parts) (board : BoardState) → MayStep d board → space_left count d ≤ whole_reclaim d.log.shape + room_calls d.log.shape
space_within count d board may =
    let there = may.stands.1 in
    let steps = steps_most d.reclaim.phase count d board.pages (places there.found d.log.pending) there.with.reclaim.stands in
    let room = where_most (has_moves d.reclaim.phase count d && is_tight_for d) (room_calls d.log.shape) in
    omega (arith, steps, room)

space_most : (count : ℕ) (d : Parts) (board : BoardState) → MayStep d board → space_left count d + 1 ≤ space_calls d.log.shape
space_most count d board may = let within = space_within count d board may in omega (arith, within)

-- ---- after a commit

module _ (count : ℕ) (a b : Parts) (s0 s1 : BoardState) (may : MayStep a s0) (same : b.log.shape ≡ a.log.shape) (step : StepKeeps {T = Unit {0}} a b 0 s0 s1 (Ok tt)) where
  may_committed : MayStep b s1
  may_committed = may_after a b 0 s0 s1 tt may same step

  calls_same : space_calls b.log.shape ≡ space_calls a.log.shape
  calls_same = ap (λ (s : Shape). space_calls s) same

  pub space_committed : b.log.pending ≡ [] → roots s0 + space_calls a.log.shape < 18446744073709551615 → MaySpace count b s1
  space_committed none number = record {
    may = may_committed;
    none_pending = none;
    number = (
        let most = space_most count b s1 may_committed in
        let calls = calls_same in
        let roots_same = step.roots_few in
        omega (arith, number, most, calls, roots_same));
  }

  pub space_made : (r : Result Unit Fault) (c : Parts) (s2 : BoardState) → MovesOrReads b c (space_left count b) s1 s2 r → MovesOrReads a c (space_calls a.log.shape) s0 s2 r
  space_made r c s2 second =
      let most = space_most count b s1 may_committed in
      let calls = calls_same in
      moves_later r a b c 0 (space_left count b) (space_calls a.log.shape) s0 s1 s2 may.ready same (omega (arith, most, calls)) (same_of a b s0 s1 step.ended) (passes_keeps tt a b 0 s0 s1 step) second

  -- a commit, and these
  pub space_spends : (s2 : BoardState) → Spends commit_calls 0 s0 s1 → Spends (space_left count b) room_roots s1 s2 → Spends (reclaim_calls a.log.shape) room_roots s0 s2
  space_spends s2 first second =
      let most = space_within count b s1 may_committed in
      let calls : reclaim_calls b.log.shape ≡ reclaim_calls a.log.shape = ap (λ (s : Shape). reclaim_calls s) same in
      spends_then commit_calls (space_left count b) (reclaim_calls a.log.shape) 0 room_roots room_roots s0 s1 s2 (omega (arith, most, calls)) (omega arith) first second

pub space_not_made : (e : Fault) (a b : Parts) (s0 s1 : BoardState) → StepKeeps {T = Unit {0}} a b 0 s0 s1 (Err e) → MovesOrReads {T = Unit {0}} a b (space_calls a.log.shape) s0 s1 (Err e)
space_not_made e a b s0 s1 step = reading_within (space_calls a.log.shape) (omega arith) (moves_kept (Err e) a b 0 s0 s1 (keeps_reads (Err e) a b 0 s0 s1 step))

pub stays_made : (r : Result Unit Fault) (a b c : Parts) → LeavesValues a b → Stays a b → OnRunning (StaysSame b c) r → OnRunning (StaysSame a c) r
stays_made r a b c leaves stays second = running_says (StaysSame b c) (StaysSame a c) r (stays_both a b c (values_stay a b leaves stays)) second

pub most_committed : (count : ℕ) (a b : Parts) → b.log.shape ≡ a.log.shape → count ≤ most_pages a.log.shape → count ≤ most_pages b.log.shape
most_committed count a b same most = subst (λ (s : Shape). count ≤ most_pages s) (sym same) most

-- ---- no more blocks are in use

pub blocks_most : (d : Parts) (shape : Shape) (flash : Flash) (m : Map) → StandsFor d shape flash m → (counts_of d).blocks ≤ data_blocks shape - 1
blocks_most d shape flash m stands = let few = stands.with.placed.few in omega (arith, few)

-- the same if a pair may be half made
pub blocks_between : (d : Parts) (shape : Shape) (flash : Flash) (m : Map) → StandsBetween d shape flash m → (counts_of d).blocks ≤ data_blocks shape - 1
blocks_between d shape flash m s =
    let few = s.with.placed.few in
    let same = counted_of d flash s.top s.found s.without s.course in
    omega (arith, few, same)

pub blocks_at : (p : Phase) (used all : ℕ) → all - 1 ≤ used → (runs_in p ≡ true → used ≡ all) → all - 1 ≤ used - length (held_blocks p)
blocks_at Idle used all least full = omega (arith, least)
blocks_at p used all least full = let same = full refl in omega (arith, same)
