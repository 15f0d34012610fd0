-- A background step of a reclaim, by the drive and its board.
use Rattle.std.proofs.Common.{◌≡◌, ◌⊎◌, inl, inr, ℕ, ◌+◌, ◌-◌, ◌<◌, ◌≤◌, refl, sym, ap, subst, ◌∙◌, arith, Bool, true, false, [], length}
use Rattle.std.{specs.Prelude.◌&&◌, specs.Prelude.◌==◌, proofs.lemmas.Bool.eqb-true}
use Rattle.pk_base.{specs.Shape.data_blocks, specs.Page.Flash, specs.Map.Map, proofs.Logic.not_both}
use Rattle.pk_plan.specs.declared.owner.Owner.TheVariants.{Values}
use Rattle.pk_pool.specs.Blocks.{used_by, IsShared}
use Rattle.pk_nand.{specs.BoardState.BoardState, specs.Calls.IsReady, specs.Effects.AtMostOneCall, specs.Effects.NoFault, specs.Effects.OnlyFlash, specs.Effects.Stops}
use Rattle.pk_model.{specs.Growth.Grows, specs.Wear.roots}
use Rattle.pk_call.{specs.declared.types.Ticked.TheVariants.Worked, specs.declared.types.Ticked.TheVariants.Fault, specs.Sight.IsIdle}
use Rattle.pk_gc.{specs.declared.reclaimed.Reclaimed.TheVariants.Worked as GoesOn, specs.declared.reclaimed.Reclaimed.TheVariants.Ended}
use Rattle.pk_gc.{specs.declared.course.Phase.Phase, specs.Standing.held_blocks, specs.Stepping.runs_in}
use Rattle.pk_gc.specs.declared.course.Phase.TheVariants.{Idle}
use Rattle.pk_parts.specs.Parts.{Parts, index_of, counts_of, sight_of, is_reclaim_due, may_freeze, has_moves, is_half}
use Rattle.pk_parts.{specs.Moves.StandsFor, proofs.Unchanging.agrees_ready}
use Rattle.pk_background.specs.Reclaiming.{MayReclaim, ReclaimHolds, Lessens, DoesReclaim, Waits, CannotRead, FailsAll, is_tight_for}
use Rattle.pk_background.{specs.Ticking.MayTick, specs.Ticking.Advances, specs.Ticking.WantsReclaim, specs.Ticking.WantsFreeze, proofs.SpaceSteps.leaves_stay, proofs.SpaceSteps.unread_stays}
use Rattle.pk_background.{proofs.Stored.blocks_between, proofs.Stored.blocks_at, proofs.Ticking.busy_reclaim, proofs.ReclaimWork.worked_less, proofs.ReclaimWork.ended_less}
use Rattle.pk_background.proofs.TickSteps.{its_whole, whole_fails, made_advances, unread_advances, stop_advances}
use Rattle.pk_background.proofs.Ordering.{reclaim_due, makes_reclaim}
use Rattle.pk_compact.specs.FreezeSteps.{taken_by}
use Rattle.pk_schedule.specs.Steps.{has_no_merge}

and_left : (x y : Bool) → (x && y) ≡ true → x ≡ true
and_left true y e = refl
and_left false y e = absurd (not_both false e refl)

-- ---- when it may be made

due_blocks : (d : Parts) → is_reclaim_due d ≡ true → (counts_of d).blocks ≡ data_blocks d.log.shape - 1
due_blocks d due = eqb-true (counts_of d).blocks (data_blocks d.log.shape - 1) (and_left ((counts_of d).blocks == data_blocks d.log.shape - 1) _ due)

turn_at : (p : Phase) (used all : ℕ) → used - length (held_blocks p) ≡ all → (runs_in p ≡ true) ⊎ (used ≡ all)
turn_at Idle used all is = inr (omega (arith, is))
turn_at p used all is = inl refl

turn_of : (d : Parts) → WantsReclaim d → (runs_in d.reclaim.phase ≡ true) ⊎ (used_by Values d.pool.states ≡ data_blocks d.log.shape - 1)
turn_of d (inl runs) = inl runs
turn_of d (inr due) = turn_at d.reclaim.phase (used_by Values d.pool.states) (data_blocks d.log.shape - 1) (due_blocks d due)

all_least : (p : Phase) (used all : ℕ) → runs_in p ≡ true → used ≡ all → all - 1 ≤ used - length (held_blocks p)
all_least p used all runs same = blocks_at p used all (omega (arith, same)) (λ _. same)

-- as many blocks are in use as may be
blocks_full : (d : Parts) (flash : Flash) (m : Map) → StandsFor d d.log.shape flash m → WantsReclaim d → data_blocks d.log.shape - 1 ≤ (counts_of d).blocks
blocks_full d flash m stands (inl runs) = all_least d.reclaim.phase (used_by Values d.pool.states) (data_blocks d.log.shape) runs (stands.with.reclaim.full runs)
blocks_full d flash m stands (inr due) = let all = due_blocks d due in omega (arith, all)

module _ (d : Parts) (old : BoardState) (m : MayTick d old) (none_half : is_half d ≡ false) (wants : WantsReclaim d) where
  its : StandsFor d d.log.shape old.pages m.agrees.all
  its = its_whole d old m none_half

  no_pair : {X : Type 0} → is_half d ≡ true → X
  no_pair half = absurd (not_both (is_half d) half none_half)

  pub may_reclaim : MayReclaim d old
  may_reclaim = record { may = record { ready = agrees_ready d old m.agrees; stands = (m.agrees.all, its) }; none_pending = m.none; turn = turn_of d wants }

  module _ (new : BoardState) (calls : AtMostOneCall old new) (rest : OnlyFlash old new)
      (same_roots : roots new ≡ roots old) (grows : Grows d.log.shape old.pages new.pages) (ready : IsReady new d.log.shape)
      (merged : has_no_merge (index_of d) ≡ true) (frozen : (length (taken_by d.schedule.freeze) == 0) ≡ true) where
    installs : roots new ≤ roots old + 1
    installs = omega (arith, same_roots)

    busy : IsShared d.pool.shape d.pool.states → IsIdle d.log.shape old.pages (sight_of d) → ⊥
    busy shared idle = busy_reclaim d old m.agrees shared wants idle

    worked_advances : (d' : Parts) → Lessens d d' old new → d'.log.pending ≡ [] → NoFault old new → IsShared d.pool.shape d.pool.states
        → (sight_of d').work < (sight_of d).work → Advances d d' old new Worked
    worked_advances d' made none sound shared less =
        let there : ReclaimHolds d' d.log.shape m.agrees.all old new = made.holds d.log.shape m.agrees.all its in
        let stays = leaves_stay d d' made.leaves in
        let most = blocks_between d' d.log.shape new.pages m.agrees.all there.stands in
        let least = blocks_full d old.pages m.agrees.all its wants in
        let number = ap (λ (e : Parts). e.log.root.number) made.leaves in
        made_advances d old m d' new ready calls rest installs no_pair no_pair no_pair grows (busy shared) none there sound stays.frames stays.stopped
        (record { fresh = stays.fresh; no_more = omega (arith, most, least) }) (omega (arith, number)) (inl number) less
        (makes_reclaim d d' old new none_half merged frozen wants (record { leaves = made.leaves; falls = made.falls }))

    pub goes_on : (d' : Parts) → DoesReclaim d d' old new GoesOn → d'.log.pending ≡ [] → NoFault old new → IsShared d.pool.shape d.pool.states → Advances d d' old new Worked
    goes_on d' made none sound shared = worked_advances d' made.0 none sound shared (worked_less d d' made.0.leaves wants made.0.falls made.1)

    pub ends_so : (d' : Parts) → DoesReclaim d d' old new Ended → d'.log.pending ≡ [] → NoFault old new → IsShared d.pool.shape d.pool.states → Advances d d' old new Worked
    ends_so d' made none sound shared = worked_advances d' made.0 none sound shared (ended_less d d' made.0.leaves wants made.0.falls made.1.idle made.1.given made.1.from)

    pub unread_so : (d' : Parts) → CannotRead d d' old new → IsShared d.pool.shape d.pool.states → Advances d d' old new (Fault false)
    unread_so d' unread shared =
        let stays = unread_stays d d' old new unread in
        let same = ap (λ (e : Parts). (counts_of e).blocks) unread.rest in
        let number = ap (λ (e : Parts). e.log.root.number) unread.rest in
        unread_advances d old m d' new ready calls rest installs no_pair no_pair no_pair grows (busy shared)
        (ap (λ (e : Parts). e.log.pending) unread.rest ∙ m.none) (ap (λ (e : Parts). sight_of e) unread.rest)
        (unread.stands d.log.shape m.agrees.all its) unread.only unread.read unread.flash stays.frames stays.stopped
        (record { fresh = stays.fresh; no_more = omega (arith, same) }) (omega (arith, number)) (reclaim_due d none_half merged frozen wants)

    pub stops_so : (d' : Parts) → d'.stopped ≡ true → d'.log.pending ≡ [] → FailsAll d old new → Stops old new → IsShared d.pool.shape d.pool.states → Advances d d' old new (Fault true)
    stops_so d' stopped none fails stops shared = stop_advances d old m d' new ready calls rest installs no_pair (busy shared) none stopped (whole_fails d old m d' new none_half fails) stops
        (reclaim_due d none_half merged frozen wants)

  -- ---- one that needs a freeze

  pub waits_wanted : (d' : Parts) (new : BoardState) → Waits d d' old new → WantsFreeze d'
  waits_wanted d' new waits =
      let runs : runs_in d.reclaim.phase ≡ true = ap runs_in waits.copies in
      let may : may_freeze d ≡ true = ap (λ p. has_moves (is_reclaim_due d) p && is_tight_for d) waits.copies ∙ waits.tight in
      subst WantsFreeze (sym waits.same) (inr (runs, may))
