-- What is seen of the order of the background steps.
use Rattle.std.proofs.Common.{◌≡◌, inl, inr, refl, sym, ap, subst, ◌∙◌, Bool, true, false, length}
use Rattle.std.specs.Prelude.{◌==◌}
use Rattle.pk_base.proofs.Logic.{not_both}
use Rattle.pk_pin.specs.Frames.{leased_frames}
use Rattle.pk_pool.specs.Blocks.{IsShared}
use Rattle.pk_nand.specs.BoardState.{BoardState}
use Rattle.pk_compact.specs.FreezeSteps.{taken_by}
use Rattle.pk_schedule.{specs.Index.Index, specs.Index.merging, specs.Steps.has_no_merge}
use Rattle.pk_gc.{specs.State.JobState, specs.Stepping.runs_in}
use Rattle.pk_call.{specs.Sight.Sight, specs.Seen.stopped_by, specs.Tick.SeesMerge, specs.Tick.SeesReclaim, specs.Tick.SeenOrder, specs.declared.types.Ticked.Ticked}
use Rattle.pk_call.specs.declared.types.Ticked.TheVariants.{Worked, Idle, Fault}
use Rattle.pk_parts.specs.Parts.{Parts, index_of, sight_of, is_half}
use Rattle.pk_background.{specs.Ticking.MayTick, specs.Ticking.Advances, specs.Ticking.WantsReclaim}
use Rattle.pk_background.{proofs.Ticking.no_merge_is, proofs.Ticking.no_phase, proofs.Ticking.due_is, proofs.Advancing.merged_seen}
use Rattle.pk_background.specs.Order.{due_step, MakesDue, FreezeMade, ReclaimMade}
use Rattle.pk_background.proofs.Ordering.{due_merge, due_freeze, due_reclaim, due_start, merge_no_reclaim}

freeze_keeps : (d d' : Parts) → FreezeMade d d' → leased_frames d'.arena ≡ leased_frames d.arena
freeze_keeps d d' steps = elim steps.further [
  | inl moves ↦ ap (λ (x : Index). leased_frames x.arena) moves.rest
  | inr ends ↦ ap (λ (x : Index). leased_frames x.arena) ends.rest
]

reclaim_keeps : (d d' : Parts) → ReclaimMade d d' → leased_frames d'.arena ≡ leased_frames d.arena
reclaim_keeps d d' steps = ap (λ (e : Parts). leased_frames e.arena) steps.leaves

merge_is_due : (d : Parts) (b : Bool) → has_no_merge (index_of d) ≡ b → SeesMerge (sight_of d) → has_no_merge (index_of d) ≡ false
merge_is_due d false e seen = e
merge_is_due d true e (inl some) = absurd (some (ap merging (no_phase d.schedule.phase (no_merge_is (index_of d) e).0)))
merge_is_due d true e (inr some) = absurd (some (no_merge_is (index_of d) e).1)

module _ (d d' : Parts) (old new : BoardState) (m : MayTick d old) (shared : IsShared d.pool.shape d.pool.states) where
  wants : SeesReclaim d.log.shape old.pages (sight_of d) → WantsReclaim d
  wants (inl runs) = inl runs
  wants (inr due) = inr (sym (due_is d old m.agrees shared) ∙ due)

  module _ (half : is_half d ≡ false) (merged : has_no_merge (index_of d) ≡ true) where
    by_reclaim : (length (taken_by d.schedule.freeze) == 0) ≡ true → (b : Bool) → runs_in d.reclaim.phase ≡ b → WantsReclaim d → MakesDue (due_step d) d d' old new
        → leased_frames d'.arena ≡ leased_frames d.arena
    by_reclaim none true runs wanted is = elim (subst (λ k. MakesDue k d d' old new) (due_reclaim d half merged none runs) is) [
      | inl steps ↦ reclaim_keeps d d' steps
      | inr steps ↦ freeze_keeps d d' steps.1
    ]
    by_reclaim none false rests (inl runs) is = absurd (not_both (runs_in d.reclaim.phase) runs rests)
    by_reclaim none false rests (inr due) is = reclaim_keeps d d' (subst (λ k. MakesDue k d d' old new) (due_start d half merged none rests due) is)

    by_freeze : (b : Bool) → (length (taken_by d.schedule.freeze) == 0) ≡ b → WantsReclaim d → MakesDue (due_step d) d d' old new → leased_frames d'.arena ≡ leased_frames d.arena
    by_freeze false some wanted is = freeze_keeps d d' (subst (λ k. MakesDue k d d' old new) (due_freeze d half merged some) is)
    by_freeze true none wanted is = by_reclaim none (runs_in d.reclaim.phase) refl wanted is

  pub seen_order : (answer : Ticked) → Advances d d' old new answer → stopped_by answer ≡ false → SeenOrder d.log.shape old.pages (sight_of d) (sight_of d')
  seen_order Worked made runs = record {
    merges = λ half seen.
        let busy = merge_is_due d (has_no_merge (index_of d)) refl seen in
        let steps = subst (λ k. MakesDue k d d' old new) (due_merge d half busy) (made.order.made refl) in
        ap (λ (j : JobState). runs_in j.phase) (merge_no_reclaim d d' old new steps);
    reclaims = λ half none empty seen.
        by_freeze half (merged_seen d old new m half none empty) (length (taken_by d.schedule.freeze) == 0) refl (wants seen) (made.order.made refl);
  }
  seen_order Idle made runs =
      let same = (made.ticks.idle_rests refl).1 in
      record { merges = λ _ _. ap (λ (s : Sight). s.reclaims) same; reclaims = λ _ _ _ _. ap (λ (s : Sight). s.counts.leased) same }
  seen_order (Fault false) made runs =
      let same = (made.ticks.unmade refl).0 in
      record { merges = λ _ _. ap (λ (s : Sight). s.reclaims) same; reclaims = λ _ _ _ _. ap (λ (s : Sight). s.counts.leased) same }
  seen_order (Fault true) made runs = absurd (not_both true refl runs)
