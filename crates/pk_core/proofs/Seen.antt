-- What is seen of a drive is the same as if the blocks that leave were free.
use Rattle.std.proofs.Common.{◌≡◌, ℕ, ◌-◌, refl, sym, ◌∙◌, Bool, not, ◌&&◌, ◌==◌, length, count_by, Option}
use Rattle.pk_base.{specs.Page.Flash, specs.Shape.Shape, specs.Shape.data_blocks, specs.Shape.most_pages}
use Rattle.pk_plan.specs.declared.owner.Owner.TheVariants.{Values}
use Rattle.pk_pool.{specs.Blocks.is_ready, specs.Blocks.used_by, specs.Blocks.freed, specs.Unready.unready, proofs.Leaving.freed_unready}
use Rattle.pk_call.specs.Sight.{Sight}
use Rattle.pk_law_work.{specs.Backlog.Backlog, specs.Backlog.is_tight, specs.Work.work}
use Rattle.pk_jrn.specs.Epochs.{left_of}
use Rattle.pk_values.specs.State.{fits_open}
use Rattle.pk_schedule.{specs.declared.phase.Phase.Phase, specs.declared.phase.Phase.TheVariants.Idle, specs.declared.phase.Phase.TheVariants.Running, specs.declared.phase.Phase.TheVariants.Ready}
use Rattle.pk_schedule.specs.Steps.{backlog_of as backlog_of_index, merge_left}
use Rattle.pk_parts.specs.Parts.{Parts, index_of, outputs_of, settled_parts, counts_of, sight_of, reclaim_left, has_moves}
use Rattle.pk_parts.{specs.Agreeing.DriveOnFlash, proofs.Halves.counted_of}
use Rattle.pk_background.proofs.Ticking.{ready_freed}

-- by the numbers of blocks for values, of those that are ready and of those that are not, and what remains of the merge
due_by : Parts → ℕ → Bool
due_by d used = (used - length (outputs_of d) == data_blocks d.log.shape - 1) && not (fits_open d.log.shape d.values (most_pages d.log.shape))

backlog_by : Parts → ℕ → ℕ → Option ℕ → Backlog
backlog_by d used left merge = record (backlog_of_index (index_of d)) {
  merge = merge;
  reclaim = reclaim_left d.log.shape d.values.live.heads (due_by d used) d.reclaim.phase;
  may_freeze = has_moves (due_by d used) d.reclaim.phase && is_tight d.log.shape (length d.log.active.entries) (left_of d.log.epoch);
  unready = left;
}

sight_by : Parts → ℕ → ℕ → ℕ → Option ℕ → Sight
sight_by d used ready left merge = record (sight_of d) {
  counts = record (counts_of d) { blocks = used - length (outputs_of d); ready = ready };
  work = work d.log.shape (backlog_by d used left merge);
}

seen_by : (d : Parts) → sight_by d (used_by Values d.pool.states) (count_by is_ready d.pool.states) (unready d.pool.states) (merge_left d.schedule.phase (index_of d)) ≡ sight_of d
unfolding sight_by backlog_by due_by
seen_by d = refl

seen_freed : (d : Parts) → sight_by d (used_by Values (freed d.pool).states) (count_by is_ready (freed d.pool).states)
    (unready (freed d.pool).states) (merge_left d.schedule.phase (index_of (settled_parts d))) ≡ sight_of (settled_parts d)
unfolding sight_by backlog_by due_by
seen_freed d = refl

-- what remains of a merge does not depend on the blocks
merge_freed : (d : Parts) (p : Phase) → merge_left p (index_of (settled_parts d)) ≡ merge_left p (index_of d)
merge_freed d Idle = refl
merge_freed d (Running level) = refl
merge_freed d (Ready level) = refl

pub sight_settled : (d : Parts) → used_by Values d.pool.states ≡ used_by Values (freed d.pool).states → sight_of (settled_parts d) ≡ sight_of d
sight_settled d used =
    sym (seen_freed d)
    ∙ (λ i. sight_by d (sym used i) (ready_freed d.pool.states i) (freed_unready d.pool i) (merge_freed d d.schedule.phase i))
    ∙ seen_by d

-- so it is of a drive that agrees with its flash
pub seen_same : (d : Parts) (told : Option Shape) (flash : Flash) → DriveOnFlash d told flash → sight_of (settled_parts d) ≡ sight_of d
seen_same d told flash a = sight_settled d (counted_of d flash a.top a.found a.without a.course)
