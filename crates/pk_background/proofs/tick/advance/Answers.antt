use Rattle.std.proofs.Common.{sym, ap, ◌∙◌, inl, ◌==◌, length}
use Rattle.pk_compact.specs.FreezeSteps.{taken_by}
use Rattle.pk_background.proofs.Advancing.{not_none, wants_is}
use Rattle.pk_parts.specs.Parts.{Parts, index_of}
use Rattle.pk_schedule.specs.Steps.{has_no_merge}
use Rattle.pk_background.proofs.tick.advance.Goals as goal

pub merge_step-requires-clause-merges : goal.merge_step-requires-clause-merges
merge_step-requires-clause-merges g c =
    ap (λ (d : Parts). has_no_merge (index_of d)) (sym c.parts.view_is) ∙ (sym (c.has_no_merge.ensures c.parts.inside.levels c.parts.inside.arena c.parts.inside.pool) ∙ c.if-not-has_no_merge.true)

pub freeze_step-requires-clause-merged : goal.freeze_step-requires-clause-merged
freeze_step-requires-clause-merged g c =
    ap (λ (d : Parts). has_no_merge (index_of d)) (sym c.parts.view_is) ∙ (sym (c.has_no_merge.ensures c.parts.inside.levels c.parts.inside.arena c.parts.inside.pool) ∙ c.if-not-has_no_merge.false)

pub erase_step-requires-clause-merged : goal.erase_step-requires-clause-merged
erase_step-requires-clause-merged g c =
    ap (λ (d : Parts). has_no_merge (index_of d)) (sym c.parts.view_is) ∙ (sym (c.has_no_merge.ensures c.parts.inside.levels c.parts.inside.arena c.parts.inside.pool) ∙ c.if-not-has_no_merge.false)

pub freeze_step-requires-clause-wanted : goal.freeze_step-requires-clause-wanted
freeze_step-requires-clause-wanted g c =
    inl (ap (λ (d : Parts). length (taken_by d.schedule.freeze) == 0) (sym c.parts.view_is) ∙ not_none _ (sym c.freezes.ensures ∙ c.if-freezes.true))

pub reclaim_step-requires-clause-merged : goal.reclaim_step-requires-clause-merged
reclaim_step-requires-clause-merged g c =
    ap (λ (d : Parts). has_no_merge (index_of d)) (sym c.parts.view_is) ∙ (sym (c.has_no_merge.ensures c.parts.inside.levels c.parts.inside.arena c.parts.inside.pool) ∙ c.if-not-has_no_merge.false)

pub reclaim_step-requires-clause-wanted : goal.reclaim_step-requires-clause-wanted
reclaim_step-requires-clause-wanted g c = wants_is c.args.parts.now (sym c.wants_reclaim.ensures ∙ c.if-wants_reclaim.true)

-- ---- whether a pair is half made

pub finish_step-requires-clause-half : goal.finish_step-requires-clause-half
finish_step-requires-clause-half g c = sym c.is_half.ensures ∙ c.if-is_half.true

pub merge_step-requires-clause-whole : goal.merge_step-requires-clause-whole
merge_step-requires-clause-whole g c = sym c.is_half.ensures ∙ c.if-is_half.false

pub freeze_step-requires-clause-whole : goal.freeze_step-requires-clause-whole
freeze_step-requires-clause-whole g c = sym c.is_half.ensures ∙ c.if-is_half.false

pub reclaim_step-requires-clause-whole : goal.reclaim_step-requires-clause-whole
reclaim_step-requires-clause-whole g c = sym c.is_half.ensures ∙ c.if-is_half.false

pub erase_step-requires-clause-whole : goal.erase_step-requires-clause-whole
erase_step-requires-clause-whole g c = sym c.is_half.ensures ∙ c.if-is_half.false

-- ---- whether a page lacks a frame

pub fill_step-requires-clause-merged : goal.fill_step-requires-clause-merged
fill_step-requires-clause-merged g c =
    ap (λ (d : Parts). has_no_merge (index_of d)) (sym c.parts.view_is) ∙ (sym (c.has_no_merge.ensures c.parts.inside.levels c.parts.inside.arena c.parts.inside.pool) ∙ c.if-not-has_no_merge.false)

pub fill_step-requires-clause-whole : goal.fill_step-requires-clause-whole
fill_step-requires-clause-whole g c = sym c.is_half.ensures ∙ c.if-is_half.false

pub fill_step-requires-clause-unfilled : goal.fill_step-requires-clause-unfilled
fill_step-requires-clause-unfilled g c = sym c.lacks_frames.ensures ∙ c.if-lacks_frames.true

pub erase_step-requires-clause-filled : goal.erase_step-requires-clause-filled
erase_step-requires-clause-filled g c = sym c.lacks_frames.ensures ∙ c.if-lacks_frames.false
