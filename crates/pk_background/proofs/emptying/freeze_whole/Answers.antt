use Rattle.std.proofs.Common.{ap, ◌∙◌}
use Rattle.pk_root.specs.Installing.{repeats_next}
use Rattle.pk_parts.specs.Parts.{Parts}
use Rattle.pk_background.proofs.Whole.{may_settle_freeze, frozen_settled, frozen_failed}
use Rattle.pk_background.proofs.emptying.freeze_whole.Goals as goal

pub settle-requires : goal.settle-requires
settle-requires g c = record { may = may_settle_freeze _ _ _ _ c.requires.may (rw c.in-Ok.is at c.freeze_once.ensures.once) }

pub returns-in-Ok-settle : goal.returns-in-Ok-settle
returns-in-Ok-settle g c =
    frozen_settled _ _ _ _ c.requires.may (rw c.in-Ok.is at c.freeze_once.ensures.once) _ _ c.repeats_next-ends.result
    (c.repeats_next-ends.ensures ∙ ap (λ (d : Parts). repeats_next d.log.next) c.parts.view_is) _ (rw c.in-Ok-settle.is at c.settle.ensures)

pub returns-in-Err-settle : goal.returns-in-Err-settle
returns-in-Err-settle g c =
    frozen_settled _ _ _ _ c.requires.may (rw c.in-Ok.is at c.freeze_once.ensures.once) _ _ c.repeats_next-ends.result
    (c.repeats_next-ends.ensures ∙ ap (λ (d : Parts). repeats_next d.log.next) c.parts.view_is) _ (rw c.in-Err-settle.is at c.settle.ensures)

pub returns-in-Err : goal.returns-in-Err
returns-in-Err g c = frozen_failed _ _ _ _ c.requires.may _ (rw c.in-Err.is at c.freeze_once.ensures.once)
