use Rattle.std.proofs.Common.{ap, sym, ◌∙◌}
use Rattle.pk_root.specs.Installing.{repeats_next}
use Rattle.pk_parts.specs.Parts.{Parts}
use Rattle.pk_background.proofs.Pairs.{settled_half, settled_whole}
use Rattle.pk_background.proofs.pair.settle.Goals as goal

pub finish_root-requires-clause-half : goal.finish_root-requires-clause-half
finish_root-requires-clause-half g c = ap (λ (d : Parts). repeats_next d.log.next) (sym c.parts.view_is) ∙ (sym c.repeats_next.ensures ∙ c.if-repeats_next.true)

pub returns-then-repeats_next : goal.returns-then-repeats_next
returns-then-repeats_next g c =
    settled_half _ _ _ _ _ (ap (λ (d : Parts). repeats_next d.log.next) (sym c.parts.view_is) ∙ (sym c.repeats_next.ensures ∙ c.if-repeats_next.true)) c.finish_root.ensures

pub returns-else-repeats_next : goal.returns-else-repeats_next
returns-else-repeats_next g c = settled_whole _ _ (ap (λ (d : Parts). repeats_next d.log.next) (sym c.parts.view_is) ∙ (sym c.repeats_next.ensures ∙ c.if-repeats_next.false))
