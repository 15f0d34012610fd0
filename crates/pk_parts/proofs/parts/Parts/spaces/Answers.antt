use Rattle.std.proofs.Common.{◌∙◌, List, ℕ, sym, ap, length}
use Rattle.pk_parts.{specs.Parts.drive_limits, proofs.OwnLimits.held_limits, proofs.OwnLimits.reported_length}
use Rattle.pk_parts.proofs.parts.Parts.spaces.Goals as goal

pub returns-clause-value : goal.returns-clause-value
returns-clause-value g c = c.spaces.ensures.value ∙ ap (λ (limits : List ℕ). length limits) (held_limits c.root.result.now _ _ c.root.ensures ∙ ap drive_limits c.self.view_is)

pub returns-clause-number : goal.returns-clause-number
returns-clause-number g c =
    let d = c.args.self.now in
    c.spaces.ensures.value ∙ ap (λ (limits : List ℕ). length limits) (held_limits c.root.result.now _ _ c.root.ensures ∙ ap drive_limits c.self.view_is)
    ∙ sym (reported_length d.spaces 1 (drive_limits d))
