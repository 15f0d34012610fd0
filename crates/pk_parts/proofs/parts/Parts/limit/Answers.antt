use Rattle.std.proofs.Common.{◌∙◌, ◌-◌, ◌≤◌, List, ℕ, sym, ap, subst, length}
use Rattle.std.specs.Prelude.{slice_index}
use Rattle.pk_parts.{specs.Parts.drive_limits, proofs.OwnLimits.held_limits}
use Rattle.pk_parts.proofs.parts.Parts.limit.Goals as goal

pub space_limit-requires : goal.space_limit-requires
space_limit-requires g c =
    (c.requires.0, subst (λ (limits : List ℕ). c.args.space ≤ length limits) (sym (held_limits c.root.result.now _ _ c.root.ensures ∙ ap drive_limits c.self.view_is)) c.requires.1)

pub returns : goal.returns
returns g c = c.space_limit.ensures ∙ ap (λ (limits : List ℕ). slice_index limits (c.args.space - 1)) (held_limits c.root.result.now _ _ c.root.ensures ∙ ap drive_limits c.self.view_is)
