use Rattle.std.proofs.Common.{◌≤◌, ℕ, refl, subst, length}
use Rattle.pk_parts.{specs.Parts.Parts, specs.Parts.IsParts, specs.Parts.drive_limits, proofs.OwnLimits.reported_length}
use Rattle.pk_core.{proofs.Counting.agrees_counts, proofs.Steadying.between_steady}
use Rattle.pk_core.proofs.engine.DriveEngine.counts.Goals as goal

pub returns-clause-numbers : goal.returns-clause-numbers
returns-clause-numbers g c = rw (← c.self.view_is) (c.counts.ensures.drive, c.counts.ensures.here)

pub returns-clause-map : goal.returns-clause-map
returns-clause-map g c = λ shape flash m agrees runs is.
    let d = c.args.self.now in
    let most : c.args.space ≤ length (drive_limits d) = subst (λ (n : ℕ). c.args.space ≤ n) (reported_length d.spaces 1 (drive_limits d)) c.requires.1 in
    agrees_counts d shape flash m agrees.0 is c.args.space c.requires.0 most

pub returns-clause-steady : goal.returns-clause-steady
returns-clause-steady g c = λ shape flash m agrees runs is. between_steady c.args.self.now _ shape flash agrees refl
    (subst (λ (d : Parts). IsParts d) c.self.view_is c.known.ensures)
