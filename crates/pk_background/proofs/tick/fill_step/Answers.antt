use Rattle.std.{proofs.Common.subst, specs.List.AllByRecursion}
use Rattle.pk_run.specs.Kept.{IsKept}
use Rattle.pk_level.specs.Levels.{IsLevels}
use Rattle.pk_parts.specs.Parts.{Parts}
use Rattle.pk_background.proofs.Filling.{fills_none, fills_one}
use Rattle.pk_background.proofs.tick.fill_step.Goals as goal

pub returns-in-Ok : goal.returns-in-Ok
returns-in-Ok g c =
    let r = c.requires in
    let levels = subst (λ (d : Parts). IsLevels d.levels) c.parts.view_is c.known.ensures.levels in
    let runs = subst (λ (d : Parts). AllByRecursion IsKept d.levels.runs) c.parts.view_is c.known.ensures.runs in
    fills_one _ _ r.may r.whole r.merged _ _ c.in-Ok.ensures.fills c.fill_once.ensures.ready r.frozen r.reclaimed r.unfilled levels runs

pub returns-in-Err : goal.returns-in-Err
returns-in-Err g c =
    let r = c.requires in
    let e = c.in-Err.ensures in
    fills_none _ _ r.may r.whole r.merged _ _ e.err.0 e.err.1 e.kept c.fill_once.ensures.ready r.frozen r.reclaimed r.unfilled
