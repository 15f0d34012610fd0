use Rattle.std.proofs.Common.{◌≡◌, ◌∙◌, ap, arith, min}
use Rattle.pk_call.specs.Sight.{live_of_all}
use Rattle.pk_parts.specs.Parts.{Parts, spaces_of}
use Rattle.pk_core.proofs.Counting.{agrees_live, agrees_few}
use Rattle.pk_core.proofs.engine.DriveEngine.live_pages.Goals as goal

pub returns-clause-map : goal.returns-clause-map
returns-clause-map g c = λ shape flash m agrees runs is.
    let d = c.args.self.now in
    let same : c.live_pages.result ≡ min (live_of_all (spaces_of d)) 4294967295 = c.live_pages.ensures ∙ ap (λ (x : Parts). min (live_of_all (spaces_of x)) 4294967295) c.self.view_is in
    let few = agrees_few d shape flash m agrees.0 is in
    let its = agrees_live d shape flash m agrees.0 is in
    omega (arith, same, few, its)
