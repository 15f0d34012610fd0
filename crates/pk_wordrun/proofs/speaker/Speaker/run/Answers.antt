use Rattle.std.proofs.Common.{sym, subst}
use Rattle.pk_base.{specs.Shape.Shape, specs.Map.Map}
use Rattle.pk_nand.specs.Calls.{IsReady}
use Rattle.pk_call.specs.Drive.{HoldsMap}
use Rattle.pk_port.{specs.Ready.Fits, specs.Steps.mount}
use Rattle.pk_wordrun.proofs.Opening.{fits-opened}
use Rattle.pk_wordrun.proofs.speaker.Speaker.run.Given as given
use Rattle.pk_wordrun.proofs.speaker.Speaker.run.Goals as goal
use Rattle.pk_wordrun.proofs.speaker.Speaker.run.Goals.{After-held_map}

-- the drive fits its board
fits : (g : given.Over) (c : After-held_map g) → Fits (g.D.Engine.agrees c.args.drive.now) c.self.inside.shape (g.B.Nand.state c.args.board.now) (g.D.Engine.sight c.args.drive.now)
fits g c =
    let b = g.B.Nand.state c.args.board.now in
    let d = g.D.Engine.sight c.args.drive.now in
    let R : Shape → Type 0 = λ s. IsReady b s in
    let H : Shape → Type 0 = λ s. (m : Map) × HoldsMap s (mount b d).terms b d m in
    fits-opened (g.D.Engine.agrees c.args.drive.now) c.self.inside.shape b d c.known.ensures c.held_map.ensures
    (subst R (sym c.self.view_is) c.requires.ready) c.requires.agrees c.requires.none (subst H (sym c.self.view_is) c.requires.stands)

pub tell-requires-clause-fits : goal.tell-requires-clause-fits
tell-requires-clause-fits g c = let f = fits g (goal.at.tell-requires-clause-fits g c).After-held_map in ∣ f ∣₁

pub tell_keys-requires-clause-fits : goal.tell_keys-requires-clause-fits
tell_keys-requires-clause-fits g c = let f = fits g (goal.at.tell_keys-requires-clause-fits g c).After-held_map in ∣ f ∣₁

pub tell_workload-requires-clause-fits : goal.tell_workload-requires-clause-fits
tell_workload-requires-clause-fits g c = fits g (goal.at.tell_workload-requires-clause-fits g c).After-held_map
