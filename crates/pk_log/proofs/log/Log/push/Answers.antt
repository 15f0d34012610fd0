use Rattle.std.proofs.Common.{subst, sym, ◌≤◌}
use Rattle.pk_base.{specs.Key.space_of, specs.Entry.key_of, specs.Seen.entry as seen}
use Rattle.pk_model.{specs.Laws.IsStorable, specs.RootLimits.root_spaces}
use Rattle.pk_log.{specs.State.LogState, proofs.Pushing.seen_push, proofs.Pushing.keys_fit, proofs.Pushing.stands_pushed}
use Rattle.pk_log.proofs.log.Log.push.Goals as goal

pub returns-clause-stands : goal.returns-clause-stands
returns-clause-stands g c flash top found logs =
    let l = rw (← c.self.view_is) at logs in
    let r = rw (← c.self.view_is) at c.requires in
    let storable = subst (λ (x : LogState). IsStorable x.shape (seen c.args.new)) (sym c.self.view_is) c.requires.storable in
    let own = subst (λ (x : LogState). space_of (key_of (seen c.args.new)) ≤ root_spaces x.shape x.root) (sym c.self.view_is) c.requires.spaced in
    rw (c.put.ensures, c.copy.ensures, c.push_reserved.ensures.items, seen_push c.self.inside.pending.items c.args.new)
    (stands_pushed _ (seen c.args.new) flash top found l r.room r.few r.whole storable own)

pub returns-clause-fits : goal.returns-clause-fits
returns-clause-fits g c flash top found logs =
    let l = rw (← c.self.view_is) at logs in
    let bound = rw (c.put.ensures, c.copy.ensures) at c.len-2.ensures.bound in
    rw (← c.self.view_is) (keys_fit _ (seen c.args.new) flash top found l bound)
