use Rattle.std.proofs.Common.{◌∙◌, sym, ap}
use Rattle.pk_scan.{specs.Adopts.has_owner, proofs.Owned.owned_is}
use Rattle.pk_scan.proofs.taken.is_owned.Goals as goal

pub returns : goal.returns
returns g c = c.has_owner.ensures ∙ ap has_owner c.state.ensures ∙ sym (owned_is c.args.pool.now c.args.block)
