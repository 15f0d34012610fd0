use Rattle.std.proofs.Common.{◌≡◌, ◌∙◌, ap, [], ◌∷◌, length, slice_index}
use Rattle.pk_pool.{specs.Blocks.given_back, specs.Blocks.freed, proofs.Leaving.left_and_freed, proofs.Leaving.freed_fits, proofs.Leaving.unfreed_fits}
use Rattle.pk_plan.specs.declared.owner.Owner.TheVariants.{Journal}
use Rattle.pk_compact.proofs.Pairs.{two_are}
use Rattle.pk_schedule.proofs.exchange.retire_named.Goals as goal

pub returns-in-Some-clause-left : goal.returns-in-Some-clause-left
returns-in-Some-clause-left g c =
    let two : length c.in-Some.blocks ≡ 2 = assumption (c.well_formed, c.retire_epoch.lifetimes) in
    rw c.in-Some.is
    (ap freed c.retire_epoch.ensures.left ∙ left_and_freed Journal c.args.pool.now (slice_index c.in-Some.blocks 0 ∷ slice_index c.in-Some.blocks 1 ∷ [])
    ∙ ap (given_back (freed c.args.pool.now)) (two_are c.in-Some.blocks two))

pub returns-in-Some-clause-fits : goal.returns-in-Some-clause-fits
returns-in-Some-clause-fits g c = λ flash fits. freed_fits c.retire_epoch.new.pool flash (c.retire_epoch.ensures.fits flash (unfreed_fits c.args.pool.now flash fits))
