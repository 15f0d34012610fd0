use Rattle.std.proofs.Common.{arith, rules}
use Rattle.pk_walk.proofs.Holding.{holding_shows, holding_goes_on, place_fits}
use Rattle.pk_walk.proofs.seek.seek_page.Goals as goal

pub hold-requires : goal.hold-requires
hold-requires g c some = let inside = place_fits c.in-Ok.found c.in-Ok.ensures.finds some in omega (arith, inside, c.entries.ensures)

pub returns-in-Ok-clause-shows : goal.returns-in-Ok-clause-shows
returns-in-Ok-clause-shows g c = holding_shows c.in-Ok.ensures.finds c.hold.ensures

pub returns-in-Ok-clause-on : goal.returns-in-Ok-clause-on
returns-in-Ok-clause-on g c = search (holding_goes_on c.in-Ok.ensures.finds c.hold.ensures c.known.ensures.shape c.requires.may.shape_is c.in-Ok.ensures.on.goes_on, rules)
