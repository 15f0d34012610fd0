use Rattle.std.proofs.Common.{◌≡◌, ap, sym, ◌∙◌, arith, is_some, None, rules}
use Rattle.pk_walk.{specs.Heads.Head, proofs.Moving.at_page}
use Rattle.pk_walk.proofs.Holding.{holding_shows, holding_goes_on, known_shows, known_goes_on, ready_finds, ready_here, unknown}
use Rattle.pk_walk.proofs.seek.seek.Goals.{Else-is_known}
use Rattle.pk_walk.proofs.seek.seek.Given as given
use Rattle.pk_walk.proofs.seek.seek.Goals as goal

-- what is wanted first is to be looked for
sought : (g : given.Over) (c : Else-is_known g) → c.args.cursor.now.head ≡ None
sought g c = unknown c.args.cursor.now.head (ap (λ (h : Head). is_some h) (sym c.head.ensures) ∙ sym c.is_known.ensures ∙ c.if-is_known.false)

pub seek_page-requires-clause-sought : goal.seek_page-requires-clause-sought
seek_page-requires-clause-sought g c = sought g (goal.at.seek_page-requires-clause-sought g c).Else-is_known

pub returns-then-is_known-clause-shows : goal.returns-then-is_known-clause-shows
returns-then-is_known-clause-shows g c =
    known_shows c.requires.may (ap (λ (h : Head). is_some h) (sym c.head.ensures) ∙ sym c.is_known.ensures ∙ c.if-is_known.true) c.known.ensures.shape

pub returns-then-is_known-clause-on : goal.returns-then-is_known-clause-on
returns-then-is_known-clause-on g c = record { goes_on = known_goes_on c.requires.may; same = search rules; ready = search rules }

pub hold_next-requires-clause-page : goal.hold_next-requires-clause-page
hold_next-requires-clause-page g c = search (ready_here, sought, at_page, c.requires.may, c.known.ensures.shape, c.known.ensures.kept, c.is_ready.ensures, c.requires.may.stands)

pub hold_next-requires-clause-room : goal.hold_next-requires-clause-room
hold_next-requires-clause-room g c = let inside = (c.is_ready.ensures c.if-is_ready.true).1 in omega (arith, inside, c.entries.ensures)

pub returns-then-is_ready-clause-shows : goal.returns-then-is_ready-clause-shows
returns-then-is_ready-clause-shows g c =
    let at = goal.at.returns-then-is_ready-clause-shows g c in
    let finds = ready_finds c.requires.may c.known.ensures.shape c.known.ensures.kept (sought g at.Else-is_known)
    (c.is_ready.ensures c.if-is_ready.true) {e = c.hold_next.ensures.0} c.hold_next.ensures.2 in
    holding_shows finds c.hold_next.ensures.1

pub returns-then-is_ready-clause-on : goal.returns-then-is_ready-clause-on
returns-then-is_ready-clause-on g c =
    let at = goal.at.returns-then-is_ready-clause-on g c in
    let finds = ready_finds c.requires.may c.known.ensures.shape c.known.ensures.kept (sought g at.Else-is_known)
    (c.is_ready.ensures c.if-is_ready.true) {e = c.hold_next.ensures.0} c.hold_next.ensures.2 in
    search (holding_goes_on finds c.hold_next.ensures.1 c.known.ensures.shape c.requires.may.shape_is (known_goes_on c.requires.may), rules)
