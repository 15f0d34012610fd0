use Rattle.pk_live.proofs.Live.known.Goals as goal

pub returns : goal.returns
returns g c =
    let i = c.self.invariant in
    rw (← c.self.view_is) (record { some = i.positive; small = i.small; few = i.few; pages = i.pages; short = i.short })
