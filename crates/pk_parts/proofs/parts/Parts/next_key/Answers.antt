use Rattle.pk_parts.proofs.parts.Parts.next_key.Goals as goal

pub next-requires-clause-left : goal.next-requires-clause-left
next-requires-clause-left g c =
    let may = rw (← c.self.view_is) at c.requires.may in
    rw (c.active-active.ensures, c.frozen-frozen.ensures) may.left

pub returns-clause-gives : goal.returns-clause-gives
returns-clause-gives g c = rw (← c.self.view_is) (rw (c.active-active.ensures, c.frozen-frozen.ensures) at c.next.ensures.gives)
