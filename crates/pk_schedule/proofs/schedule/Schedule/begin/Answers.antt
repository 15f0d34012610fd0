use Rattle.std.proofs.Common.{◌≤◌, length, sym, subst}
use Rattle.pk_buf.specs.Table.{Table}
use Rattle.pk_schedule.proofs.Beginning.{begins_by}
use Rattle.pk_schedule.proofs.schedule.Schedule.begin.Goals as goal

pub returns-in-Some-clause-moves : goal.returns-in-Some-clause-moves
returns-in-Some-clause-moves g c = λ e arena pool board ready frames top found m may.
    let bound = subst (λ (t : Table). length t.entries ≤ t.capacity) c.frozen.ensures c.len.ensures.bound in
    let next = rw (c.len.ensures.len, c.frozen.ensures) at (sym c.in-Some.ensures.target) in
    rw (← c.self.view_is) (begins_by _ frames board top found m
    (rw (← c.self.view_is) at may) c.known.ensures.levels c.known.ensures.runs bound (rw (← c.self.view_is) at c.requires.idle) c.in-Some.level
    next g.row.A.Denot ready c.begin.new.self c.begin.ensures.begun c.begin.ensures.runs c.known-in-Some.ensures.within).0

pub returns-in-Some-clause-less : goal.returns-in-Some-clause-less
returns-in-Some-clause-less g c = λ e arena pool board ready frames top found m may.
    let bound = subst (λ (t : Table). length t.entries ≤ t.capacity) c.frozen.ensures c.len.ensures.bound in
    let next = rw (c.len.ensures.len, c.frozen.ensures) at (sym c.in-Some.ensures.target) in
    rw (← c.self.view_is) (begins_by _ frames board top found m
    (rw (← c.self.view_is) at may) c.known.ensures.levels c.known.ensures.runs bound (rw (← c.self.view_is) at c.requires.idle) c.in-Some.level
    next g.row.A.Denot ready c.begin.new.self c.begin.ensures.begun c.begin.ensures.runs c.known-in-Some.ensures.within).1
